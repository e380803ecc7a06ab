use Rattle.std.proofs.Common.{ℕ, List, [], ◌∷◌, ◌++◌, Contains, refl, sym, subst, ◌∙◌, ap}
use Rattle.gup_plain.specs.Event.{pending_pages}
use Rattle.gup_plain.specs.Put.{put}
use Rattle.gup_plain.specs.State.{Pending}
use Rattle.gup_plain.specs.declared.event.PlainEvent.TheVariants as events
use Rattle.gup_exec_plain.proofs.Actors.{AtActor, pending-at, taken_changed, same_taken}
use Rattle.gup_exec_plain.proofs.Refusals.{refused}
use Rattle.gup_exec_parts.proofs.TakenLemmas.{lacks, taken-has}
use Rattle.gup_exec_plain.specs.Parts.{state_of, pending_of}
use Rattle.gup_exec_parts.specs.declared.actor.Actor.{Actor}
use Rattle.gup_exec_plain.proofs.parts.Parts.pin_try.Goals as goal

pub returns-then-has_page-clause-event : goal.returns-then-has_page-clause-event
returns-then-has_page-clause-event c =
    let was : Actor = c.index_mut-by.result.now in
    let at : AtActor c.args.self.now c.args.actor c.get.result was = record { index = c.get.ensures.value; below = c.requires.actor; is = c.index_mut-by.ensures.value } in
    let pending = pending-at c.args.self.now c.args.actor c.get.result was at in
    let P : List Pending → Type 0 = λ taken. Contains (pending_pages taken) c.args.page in
    let there = subst P (sym pending) (subst P c.deref.ensures.value (taken-has c.deref.result.now c.args.page (sym c.if-has_page.ensures))) in
    (λ can. can.2 there, same_taken c.args.self.now c.args.actor c.get.result was was at refl refl)

pub returns-in_err-push-clause-event : goal.returns-in_err-push-clause-event
returns-in_err-push-clause-event c =
    let was : Actor = c.index_mut-by.result.now in
    let at : AtActor c.args.self.now c.args.actor c.get.result was = record { index = c.get.ensures.value; below = c.requires.actor; is = c.index_mut-by.ensures.value } in
    let pending = pending-at c.args.self.now c.args.actor c.get.result was at in
    refused (state_of c.args.self.now) _ (events.PinTry c.args.actor c.args.p c.args.page c.args.write) c.from_residual.result tt c.from_residual.ensures.1
    (same_taken c.args.self.now c.args.actor c.get.result was (record was { taken = c.push.new.taken }) at refl c.in_err-push.ensures.err)

pub returns-clause-event : goal.returns-clause-event
returns-clause-event c =
    let was : Actor = c.index_mut-by.result.now in
    let at : AtActor c.args.self.now c.args.actor c.get.result was = record { index = c.get.ensures.value; below = c.requires.actor; is = c.index_mut-by.ensures.value } in
    let pending = pending-at c.args.self.now c.args.actor c.get.result was at in
    let can = c.in-Some.ensures in
    let P : List Pending → Type 0 = λ taken. Contains (pending_pages taken) c.args.page → ⊥ in
    let one : ℕ → List Pending = λ object. record { page = c.args.page; object = object; write = c.args.write } ∷ [] in (
      (can.0, can.1, subst P (sym pending) (subst P c.deref.ensures.value (lacks c.deref.result.now c.args.page c.if-has_page.ensures))),
      taken_changed c.args.self.now c.args.actor c.get.result was (record was { taken = c.push.new.taken }) at refl
          ∙ ap (λ (taken : List Pending). record (state_of c.args.self.now) { pending = put c.args.actor taken (pending_of c.args.self.now) })
          (c.in_ok-push.ensures.ok ∙ ap (λ (n : ℕ). was.taken.items ++ one n) can.2 ∙ ap (λ (taken : List Pending). taken ++ one ((state_of c.args.self.now).object c.args.p c.args.page)) (sym pending)),
    )
