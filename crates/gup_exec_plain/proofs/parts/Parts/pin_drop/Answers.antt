use Rattle.std.proofs.Common.{◌==◌, not, List, Contains, filter, refl, sym, subst, ◌∙◌, ap}
use Rattle.gup_plain.specs.Event.{pending_pages}
use Rattle.gup_plain.specs.Put.{put}
use Rattle.gup_plain.specs.State.{Pending}
use Rattle.gup_exec_plain.proofs.Actors.{AtActor, pending-at, taken_changed, same_taken}
use Rattle.gup_exec_parts.proofs.TakenLemmas.{lacks, taken-has}
use Rattle.gup_exec_plain.specs.Parts.{state_of, pending_of}
use Rattle.gup_exec_parts.specs.declared.actor.Actor.{Actor}
use Rattle.gup_exec_plain.proofs.parts.Parts.pin_drop.Goals as goal

pub returns-then-not-has_page-clause-event : goal.returns-then-not-has_page-clause-event
returns-then-not-has_page-clause-event c =
    let was : Actor = c.index_mut-by.result.now in
    let at : AtActor c.args.self.now c.args.actor c.get.result was = record { index = c.get.ensures.value; below = c.requires.actor; is = c.index_mut-by.ensures.value } in
    let pending = pending-at c.args.self.now c.args.actor c.get.result was at in
    let P : List Pending → Type 0 = λ taken. Contains (pending_pages taken) c.args.page → ⊥ in (
      subst P (sym pending) (subst P c.deref.ensures.value (lacks c.deref.result.now c.args.page c.if-not-has_page.ensures)),
      same_taken c.args.self.now c.args.actor c.get.result was was at refl refl,
    )

pub returns-clause-event : goal.returns-clause-event
returns-clause-event c =
    let was : Actor = c.index_mut-by.result.now in
    let at : AtActor c.args.self.now c.args.actor c.get.result was = record { index = c.get.ensures.value; below = c.requires.actor; is = c.index_mut-by.ensures.value } in
    let pending = pending-at c.args.self.now c.args.actor c.get.result was at in
    let P : List Pending → Type 0 = λ taken. Contains (pending_pages taken) c.args.page in
    let F : List Pending → List Pending = λ taken. filter (λ (t : Pending). not (t.page == c.args.page)) taken in (
      subst P (sym pending) (subst P c.deref.ensures.value (taken-has c.deref.result.now c.args.page (sym c.if-not-has_page.ensures))),
      taken_changed c.args.self.now c.args.actor c.get.result was (record was { taken = c.drop_page.new.taken }) at refl
          ∙ ap (λ (taken : List Pending). record (state_of c.args.self.now) { pending = put c.args.actor taken (pending_of c.args.self.now) }) (c.drop_page.ensures ∙ ap F (sym pending)),
    )
