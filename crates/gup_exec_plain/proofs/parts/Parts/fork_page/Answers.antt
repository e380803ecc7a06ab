use Rattle.std.proofs.Common.{◌≡◌, ℕ, ◌<◌, Bool, true, false, refl, subst, sym, ◌∙◌, ap}
use Rattle.gup_plain.specs.Put.{put, spread}
use Rattle.gup_plain.specs.declared.event.PlainEvent.TheVariants as events
use Rattle.gup_exec_plain.proofs.Processes.{At, page_copied, untouched}
use Rattle.gup_exec_plain.proofs.Refusals.{refused}
use Rattle.gup_exec_parts.proofs.SpaceLemmas.{absurd_truth}
use Rattle.gup_exec_plain.specs.Parts.{state_of}
use Rattle.gup_exec_parts.specs.Space.{SpaceState}
use Rattle.gup_exec_parts.specs.declared.space.Space.{Space}
use Rattle.gup_exec_plain.proofs.parts.Parts.fork_page.Goals as goal

pub returns-then-not-has_copied_none-clause-event : goal.returns-then-not-has_copied_none-clause-event
returns-then-not-has_copied_none-clause-event c =
    let P : SpaceState → Type 0 = λ x. (word : ℕ) → word < 512 → x.copied c.args.page word ≡ false in
    (λ can. absurd_truth (c.if-not-has_copied_none.ensures.1 (subst P (sym c.space.ensures) can.1)), refl)

pub returns-in_err-touch-clause-event : goal.returns-in_err-touch-clause-event
returns-in_err-touch-clause-event c =
    let was : Space = c.index_mut-space.result.now in
    let at : At c.args.self.now c.args.child c.get.result was = record { index = c.get.ensures.value; below = c.get.ensures.below; spaces = c.requires.all.spaces; is = c.index_mut-space.ensures.value } in
    refused (state_of c.args.self.now) _ (events.ForkPage c.args.parent c.args.child c.args.page) c.from_residual.result tt c.from_residual.ensures.1
    (untouched c.args.self.now c.args.child c.get.result was c.touch.new.self c.args.self.now.contents at refl refl c.touch.ensures.birth c.touch.ensures.pages c.touch.ensures.copied)

pub returns-in_err-copy-clause-event : goal.returns-in_err-copy-clause-event
returns-in_err-copy-clause-event c =
    let was : Space = c.index_mut-space.result.now in
    let at : At c.args.self.now c.args.child c.get.result was = record { index = c.get.ensures.value; below = c.get.ensures.below; spaces = c.requires.all.spaces; is = c.index_mut-space.ensures.value } in
    refused (state_of c.args.self.now) _ (events.ForkPage c.args.parent c.args.child c.args.page) c.from_residual-in_err-copy.result tt c.from_residual-in_err-copy.ensures.1
    (untouched c.args.self.now c.args.child c.get.result was c.touch.new.self c.copy.new.self at c.in_err-copy.ensures.made c.in_err-copy.ensures.err c.touch.ensures.birth c.touch.ensures.pages c.touch.ensures.copied)

pub returns-clause-event : goal.returns-clause-event
returns-clause-event c =
    let was : Space = c.index_mut-space.result.now in
    let at : At c.args.self.now c.args.child c.get.result was = record { index = c.get.ensures.value; below = c.get.ensures.below; spaces = c.requires.all.spaces; is = c.index_mut-space.ensures.value } in
    let P : SpaceState → Type 0 = λ x. (word : ℕ) → word < 512 → x.copied c.args.page word ≡ false in
    let objects = c.in-Some.ensures in
    let set : (ℕ → ℕ → Bool) → ℕ → ℕ → Bool = λ copied. put c.args.page (spread 0 512 (λ _. true) (copied c.args.page)) copied in (
      (objects.0, subst P c.space.ensures (c.if-not-has_copied_none.ensures.0 refl)),
      page_copied c.args.self.now c.args.parent c.args.child c.get.result c.args.page c.in-Some.from c.in-Some.to was c.copy_page.new.self c.copy.new.self at
          objects.1 objects.2 c.in_ok-copy.ensures.made c.in_ok-copy.ensures.ok (c.copy_page.ensures.birth ∙ c.touch.ensures.birth) (c.copy_page.ensures.pages ∙ c.touch.ensures.pages)
          (c.copy_page.ensures.copied ∙ ap set c.touch.ensures.copied),
    )
