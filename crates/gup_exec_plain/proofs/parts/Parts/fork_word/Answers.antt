use Rattle.std.proofs.Common.{◌≡◌, ℕ, Bool, true, false, refl, subst, sym, ◌∙◌, ap}
use Rattle.gup_plain.specs.Put.{put}
use Rattle.gup_plain.specs.declared.event.PlainEvent.TheVariants as events
use Rattle.gup_exec_plain.proofs.Processes.{At, word_copied, untouched}
use Rattle.gup_exec_plain.proofs.Refusals.{refused}
use Rattle.gup_exec_plain.specs.Parts.{state_of}
use Rattle.gup_exec_parts.specs.Space.{SpaceState}
use Rattle.gup_exec_parts.specs.declared.space.Space.{Space}
use Rattle.gup_exec_plain.proofs.parts.Parts.fork_word.Goals as goal

pub returns-in_err-touch-clause-event : goal.returns-in_err-touch-clause-event
returns-in_err-touch-clause-event c =
    let was : Space = c.index_mut-space.result.now in
    let at : At c.args.self.now c.args.child c.get.result was = record { index = c.get.ensures.value; below = c.get.ensures.below; spaces = c.requires.all.spaces; is = c.index_mut-space.ensures.value } in
    refused (state_of c.args.self.now) _ (events.ForkWord c.args.parent c.args.child c.args.page c.args.word) c.from_residual.result tt c.from_residual.ensures.1
    (untouched c.args.self.now c.args.child c.get.result was c.touch.new.self c.args.self.now.contents at refl refl c.touch.ensures.birth c.touch.ensures.pages c.touch.ensures.copied)

pub returns-in_err-write-clause-event : goal.returns-in_err-write-clause-event
returns-in_err-write-clause-event c =
    let was : Space = c.index_mut-space.result.now in
    let at : At c.args.self.now c.args.child c.get.result was = record { index = c.get.ensures.value; below = c.get.ensures.below; spaces = c.requires.all.spaces; is = c.index_mut-space.ensures.value } in
    refused (state_of c.args.self.now) _ (events.ForkWord c.args.parent c.args.child c.args.page c.args.word) c.from_residual-in_err-write.result tt c.from_residual-in_err-write.ensures.1
    (untouched c.args.self.now c.args.child c.get.result was c.touch.new.self c.write.new.self at c.in_err-write.ensures.made c.in_err-write.ensures.err c.touch.ensures.birth c.touch.ensures.pages c.touch.ensures.copied)

pub returns-clause-event : goal.returns-clause-event
returns-clause-event c =
    let was : Space = c.index_mut-space.result.now in
    let at : At c.args.self.now c.args.child c.get.result was = record { index = c.get.ensures.value; below = c.get.ensures.below; spaces = c.requires.all.spaces; is = c.index_mut-space.ensures.value } in
    let P : SpaceState → Type 0 = λ x. x.copied c.args.page c.args.word ≡ false in
    let objects = c.in-Some.ensures in
    let set : (ℕ → ℕ → Bool) → ℕ → ℕ → Bool = λ copied. put c.args.page (put c.args.word true (copied c.args.page)) copied in (
      (objects.0, subst P c.space.ensures (sym c.if-has_copied.ensures)),
      word_copied c.args.self.now c.args.parent c.args.child c.get.result c.args.page c.args.word c.in-Some.from c.in-Some.to c.read-value.result was c.copy_word.new.self c.write.new.self at
          objects.1 objects.2 c.read-value.ensures c.in_ok-write.ensures.made c.in_ok-write.ensures.ok (c.copy_word.ensures.birth ∙ c.touch.ensures.birth) (c.copy_word.ensures.pages ∙ c.touch.ensures.pages)
          (c.copy_word.ensures.copied ∙ ap set c.touch.ensures.copied),
    )
