use Rattle.std.proofs.Common.{◌≡◌, refl, subst₂, ◌∙◌}
use Rattle.gup_plain.specs.Note.{JournalValue}
use Rattle.gup_core.specs.Machine.{MachineValue}
use Rattle.gup_core.specs.Going.{Advances}
use Rattle.gup_core.proofs.inner.Inner.go.Goals.{then-stands_copying+else-copies_word, else-stands_copying}
use Rattle.gup_core.proofs.inner.Inner.go.Goals as goal

pub returns-then-copies_word-clause-advances : goal.returns-then-copies_word-clause-advances
returns-then-copies_word-clause-advances c = c.if-copies_word.ensures.advances refl

pub returns-clause-advances : goal.returns-clause-advances
returns-clause-advances c =
    let went : (m : MachineValue) (j : JournalValue) → c.if-stands_copying.self ≡ m → c.if-stands_copying.journal ≡ j → Advances m c.go_any.new.self j c.go_any.new.journal c.args.actor c.go_any.result =
    λ m j machine journal. subst₂ (λ (x : MachineValue) (y : JournalValue). Advances x c.go_any.new.self y c.go_any.new.journal c.args.actor c.go_any.result) machine journal c.go_any.ensures.advances in
    elim c.if-stands_copying.branch [
      | then-stands_copying+else-copies_word w ↦
          went c.args.self.now c.args.journal.now (w.self-is ∙ (w.if-copies_word.ensures.stays refl).0) (w.journal-is ∙ (w.if-copies_word.ensures.stays refl).1)
      | else-stands_copying w ↦ went c.args.self.now c.args.journal.now w.self-is w.journal-is
    ]
