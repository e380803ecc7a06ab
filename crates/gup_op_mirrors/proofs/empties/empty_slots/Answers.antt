use Rattle.std.proofs.Common.{◌≡◌, Option, Some, None, sym, ap, ◌∙◌}
use Rattle.gup_spec_turns.specs.Turn.{op_turn}
use Rattle.gup_notify.specs.Mirrors.{Filled, MirrorsValue, mirrors_of}
use Rattle.gup_op_mirrors.proofs.EmptiedSlots.{none_left}
use Rattle.gup_op_mirrors.proofs.empties.empty_slots.Goals as goal

not_both : (o : Option Filled) (filled : Filled) → o ≡ None → o ≡ Some filled → ⊥
not_both o filled none some = cc (sym none ∙ some)

-- no slot is filled
pub returns-else-is_any_filled : goal.returns-else-is_any_filled
returns-else-is_any_filled c s t who slots k shown mirrored sound of_who far place at left notes =
    let old : MirrorsValue = mirrors_of c.args.mirrors.now in
    none_left old s t (op_turn s c.args.actor who.proc slots k c.args.op.now).events mirrored left notes
    (λ m filled is. absurd (not_both (old m) filled (ap (λ (f : MirrorsValue). f m) c.if-is_any_filled.ensures.none) is))
