use Rattle.std.proofs.Common.{ℕ, ◌<◌, get_or}
use Rattle.gup_script.specs.declared.op.Op.{Op}
use Rattle.gup_script.specs.Valid.{IsOp}
use Rattle.gup_op_pages.specs.Alone.{IsAlone}
use Rattle.gup_test_machine.proofs.machine.are_ops.Given as goal

-- those so far are in range, of one process and no pins
abbrev pub invariant-loop-op : goal.invariant-loop-op
invariant-loop-op l =
    record {
      range : (k : ℕ) (x : Op) → k < l.op-index → IsOp (get_or l.ops k x);
      alone : (k : ℕ) (x : Op) → k < l.op-index → IsAlone (get_or l.ops k x);
    }
