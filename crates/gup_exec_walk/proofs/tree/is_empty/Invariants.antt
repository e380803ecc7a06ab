use Rattle.std.proofs.Common.{◌≡◌, ℕ, ◌<◌, ◌==◌, not, false}
use Rattle.gup_spec_events.specs.Event.{tree_in}
use Rattle.gup_spec_tables.specs.Tables.{on_path, word_here}
use Rattle.gup_exec_core.specs.State.{state_of}
use Rattle.gup_exec_walk.proofs.tree.is_empty.Given as goal

-- each word so far is 0
abbrev pub invariant-loop-i : goal.invariant-loop-i
invariant-loop-i l = (j : ℕ) → j < l.i → not (word_here (tree_in (state_of l.trial) l.p) (on_path l.level l.page) j == 0) ≡ false
