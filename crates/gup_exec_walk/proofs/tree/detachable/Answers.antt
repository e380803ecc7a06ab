use Rattle.std.proofs.Common.{sym, ◌∙◌, arith}
use Rattle.gup_spec_events.specs.Event.{tree_in}
use Rattle.gup_exec_core.specs.State.{state_of}
use Rattle.gup_exec_walk.proofs.Emptied.{detached_at}
use Rattle.gup_exec_walk.proofs.tree.detachable.Goals as goal

pub returns-then-is_empty : goal.returns-then-is_empty
returns-then-is_empty c =
    let v = tree_in (state_of c.args.trial.now) c.args.p in
    let few = c.if-lacks-ge3.false in
    let h = detached_at v c.args.page c.lacks-lacks.result c.in-Some.table c.is_empty.result c.lacks-lacks.ensures.value (omega arith) (sym c.in-Some.is ∙ c.table_on.ensures) c.is_empty.ensures in
    rw c.if-is_empty.true at h

pub returns-else-is_empty : goal.returns-else-is_empty
returns-else-is_empty c =
    let v = tree_in (state_of c.args.trial.now) c.args.p in
    let few = c.if-lacks-ge3.false in
    let h = detached_at v c.args.page c.lacks-lacks.result c.in-Some.table c.is_empty.result c.lacks-lacks.ensures.value (omega arith) (sym c.in-Some.is ∙ c.table_on.ensures) c.is_empty.ensures in
    rw c.if-is_empty.false at h
