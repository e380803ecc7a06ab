use Rattle.std.proofs.Common.{arith}
use Rattle.gup_check_judge.proofs.Holding.{holds_shown}
use Rattle.gup_check_judge.proofs.waits.holds_for.Goals as goal

pub returns-then-progress : goal.returns-then-progress
returns-then-progress c seen times shows knows present =
    holds_shown c.args.script.now c.args.kept.now seen times c.args.actor c.args.other c.in-Some.progress.now c.args.op.now c.op_behind-held.result c.locks.result
    shows knows c.in-Some.ensures (grind (arith, c.if-eq.ensures)) c.if-progress.true c.op_behind-held.ensures c.locks.ensures present
