use Rattle.std.proofs.Common.{ap}
use Rattle.gup_plain.specs.State.{PlainState}
use Rattle.gup_test_plain.proofs.plain_events.started.Goals as goal

pub birth-requires-clause-unborn : goal.birth-requires-clause-unborn
birth-requires-clause-unborn c = ap (λ (s : PlainState). s.birth c.args.first) c.in_ok-plain.ensures.state
