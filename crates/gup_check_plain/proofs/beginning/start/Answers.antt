use Rattle.std.proofs.Common.{arith}
use Rattle.gup_exec_plain.specs.Parts.{state_of}
use Rattle.gup_check_plain.proofs.BegunLemmas.{all_begun}
use Rattle.gup_check_plain.proofs.beginning.start.Goals as goal

pub returns-clause-state : goal.returns-clause-state
returns-clause-state c =
    all_begun c.args.script.now (state_of c.loop-p.plain) c.loop-p.p (omega arith) c.loop-p.invariant.state
