use Rattle.std.proofs.Common.{sym}
use Rattle.gup_exec_plain.specs.Parts.{state_of}
use Rattle.gup_check_plain.proofs.BegunLemmas.{not_begun, is_born_now}
use Rattle.gup_check_plain.proofs.beginning.begin.Goals as goal

pub birth-requires-clause-unborn : goal.birth-requires-clause-unborn
birth-requires-clause-unborn c = not_begun c.args.script.now (state_of c.args.plain.now) c.args.p c.requires.before

pub returns-then-is_born-clause-state : goal.returns-then-is_born-clause-state
returns-then-is_born-clause-state c =
    is_born_now c.args.script.now (state_of c.args.plain.now) (state_of c.birth.new.self) c.args.p (sym c.if-is_born.ensures) c.requires.before c.birth.ensures.state
