use Rattle.std.proofs.Common.{rules}
use Rattle.std.proofs.lemmas.Bool.Decides.{nat_tests}
use Rattle.std.proofs.lemmas.Slice.Eq.{slice_eq-Decides}
use Rattle.gup_exec_jobs.proofs.taken.are_same.Goals as goal

pub returns : goal.returns
returns c = slice_eq-Decides (λ a b. search (rules, nat_tests)) c.args.taken.now c.args.others.now c.eq.result c.eq.ensures
