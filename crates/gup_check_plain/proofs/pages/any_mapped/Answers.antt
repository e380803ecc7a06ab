use Rattle.gup_exec_plain.specs.Parts.{state_of}
use Rattle.gup_check_plain.proofs.PagesLemmas.{found_mapped}
use Rattle.gup_check_plain.proofs.pages.any_mapped.Goals as goal

pub returns-then-is_some : goal.returns-then-is_some
returns-then-is_some c =
    found_mapped ((state_of c.args.plain.now).right c.args.p) c.args.page c.args.n c.loop-k.k c.nth.result c.rights.result
    c.loop-k-test.true c.nth.ensures c.rights.ensures.rights c.if-is_some.ensures
