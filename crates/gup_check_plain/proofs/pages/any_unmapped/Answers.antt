use Rattle.gup_exec_plain.specs.Parts.{state_of}
use Rattle.gup_check_plain.proofs.PagesLemmas.{found_unmapped}
use Rattle.gup_check_plain.proofs.pages.any_unmapped.Goals as goal

pub returns-then-is_none : goal.returns-then-is_none
returns-then-is_none c =
    found_unmapped ((state_of c.args.plain.now).right c.args.p) c.args.page c.args.n c.loop-k.k c.nth.result c.rights.result
    c.loop-k-test.true c.nth.ensures c.rights.ensures.rights c.if-is_none.ensures
