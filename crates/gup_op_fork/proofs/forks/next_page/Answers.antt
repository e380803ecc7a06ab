use Rattle.std.proofs.Common.{◌^◌, ◌≤◌, is_some, arith}
use Rattle.gup_space.specs.Space.{space_of}
use Rattle.gup_op_fork.proofs.Forking.{next_found, none_past}
use Rattle.gup_op_fork.proofs.forks.next_page.Goals as goal

pub returns-in_default : goal.returns-in_default
returns-in_default c =
    let past : 2 ^ 35 ≤ c.args.from = grind (arith, c.in_default.ensures.some) in
    none_past c.args.from (λ page. is_some ((space_of c.args.child.now).right page)) past

pub returns : goal.returns
returns c = rw c.in-Some.ensures.value at (next_found (space_of c.args.child.now) c.in-Some.first c.next_page.result c.requires c.next_page.ensures)
