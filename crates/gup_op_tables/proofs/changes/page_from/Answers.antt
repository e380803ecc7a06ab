use Rattle.std.proofs.Common.{ℕ, MatchOption, subst}
use Rattle.gup_maps.specs.Maps.{IsNextPage, IsLastPage}
use Rattle.gup_space.specs.Space.{space_of}
use Rattle.gup_op_tables.proofs.Released.{found_from, none_past, past_numbers}
use Rattle.gup_op_tables.proofs.changes.page_from.Goals as goal

pub returns : goal.returns
returns c =
    let S = space_of c.args.space.now in
    found_from S.right c.args.from c.next_page.result
    (subst (λ (from : ℕ). MatchOption c.next_page.result (IsLastPage S.right from) (IsNextPage S.right from)) c.in-Some.ensures.value c.next_page.ensures)

pub returns-in_default : goal.returns-in_default
returns-in_default c = none_past (space_of c.args.space.now).right c.args.from (past_numbers c.args.from c.new.result c.in_default.is c.new.ensures.some)
