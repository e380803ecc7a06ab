use Rattle.std.proofs.Common.{ℕ, MatchOption, subst}
use Rattle.gup_maps.specs.Maps.{IsNextPage, IsLastPage}
use Rattle.gup_space.specs.Space.{space_of}
use Rattle.gup_op_tables.proofs.MappedPages.{lowest_found}
use Rattle.gup_op_tables.proofs.pages.lowest_page.Goals as goal

pub returns : goal.returns
returns c =
    let S = space_of c.args.space.now in
    lowest_found S c.next_page.result c.requires
    (subst (λ (from : ℕ). MatchOption c.next_page.result (IsLastPage S.right from) (IsNextPage S.right from)) c.in_ok-first.ensures.value c.next_page.ensures)
