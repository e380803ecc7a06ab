-- The pages that the code finds are those of the state.
use Rattle.std.proofs.Common.{◌≡◌, ℕ, ◌<◌, Option, Some, None, is_some, MatchOption, sym, arith}
use Rattle.gup_maps.specs.Maps.{IsNextPage, IsLastPage}
use Rattle.gup_plain.specs.Event.{page_numbers}
use Rattle.gup_space.specs.Space.{SpaceValue}
use Rattle.gup_spec_turns.specs.PageTurns.{lowest_page}
use Rattle.gup_op_base.specs.Tidy.{AreNumbered}
use Rattle.gup_op_pages.proofs.Unmapping.{found_at, none_found, unmapped_is, below_numbers}

-- the lowest mapped page
pub lowest_found : (S : SpaceValue) (found : Option ℕ) → AreNumbered S → MatchOption found (IsLastPage S.right 0) (IsNextPage S.right 0) → found ≡ lowest_page S.right
lowest_found S None numbered last = sym (none_found 0 page_numbers (λ g. is_some (S.right g)) (λ g above. unmapped_is (S.right g) (last g above)))
lowest_found S (Some page) numbered next =
    let below : page < page_numbers = below_numbers S page numbered next.mapped in
    sym (found_at 0 page_numbers page (λ g. is_some (S.right g)) (omega arith) (omega arith) next.mapped (λ g least less. unmapped_is (S.right g) (next.least g least less)))
