-- Lists that begin with a list, as the pieces of lines have them.
use Rattle.std.proofs.Common.{◌≡◌, ℕ, List, ◌++◌}
use Rattle.gup_lines.specs.Text.{BeginsWith}
use Rattle.gup_lines.proofs.Fronts.{begins-self, begins-then, begins-same, begins-trans}

pub ruleset fronts = (begins-self, begins-then, begins-same, begins-trans)

-- one that goes on begins with what it began with
pub begins_on : (first old new more : List ℕ) → BeginsWith old first → new ≡ old ++ more → BeginsWith new first
begins_on first old new more begins is = begins-trans new old first (begins-then new new old more is (begins-self new)) begins
