-- Lists of pages.
use Rattle.std.specs.Prelude.{ℕ, List, Contains}

-- the page is one of these
unfoldable pub IsOneOf : List ℕ → ℕ → Type 0
IsOneOf pages page = Contains pages page
