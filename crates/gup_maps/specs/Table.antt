-- Tables: values at some of the pages, kept as rows of a page and its value.
use Rattle.std.specs.Prelude.{◌≡◌, ℕ, ◌+◌, ◌==◌, ◌<◌, ◌≤◌, Bool, not, is_some, if◌then◌else◌, List, [], ◌∷◌, ◌++◌, map, length, slice_index, Option, None, Some, IsSome, zero, suc}
use Rattle.gup_plain.specs.Denial.{any_below}
use Rattle.gup_plain.specs.Pages.{page_numbers}

-- the value at a page, where there is one
abbrev pub at : {V : Type 0} → List (ℕ × V) → ℕ → Option V
at [] page = None
at (row ∷ rows) page = if page == row.0 then Some row.1 else at rows page

-- does one of the n pages from the first on have a value, or have none?
abbrev pub any_present : {V : Type 0} → (ℕ → Option V) → (page n : ℕ) → Bool
any_present value page n = any_below n (λ k. is_some (value (page + k)))

abbrev pub any_absent : {V : Type 0} → (ℕ → Option V) → (page n : ℕ) → Bool
any_absent value page n = any_below n (λ k. not (is_some (value (page + k))))

-- the page is the least mapped one at or above this one
pub record IsNextPage {V : Type 0} (value : ℕ → Option V) (from page : ℕ) : Type 0 where
  pub mapped : IsSome (value page)
  pub above : from ≤ page
  pub least : (g : ℕ) → from ≤ g → g < page → value g ≡ None

-- none is mapped at or above this one
abbrev pub IsLastPage : {V : Type 0} → (ℕ → Option V) → (from : ℕ) → Type 0
IsLastPage value from = (g : ℕ) → from ≤ g → value g ≡ None

-- the pages of the rows
abbrev pub pages_of : {V : Type 0} → List (ℕ × V) → List ℕ
pages_of rows = map (λ row. row.0) rows

-- each page is above all before it
abbrev pub IsOrdered : List ℕ → Type 0
IsOrdered pages = (i j : ℕ) → i < j → j < length pages → slice_index pages i < slice_index pages j

-- each has a number that a page may have
abbrev pub AreNumbered : List ℕ → Type 0
AreNumbered pages = (i : ℕ) → i < length pages → slice_index pages i < page_numbers

-- the pages before this place, and no others, are below the page
pub record IsPlace (pages : List ℕ) (page place : ℕ) : Type 0 where
  pub within : place ≤ length pages
  pub before : (i : ℕ) → i < place → slice_index pages i < page
  pub behind : (i : ℕ) → place ≤ i → i < length pages → page ≤ slice_index pages i

-- the page stands at this place
abbrev pub IsThere : List ℕ → (page place : ℕ) → Type 0
IsThere pages page place = (place < length pages) × (slice_index pages place ≡ page)

-- none of the n pages from this one on stands there, and this is the place where they would
pub record IsGap (pages : List ℕ) (page n place : ℕ) : Type 0 where
  pub stands : IsPlace pages page place
  pub behind : (i : ℕ) → place ≤ i → i < length pages → page + n ≤ slice_index pages i

-- the n pages from this one on stand at this place
pub record IsRun (pages : List ℕ) (page n place : ℕ) : Type 0 where
  pub within : place + n ≤ length pages
  pub each : (k : ℕ) → k < n → slice_index pages (place + k) ≡ page + k

-- what a table keeps of its rows: their order, that their pages are numbers of pages, and that they are few
pub record IsKept {V : Type 0} (rows : List (ℕ × V)) : Type 0 where
  pub ordered : IsOrdered (pages_of rows)
  pub numbered : AreNumbered (pages_of rows)
  pub few : length rows ≤ 1024

-- the first row is among the items or after all, and there is room for 1,024 items and no need of more
pub record HasRoom (start items capacity : ℕ) : Type 0 where
  pub within : start ≤ items
  pub few : items ≤ 1024
  pub room : 1024 ≤ capacity

-- the rows of n pages from this one on, with one value
abbrev pub run : {V : Type 0} → (page n : ℕ) → V → List (ℕ × V)
run page zero value = []
run page (suc n) value = run page n value ++ (page + n, value) ∷ []
