-- The pages that a process has mapped: a map from page numbers to rights and objects.
use Rattle.std.specs.Prelude.{◌≡◌, ℕ, ◌+◌, ◌-◌, ◌<◌, ◌≤◌, Option, Some, None, IsSome}
use Rattle.std.specs.Option.{option_map_or, option_map}
use Rattle.gup_base.specs.declared.entry.Rights.{Rights}
use Rattle.gup_plain.specs.Pages.{page_numbers}
use Rattle.gup_exec_parts.specs.declared.pages.Page.{Page}

abbrev pub page_with : Rights → (object : ℕ) → Page
page_with rights object = record { rights = rights; object = object }

-- the pages from first on, with these rights and the objects from this one on
abbrev pub pages_from : (first : ℕ) → Rights → (object : ℕ) → ℕ → Option Page
pages_from first rights object page = Some (page_with rights (object + (page - first)))

-- the rights of a page, and its object, which is 0 where it isn't mapped
abbrev pub right_in : Option Page → Option Rights
right_in found = option_map (λ (p : Page). p.rights) found

abbrev pub object_in : Option Page → ℕ
object_in found = option_map_or (λ (p : Page). p.object) found 0

abbrev pub with_object : ℕ → Option Page → Option Page
with_object object found = option_map (λ (p : Page). page_with p.rights object) found

abbrev pub with_rights : Rights → Option Page → Option Page
with_rights rights found = option_map (λ (p : Page). page_with rights p.object) found

-- the same pages, each with an object of its own
abbrev pub own_objects : (objects : ℕ) → (ℕ → Option Page) → ℕ → Option Page
own_objects objects pages page = with_object (objects + page) (pages page)

-- each page that is mapped has a number that a page may have
abbrev pub AreNumbered : (ℕ → Option Page) → Type 0
AreNumbered pages = (page : ℕ) → IsSome (right_in (pages page)) → page < page_numbers

-- no page of the range is mapped
abbrev pub AreFree : (ℕ → Option Page) → (first n : ℕ) → Type 0
AreFree pages first n = (k : ℕ) → k < n → pages (first + k) ≡ None

-- no page from this one on, below the other, is mapped
abbrev pub AreFreeBetween : (ℕ → Option Page) → (from below : ℕ) → Type 0
AreFreeBetween pages from below = (page : ℕ) → from ≤ page → page < below → pages page ≡ None

-- each page of the range is mapped
abbrev pub AreMapped : (ℕ → Option Page) → (first n : ℕ) → Type 0
AreMapped pages first n = (k : ℕ) → k < n → IsSome (pages (first + k))
