-- One process: its birth, its pages, and, while it grows, which words of which pages are copied.
use Rattle.std.specs.Prelude.{◌≡◌, ℕ, ◌+◌, ◌<◌, ◌≤◌, Bool, false, Option, None, IsSome}
use Rattle.std.specs.BTreeMap.{get, btree_map_len}
use Rattle.std.specs.Ordering.{nat_cmp}
use Rattle.gup_plain.specs.Event.{page_numbers, most_pages}
use Rattle.gup_plain.specs.State.{Birth, unborn, growing, born, failed}
use Rattle.gup_exec_parts.specs.declared.pages.Page.{Page}
use Rattle.gup_exec_parts.specs.declared.space.Birth.{Birth as Stage}
use Rattle.gup_exec_parts.specs.declared.space.Birth.TheVariants as stages
use Rattle.gup_exec_parts.specs.declared.space.Space.{Space}
use Rattle.gup_exec_parts.specs.Flags.{flag_of}
use Rattle.gup_exec_parts.specs.Pages.{right_in, AreNumbered}
use Rattle.gup_exec_parts.specs.Tables.{at_key}

abbrev pub birth_of : Stage → Birth
birth_of stages.Unborn = unborn
birth_of (stages.Growing parent) = growing parent
birth_of stages.Born = born
birth_of stages.Failed = failed

-- pages and words
abbrev pub copied_of : Space → ℕ → ℕ → Bool
copied_of s = at_key flag_of (λ _. false) s.copied

-- what the plain state has of one process
pub record SpaceState : Type 0 where
  pub birth : Birth
  pub page : ℕ → Option Page
  pub pages : ℕ
  pub copied : ℕ → ℕ → Bool

abbrev pub seen : Space → SpaceState
seen s =
    record { birth = birth_of s.birth; page = get nat_cmp s.pages; pages = btree_map_len s.pages; copied = copied_of s }

abbrev pub blank : SpaceState
blank = record { birth = unborn; page = λ _. None; pages = 0; copied = λ _ _. false }

-- The process is born, none of the pages is mapped, and there are not too many with them.
abbrev pub CanMap : SpaceState → (page n : ℕ) → Type 0
CanMap x page n =
    (x.birth ≡ born) × (page + n ≤ page_numbers) × ((k : ℕ) → k < n → right_in (x.page (page + k)) ≡ None)
    × (x.pages + n ≤ most_pages)

-- the process is born, and each of the pages is mapped
abbrev pub CanProtect : SpaceState → (page n : ℕ) → Type 0
CanProtect x page n = (x.birth ≡ born) × ((k : ℕ) → k < n → IsSome (right_in (x.page (page + k))))

-- what is mapped has a number that a page may have
abbrev pub HasNumbers : SpaceState → Type 0
HasNumbers x = AreNumbered x.page
