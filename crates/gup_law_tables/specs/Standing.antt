-- What is true of the page tables of every state that the core machine reaches.
use Rattle.std.specs.Prelude.{◌≡◌, ℕ, ◌<◌, ◌≤◌, ◌||◌, ◌⊎◌, Bool, true, false, is_some, List, Option, Some, None, IsSome}
use Rattle.gup_base.specs.declared.entry.Allowed.{Allowed}
use Rattle.gup_base.specs.declared.entry.Entry.{Entry}
use Rattle.gup_spec_tables.specs.declared.place.Place.{Place}
use Rattle.gup_spec_tables.specs.Tables.{table_numbers, table_at, above, lacks, is_among, AreApart}
use Rattle.gup_spec_events.specs.State.{CoreState, Counted, Job, moving}

-- The tables of one process stand at different places of the four levels, each but the root below another, and the root
-- over all pages.
pub record IsTree (place : ℕ → Option Place) : Type 0 where
  pub numbered : (table : ℕ) (at : Place) → place table ≡ Some at → table < table_numbers
  pub levels : (table : ℕ) (at : Place) → place table ≡ Some at → (0 < at.level) × (at.level ≤ 4)
  pub root : (table : ℕ) (at : Place) → place table ≡ Some at → at.level ≡ 4 → at.span ≡ 0
  pub apart : (table other : ℕ) (at : Place) → place table ≡ Some at → place other ≡ Some at → table ≡ other
  pub linked : (table : ℕ) (at : Place) → place table ≡ Some at → at.level < 4 → IsSome (table_at place (above at))

-- has a process the table, whose tree this is, and which has taken these out of it?
abbrev pub has : (place : ℕ → Option Place) → (retired : List ℕ) → (table : ℕ) → Bool
has place retired table = is_some (place table) || is_among retired table

-- Each process has a tree of tables. A table is free, or of one process, and there it stands in the tree, or was taken out of
-- it once.
pub record AreOwned (free : ℕ → Bool) (place : ℕ → ℕ → Option Place) (retired : ℕ → List ℕ) : Type 0 where
  pub trees : (p : ℕ) → IsTree (place p)
  pub free_small : (table : ℕ) → free table ≡ true → table < table_numbers
  pub taken : (p table : ℕ) → has (place p) (retired p) table ≡ true → free table ≡ false
  pub one_owner : (p q table : ℕ) → has (place p) (retired p) table ≡ true → has (place q) (retired q) table ≡ true → p ≡ q
  pub waiting : (p table : ℕ) → is_among (retired p) table ≡ true → (table < table_numbers) × (place p table ≡ None)
  pub once : (p : ℕ) → AreApart (retired p)

abbrev pub has_table : CoreState → (p table : ℕ) → Bool
has_table s p table = has (s.place p) (s.retired p) table

abbrev pub TablesStand : CoreState → Type 0
TablesStand s = AreOwned s.free_table s.place s.retired

-- the table is free, or some process has it
abbrev pub IsSomewhere : CoreState → (table : ℕ) → Type 0
IsSomewhere s table = (s.free_table table ≡ true) ⊎ ((p : ℕ) × (has_table s p table ≡ true))

-- the state is the other one, but for its tables
abbrev pub IsButForTables : (s t : CoreState) → Type 0
IsButForTables s t = t ≡ record s { free_table = t.free_table; place = t.place; retired = t.retired }

-- how many tables of its path a page lacks in a tree
abbrev pub lacking : (place : ℕ → Option Place) → (page : ℕ) → ℕ
lacking place page = lacks (record { entry = λ _. None; place = place; tables = 0; room = 0 }) page

-- Each page with an entry lacks no table, and neither does one whose entry is cleared, to be moved and put back.
pub record HavePaths (place : ℕ → ℕ → Option Place) (entry : ℕ → ℕ → Option Entry) (job : ℕ → Job) : Type 0 where
  pub entered : (p page : ℕ) (e : Entry) → entry p page ≡ Some e → lacking (place p) page ≡ 0
  pub cleared : (a p page : ℕ) (e : Entry) (allowed : Allowed) (count : Counted) → job a ≡ moving p page e allowed count → lacking (place p) page ≡ 0

-- so it is where entries need tables
abbrev pub EntriesStand : CoreState → Type 0
EntriesStand s = s.needs_tables ≡ true → HavePaths s.place s.entry s.job
