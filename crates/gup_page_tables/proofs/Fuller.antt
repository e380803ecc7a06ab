-- A page that lacks no table lacks none when another table is put into the tree.
use Rattle.std.proofs.Common.{◌≡◌, ◌≢◌, ℕ, ◌+◌, ◌<◌, Bool, true, false, if◌then◌else◌, Option, Some, None, is_some, refl, ap, sym, ◌∙◌, arith}
use Rattle.gup_plain.specs.Put.{put}
use Rattle.gup_spec_tables.specs.declared.place.Place.{Place}
use Rattle.gup_spec_tables.specs.Tables.{table_numbers, TreeValue, table_at, on_path, missing, lacks, with_table}
use Rattle.gup_tables.proofs.Places.{put_other, at_some, at_none}

-- where a table was found, one is
module _ (place : ℕ → Option Place) (table : ℕ) (at p : Place) (new : place table ≡ None) where
  apart : (other : ℕ) → place other ≡ Some p → other ≢ table
  apart other there same = let none : Some p ≡ None = sym there ∙ ap place same ∙ new in absurd cc

  one_there : (other : ℕ) → table_at place p ≡ Some other → is_some (table_at (put table (Some at) place) p) ≡ true
  one_there other found = go (at_some place p other found) (table_at (put table (Some at) place) p) refl
    where
      go : (other < table_numbers) × (place other ≡ Some p) → (o : Option ℕ) → table_at (put table (Some at) place) p ≡ o → is_some (table_at (put table (Some at) place) p) ≡ true
      go there None none = absurd (at_none (put table (Some at) place) p none other there.0 (put_other table (Some at) place other (apart other there.1) ∙ there.1))
      go there (Some found) is = rw is refl

  still_there : (o : Option ℕ) → table_at place p ≡ o → is_some (table_at place p) ≡ true → is_some (table_at (put table (Some at) place) p) ≡ true
  still_there None is some = let none : is_some (table_at place p) ≡ false = rw is refl in absurd cc
  still_there (Some other) is some = one_there other is

one_missing : (b : Bool) → ◌≡◌ {A = ℕ} (if b then 0 else 1) 0 → b ≡ true
one_missing true none = refl
one_missing false none = absurd cc

none_more : (a b : Bool) → (a ≡ true → b ≡ true) → ◌≡◌ {A = ℕ} (if a then 0 else 1) 0 → ◌≡◌ {A = ℕ} (if b then 0 else 1) 0
none_more a b still none = rw (still (one_missing a none)) refl

all_none : (k l m n : ℕ) → k + l + m + n ≡ 0 → (k ≡ 0) × (l ≡ 0) × (m ≡ 0) × (n ≡ 0)
all_none k l m n none = (omega (arith, none), omega (arith, none), omega (arith, none), omega (arith, none))

none_at_all : (k l m n : ℕ) → k ≡ 0 → l ≡ 0 → m ≡ 0 → n ≡ 0 → k + l + m + n ≡ 0
none_at_all k l m n one two three four = omega (arith, one, two, three, four)

pub fuller : (v : TreeValue) (table page g : ℕ) → v.place table ≡ None → lacks v g ≡ 0 → lacks (with_table table page v) g ≡ 0
fuller v table page g new full =
    let each = all_none (missing v 1 g) (missing v 2 g) (missing v 3 g) (missing v 4 g) full in
    none_at_all (missing (with_table table page v) 1 g) (missing (with_table table page v) 2 g) (missing (with_table table page v) 3 g) (missing (with_table table page v) 4 g) (at_level 1 each.0) (at_level 2 each.1) (at_level 3 each.2) (at_level 4 each.3)
  where
    at_level : (level : ℕ) → missing v level g ≡ 0 → missing (with_table table page v) level g ≡ 0
    at_level level none =
        none_more (is_some (table_at v.place (on_path level g))) (is_some (table_at (with_table table page v).place (on_path level g)))
        (still_there v.place table (on_path (lacks v page) page) (on_path level g) new (table_at v.place (on_path level g)) refl) none
