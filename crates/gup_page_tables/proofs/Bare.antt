-- A process of which no table stands anywhere has no root.
use Rattle.std.proofs.Common.{◌≡◌, ℕ, Option, None, refl}
use Rattle.gup_bits.proofs.Lowest.{lowest_none}
use Rattle.gup_spec_tables.specs.declared.place.Place.{Place}
use Rattle.gup_spec_tables.specs.Tables.{table_numbers, table_at, is_at, on_path}

pub no_root : (place : ℕ → Option Place) → ((table : ℕ) → place table ≡ None) → table_at place (on_path 4 0) ≡ None
no_root place none = lowest_none 0 table_numbers (λ table. is_at (on_path 4 0) (place table)) (λ table more less. rw (none table) refl)
