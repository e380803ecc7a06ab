-- The mappings of one process.
use Rattle.std.specs.Prelude.{ℕ, List, length, Option, None}
use Rattle.gup_base.specs.declared.entry.Rights.{Rights}
pub use Rattle.gup_maps.specs.Table.{IsNextPage, IsLastPage}
use Rattle.gup_maps.specs.Table.{at}

-- the rights of each page, where it is mapped, and how many pages are
pub record MapsValue : Type 0 where
  pub right : ℕ → Option Rights
  pub pages : ℕ

abbrev pub no_maps : MapsValue
no_maps = record { right = λ _. None; pages = 0 }

-- the mappings that a table of rights has
abbrev pub maps_of : List (ℕ × Rights) → MapsValue
maps_of rights = record { right = at rights; pages = length rights }
