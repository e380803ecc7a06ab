-- Jobs of direct I/O: what is moved where, and when it fits.
use Rattle.std.specs.Prelude.{ℕ, ◌+◌, ◌&&◌, nat_le, Bool, List}
use Rattle.std.specs.List.{list_all}
use Rattle.gup_base.specs.Parts.{Part}
use Rattle.gup_plain.specs.Denial.{has_words, has_slots}

-- a transfer's parts, and the first of its slots
pub record JobValue : Type 0 where
  pub first_slot : ℕ
  pub parts : List Part

abbrev pub job_of : (first_slot : ℕ) → List Part → JobValue
job_of first_slot parts = record { first_slot = first_slot; parts = parts }

-- its words are words of so many pages, and its slots are of a store of so many
abbrev pub fits_in : (pages slots : ℕ) → JobValue → Bool
fits_in pages slots job = has_words pages job.parts && has_slots slots job.first_slot job.parts

-- the words of these parts are among so many
abbrev pub are_within : (many : ℕ) → List Part → Bool
are_within many parts = list_all (λ (part : Part). nat_le (part.0 + part.1) many) parts
