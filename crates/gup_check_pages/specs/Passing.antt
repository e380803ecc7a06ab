-- Which operations go page by page, and how far one has come, by when pages were mapped.
use Rattle.std.specs.Prelude.{ℕ, Option, Some, unwrap_or}
use Rattle.gup_plain.specs.State.{PlainState}
use Rattle.gup_script.specs.Limits.{most_processes}
use Rattle.gup_script.specs.declared.op.Op.{Op}
use Rattle.gup_script.specs.declared.op.Op.TheVariants.{Unmap, Discard, Fork, Exit}
use Rattle.gup_spec_accepted.specs.Passing.{Going}
use Rattle.gup_spec_check.specs.Times.{unnamed_since}

abbrev pub GoesByPages : Option Op → Type 0
GoesByPages (Some (Unmap page n)) = Unit {0}
GoesByPages (Some (Discard page n)) = Unit {0}
GoesByPages (Some (Fork child)) = Unit {0}
GoesByPages (Some Exit) = Unit {0}
GoesByPages op = ⊥

-- the number of a process, or that of none
abbrev pub number_of : Option ℕ → ℕ
number_of process = unwrap_or process most_processes

abbrev pub timed_going : PlainState → (mapped : ℕ → ℕ → ℕ) → (since next p : ℕ) → Going
timed_going s mapped since next p = record { next = next; unnamed = unnamed_since s mapped since p }
