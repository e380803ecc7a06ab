-- Which operations are of a process, and whose they are.
use Rattle.std.specs.Prelude.{◌≡◌, ℕ, true, false, Option, Some, None}
use Rattle.gup_script.specs.declared.op.Op.{Op}
use Rattle.gup_script.specs.declared.op.Op.TheVariants.{Unpin, Give, Take, Transfer, Look}
use Rattle.gup_spec_journal.specs.Place.{Doer}

abbrev pub HasProcess : Op → Type 0
HasProcess (Unpin handle) = ⊥
HasProcess (Give handle to) = ⊥
HasProcess (Take handle) = ⊥
HasProcess (Transfer handle outward slot parts) = ⊥
HasProcess (Look mirror word) = ⊥
HasProcess op = Unit {0}

-- the process of whoever is a thread, moves a page or fills a slot with one
abbrev pub IsProcessOf : Doer → Option ℕ → Type 0
IsProcessOf who (Some p) = (who.of_process ≡ true) × (who.proc ≡ p)
IsProcessOf who None = who.of_process ≡ false
