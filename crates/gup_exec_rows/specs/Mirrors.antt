-- Mirror slots.
use Rattle.std.specs.Prelude.{◌≡◌, ℕ, Option, Some, IsSome}
use Rattle.std.specs.BTreeMap.{get}
use Rattle.std.specs.Ordering.{nat_cmp}
use Rattle.gup_plain.specs.State.{Noted}
use Rattle.gup_exec_rows.specs.declared.mirrors.Mirrors.{Mirrors}
use Rattle.gup_exec_rows.specs.Row.{at}

-- the frame of a slot, if it is filled
unfoldable pub frames_in : Mirrors → ℕ → Option ℕ
frames_in mirrors = get nat_cmp mirrors.frames

-- what a slot was filled with last
unfoldable pub notes_in : Mirrors → ℕ → Option Noted
notes_in mirrors = at mirrors.notes

-- the slot was filled with another page than this, if with any
unfoldable pub IsElsewhere : (ℕ → Option Noted) → (p page m : ℕ) → Type 0
IsElsewhere notes p page m = (noted : Noted) → notes m ≡ Some noted → noted.proc ≡ p → noted.page ≡ page → ⊥

-- no slot is filled with the page
abbrev pub IsClear : Mirrors → (p page : ℕ) → Type 0
IsClear mirrors p page =
    (m : ℕ) (noted : Noted) → IsSome (frames_in mirrors m) → notes_in mirrors m ≡ Some noted → noted.proc ≡ p → noted.page ≡ page → ⊥
