-- The mirror slots of devices, and what an invalidation leaves of them.
use Rattle.std.specs.Prelude.{ℕ, ◌<◌, ◌==◌, ◌&&◌, Bool, false, if◌then◌else◌, List, slice_index_or, Option, Some, None, IsSome, option_map}
use Rattle.gup_base.specs.declared.entry.Entry.{Entry}
use Rattle.gup_plain.specs.Put.{within}
use Rattle.gup_notify.specs.declared.mirrors.Mirror.{Mirror}

-- what a filled slot has: a process, a page of it, and the frame that the page's entry had then
abbrev pub Filled : Type 0
Filled = Mirror

-- what each slot has, by its number, where it is filled
abbrev pub MirrorsValue : Type 0
MirrorsValue = ℕ → Option Filled

-- the slots of this list, and empty ones past its end
abbrev pub mirrors_of : List (Option Filled) → MirrorsValue
mirrors_of slots m = slice_index_or slots m None

-- all slots are empty
abbrev pub no_mirrors : MirrorsValue
no_mirrors m = None

-- one of the 64 slots is filled
abbrev pub IsAnyFilled : MirrorsValue → Type 0
IsAnyFilled mirrors = (m : ℕ) × (m < 64) × IsSome (mirrors m)

-- what a slot has once it is filled with a page that has this entry
abbrev pub filled_with : (p page : ℕ) → Option Entry → Option Filled
filled_with p page entry = option_map (λ (e : Entry). record { proc = p; page = page; frame = e.frame }) entry

-- whether a slot is filled with one of the n pages of the process from this one on
abbrev pub is_of : (p page n : ℕ) → Option Filled → Bool
is_of p page n None = false
is_of p page n (Some filled) = (p == filled.proc) && within page n filled.page

-- those slots are empty, and all others are as they were
abbrev pub without : (p page n : ℕ) → MirrorsValue → MirrorsValue
without p page n mirrors m = if is_of p page n (mirrors m) then None else mirrors m
