-- The stores of devices at the start.
use Rattle.std.specs.Prelude.{◌≡◌, ℕ, List, Option, Some, None}
use Rattle.gup_device.specs.Store.{store_of, no_words}

-- it has so many slots, all 0; whoever has no slots has no store
abbrev pub IsEmptyStore : (slots : ℕ) → Option (List ℕ) → Type 0
IsEmptyStore slots None = slots ≡ 0
IsEmptyStore slots (Some words) = store_of words ≡ no_words slots
