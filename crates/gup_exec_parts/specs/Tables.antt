-- Maps and lists, read as functions of numbers.
use Rattle.std.specs.Prelude.{ℕ, List, slice_get}
use Rattle.std.specs.Option.{option_map_or}
use Rattle.std.specs.Ordering.{nat_cmp}
use Rattle.std.specs.BTreeMap.{BTreeMap, get}

-- what the map has at a number, read by f, and d where it has nothing
abbrev pub at_key : {X Y : Type 0} → (X → Y) → Y → BTreeMap ℕ X → ℕ → Y
at_key f d m k = option_map_or f (get nat_cmp m k) d

-- what the list has at a place, read by f, and d past its end
abbrev pub at_place : {X Y : Type 0} → (X → Y) → Y → List X → ℕ → Y
at_place f d xs k = option_map_or f (slice_get xs k) d
