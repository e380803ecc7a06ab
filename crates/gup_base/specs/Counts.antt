-- What a pin weighs in the count of its frame.
use Rattle.std.specs.Prelude.{ℕ}

-- what a pin adds to the count of its frame, and from which count on a frame may be pinned
abbrev pub bias : ℕ
bias = 1024

-- how many slots the store of a device may have
abbrev pub most_slots : ℕ
most_slots = 4096
