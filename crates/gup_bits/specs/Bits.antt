-- Sets of numbers, kept as the bits of words.
use Rattle.std.specs.Prelude.{ℕ, ◌*◌, ◌==◌, ◌/◌, ◌%◌, Bool, List, length, slice_index}
use Rattle.std.specs.Int.{bit_at}

-- is the number in the set? It is where its bit is 1, of the 64 bits of its word
abbrev pub has : List ℕ → ℕ → Bool
has words k = bit_at (slice_index words (k / 64)) (k % 64) == 1

-- the set has room for the numbers below this one
abbrev pub room_of : List ℕ → ℕ
room_of words = 64 * length words
