-- The words of one page, as a list and as a function.
use Rattle.std.specs.Prelude.{ℕ, List, replicate, slice_index, nat_lt, if◌then◌else◌}
use Rattle.gup_plain.specs.Event.{words}

-- the word with this number, of the 512 that a page has
abbrev pub word_of : List ℕ → ℕ → ℕ
word_of items w = if nat_lt w words then slice_index items w else 0

-- the words of a fresh object
unfoldable pub zeros : List ℕ
zeros = replicate words 0
