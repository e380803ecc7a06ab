-- One flag for each word of a page, as a list and as a function.
use Rattle.std.specs.Prelude.{ℕ, Bool, true, false, List, replicate, slice_index_or, nat_lt, if◌then◌else◌}
use Rattle.gup_plain.specs.Event.{words}

-- the flag of the word with this number, of the 512 that a page has
abbrev pub flag_of : List Bool → ℕ → Bool
flag_of items w = if nat_lt w words then slice_index_or items w false else false

-- no word is copied
unfoldable pub unset : List Bool
unset = replicate words false

-- all words are copied
unfoldable pub all_set : List Bool
all_set = replicate words true
