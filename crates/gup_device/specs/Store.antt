-- The words of a device.
use Rattle.std.specs.Prelude.{ℕ, ◌<◌, List, length, slice_index}

-- how many words there are, and the word of each slot below that number
pub record StoreValue : Type 0 where
  pub words : ℕ
  pub word : ℕ → ℕ

-- the words that are kept as this list
abbrev pub store_of : List ℕ → StoreValue
store_of words = record { words = length words; word = slice_index words }

-- so many words, all 0
abbrev pub no_words : (words : ℕ) → StoreValue
no_words words = record { words = words; word = λ _. 0 }

-- the slot is one of the store
abbrev pub IsSlot : StoreValue → ℕ → Type 0
IsSlot s slot = slot < s.words
