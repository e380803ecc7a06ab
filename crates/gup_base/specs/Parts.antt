-- The parts of a transfer.
use Rattle.std.specs.Prelude.{ℕ, ◌+◌, ◌-◌, nat_lt, if◌then◌else◌, List, [], ◌∷◌, sum_by}

-- A part is so many words of a pin from this one on, counted over all its pages, which are one row.
abbrev pub Part : Type 0
Part = ℕ × ℕ

-- how many words the parts have
abbrev pub words_of : List Part → ℕ
words_of parts = sum_by (λ (part : Part). part.1) parts

-- which word of the pin is the k-th of the parts, from 0, as they follow each other
abbrev pub word_at : List Part → (k : ℕ) → ℕ
word_at [] k = 0
word_at (part ∷ parts) k = if nat_lt k part.1 then part.0 + k else word_at parts (k - part.1)
