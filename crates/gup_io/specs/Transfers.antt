-- What is left of a transfer that was broken off, where the bytes are told.
use Rattle.std.specs.Prelude.{◌≡◌, ℕ, ◌<◌, ◌≤◌, List, Option, Some, None, length, take, drop}
use Rattle.std.specs.Io.KnownBytes.{Appends}
use Rattle.gup_io.specs.declared.source.ReadToEnd.{ReadToEnd}
use Rattle.gup_io.specs.declared.source.ReadToEnd.TheVariants.{Failed, NoMemory}

-- how many bytes were read at least before reading broke off: allocation fails only after a byte
abbrev pub least_read : ReadToEnd → ℕ
least_read Failed = 0
least_read NoMemory = 1

-- told bytes lose their first ones, from `least` to `most` of them
abbrev pub Loses : ℕ → ℕ → Option (List ℕ) → Option (List ℕ) → Type 0
Loses least most None new = Unit {0}
Loses least most (Some bytes) new =
    (n : ℕ) × (least ≤ n) × (n ≤ most) × (n ≤ length bytes) × (new ≡ Some (drop n bytes))

-- told bytes grow by a prefix of a text, and not by all of it
abbrev pub AppendsPart : Option (List ℕ) → Option (List ℕ) → List ℕ → Type 0
AppendsPart old new text = (n : ℕ) × (n < length text) × Appends old new (take n text)
