-- Ranges of objects.
use Rattle.std.specs.Prelude.{ℕ, Bool, not}
use Rattle.gup_plain.specs.Put.{within}

-- is the object none of the n from the first on?
abbrev pub outside : (first n object : ℕ) → Bool
outside first n object = not (within first n object)
