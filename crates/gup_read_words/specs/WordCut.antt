-- A text that is cut at the first of some byte, and a line that is cut at its first space.
use Rattle.std.specs.Prelude.{◌≡◌, ℕ, ◌<◌, ◌==◌, List, [], ◌∷◌, length, Option, Some, None}
use Rattle.std.specs.Borrow.{Bor}
use Rattle.std.specs.List.{position_or_len, before_first, after_first}
use Rattle.gup_spec_grammar.specs.Spelling.{parts}

abbrev pub IsCutAt : (byte : ℕ) → (text : List ℕ) → Option (Bor (List ℕ) × Bor (List ℕ)) → Type 0
IsCutAt byte text None = position_or_len (λ b. b == byte) text ≡ length text
IsCutAt byte text (Some cut) =
    (position_or_len (λ b. b == byte) text < length text) × (cut.0.now ≡ before_first (λ b. b == byte) text) × (cut.1.now ≡ after_first (λ b. b == byte) text)

abbrev pub IsWordCut : List ℕ → Option (Bor (List ℕ) × Bor (List ℕ)) → Type 0
IsWordCut line None = parts 32 line ≡ line ∷ []
IsWordCut line (Some cut) = (parts 32 line ≡ cut.0.now ∷ parts 32 cut.1.now) × (length cut.1.now < length line)
