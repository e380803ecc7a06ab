-- How a text is cut at its line feeds.
use Rattle.std.specs.Prelude.{◌≡◌, ℕ, List, ◌∷◌, ◌++◌, Option, Some, None}
use Rattle.std.specs.Borrow.{Bor}
use Rattle.gup_spec_grammar.specs.Spelling.{Lacks}

-- the first line of a text, and what stands behind its line feed
abbrev pub IsFirstLine : (text line behind : List ℕ) → Type 0
IsFirstLine text line behind = (text ≡ line ++ 10 ∷ behind) × Lacks 10 line

abbrev pub IsCut : List ℕ → Option (Bor (List ℕ) × Bor (List ℕ)) → Type 0
IsCut text None = Lacks 10 text
IsCut text (Some cut) = IsFirstLine text cut.0.now cut.1.now
