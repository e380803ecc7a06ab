-- What is so of the bytes that were read is so of those that the source tells.
use Rattle.std.proofs.Common.{◌≡◌, ℕ, List, Option, Some, None, subst}
use Rattle.std.specs.Prelude.{IfSome}
use Rattle.gup_script.specs.Script.{ScriptValue}
use Rattle.gup_spec_grammar.specs.Grammar.{Accepts}
use Rattle.gup_front.specs.Reading.{OfScript, OfText, AreBytes}

pub of_text : (told : Option (List ℕ)) (bytes : List ℕ) (s : ScriptValue) (P : List ℕ → ScriptValue → Type 0) → ((text : List ℕ) (a b : ScriptValue) → Accepts text a → Accepts text b → a ≡ b) → IfSome told (λ b. bytes ≡ b) → Accepts bytes s → P bytes s → OfText told P
of_text None bytes s P one is spelt p = tt
of_text (Some told) bytes s P one is spelt p = λ t h.
    let Q : List ℕ → Type 0 = λ b. P b s in
    subst (P told) (one told s t (subst (λ (b : List ℕ). Accepts b s) is spelt) h) (subst Q is p)

pub are_bytes : (told : Option (List ℕ)) (bytes : List ℕ) → IfSome told (λ b. bytes ≡ b) → AreBytes told bytes
are_bytes None bytes is = tt
are_bytes (Some told) bytes is = is

-- where no script can be run, anything holds of it
pub none_told : (told : Option (List ℕ)) (P : List ℕ → ScriptValue → Type 0) → OfScript told (λ script. ⊥) → OfText told P
none_told None P none = tt
none_told (Some bytes) P none = λ script spelt. absurd (none script spelt)
