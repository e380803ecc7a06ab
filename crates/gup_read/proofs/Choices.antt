-- One of a list of words, by a test for each in turn.
use Rattle.std.proofs.Common.{◌≡◌, ℕ, ◌<◌, Bool, true, false, cond, suc, zero, List, [], ◌∷◌, length, Result, Err, refl, arith, sym, subst, ◌⊎◌, inl, inr}
use Rattle.std.specs.Prelude.{Contains}
use Rattle.std.specs.List.{slice_index_or}
use Rattle.std.specs.Str.{bytes_eq}
use Rattle.gup_spec_grammar.specs.declared.fault.Reason.{Reason}
use Rattle.gup_spec_grammar.specs.declared.fault.Reason.TheVariants as reasons
use Rattle.gup_spec_grammar.specs.Said.{Word}
use Rattle.gup_read.proofs.Chains.{Tried, stops, goes, same_word, other_word}

-- ---- one of a list of words

pub contains_first : (text : Word) (texts : List Word) (word : Word) → word ≡ text → Contains (text ∷ texts) word
contains_first text texts word same = (0, omega arith, sym same)

pub contains_more : (text : Word) (texts : List Word) (word : Word) → Contains texts word → Contains (text ∷ texts) word
contains_more text texts word h = (suc h.0, omega arith, h.2)

pub contains_split : (text : Word) (texts : List Word) (word : Word) → Contains (text ∷ texts) word → (word ≡ text) ⊎ Contains texts word
contains_split text texts word h = at h.0 h.1 h.2 where
  at : (k : ℕ) → k < length (text ∷ texts) → slice_index_or (text ∷ texts) k word ≡ word → (word ≡ text) ⊎ Contains texts word
  at zero lt e = inl (sym e)
  at (suc k) lt e = inr (k, omega arith, e)

-- ---- a test for each word of a list, in turn

-- the word is one of these, and then the result is what it says, or else the reason is that it is none
pub data Chosen {A : Type 0} (says : Word → Result A Reason → Type 0) (word : Word) (texts : List Word) (result : Result A Reason) : Type 0 where
  one : (is : Contains texts word) → (told : says word result) → Chosen says word texts result
  none : (because : result ≡ Err reasons.Word) → (other : Contains texts word → ⊥) → Chosen says word texts result

pub choose : {A : Type 0} (says : Word → Result A Reason → Type 0) (word text : Word) (texts : List Word) (here rest : Result A Reason) → says text here → Chosen says word texts rest → Chosen says word (text ∷ texts) (cond (bytes_eq word text) here rest)
choose says word text texts here rest told others = way (bytes_eq word text) refl others where
  way : (b : Bool) → bytes_eq word text ≡ b → Chosen says word texts rest → Chosen says word (text ∷ texts) (cond b here rest)
  way true e t =
      let same = same_word word text e in
      one (contains_first text texts word same) (subst (λ (w : Word). says w here) (sym same) told)
  way false e (none because other) =
      none because (λ h. elim (contains_split text texts word h) [ inl same ↦ other_word word text e same | inr more ↦ other more ])
  way false e (one is said) = one (contains_more text texts word is) said

pub none_left : {A : Type 0} (says : Word → Result A Reason → Type 0) (word : Word) → Chosen says word [] (Err reasons.Word)
none_left says word = none refl (λ h. absurd (omega arith))

-- as a chain's next test
pub tried_choice : {A : Type 0} (says : Word → Result A Reason → Type 0) (word : Word) (texts : List Word) (result : Result A Reason) → Chosen says word texts result → Tried reasons.Word (Contains texts word) (says word) result
tried_choice says word texts result (one is told) = goes is told
tried_choice says word texts result (none because other) = stops because other
