-- A line's words, one after another.
use Rattle.std.proofs.Common.{◌≡◌, ◌==◌, ℕ, ◌+◌, ◌<◌, not, Bool, true, false, cond, ltb, List, [], ◌∷◌, length, get_or, take, drop, Option, Some, None, refl, arith}
use Rattle.std.specs.List.{position_or_len}
use Rattle.std.proofs.lemmas.Bool.{not-true, ltb-true, lt-ltb, eqb-true}
use Rattle.std.proofs.lemmas.List.Sums.{prefix_len_passes, passes_at_first}
use Rattle.std.proofs.lemmas.List.Splits.{slice_split_none, slice_split_first}
use Rattle.std.specs.Borrow.{Bor}
use Rattle.std.proofs.lemmas.List.{length-drop}
use Rattle.gup_spec_grammar.specs.Spelling.{parts}
use Rattle.gup_read_words.specs.WordCut.{IsCutAt, IsWordCut}

abbrev pub is_space : ℕ → Bool
is_space b = b == 32

-- what a search for a byte says
pub position_none : (test : ℕ → Bool) (text : List ℕ) → cond (ltb (position_or_len test text) (length text)) (Some (position_or_len test text)) None ≡ None → position_or_len test text < length text → ⊥
position_none test text e within = none_of (ltb (position_or_len test text) (length text)) (position_or_len test text) e (lt-ltb _ _ within) where
  none_of : (b : Bool) (n : ℕ) → cond b (Some n) None ≡ None → b ≡ true → ⊥
  none_of true n e t = absurd cc
  none_of false n e t = absurd cc

pub position_some : (test : ℕ → Bool) (text : List ℕ) (at : ℕ) → cond (ltb (position_or_len test text) (length text)) (Some (position_or_len test text)) None ≡ Some at → (at ≡ position_or_len test text) × (at < length text)
position_some test text at e =
    let p = some_of (ltb (position_or_len test text) (length text)) (position_or_len test text) e in
    let within : position_or_len test text < length text = ltb-true _ _ p.1 in
    (p.0, omega (arith, p.0))
  where
    some_of : (b : Bool) (n : ℕ) → cond b (Some n) None ≡ Some at → (at ≡ n) × (b ≡ true)
    some_of true n e = (cc, refl)
    some_of false n e = absurd cc

-- where there is no space
pub uncut : (text : List ℕ) → (position_or_len is_space text < length text → ⊥) → parts 32 text ≡ text ∷ []
uncut text none =
    slice_split_none is_space text (λ k d within. not-true _ (prefix_len_passes (λ b. not (is_space b)) text k d (omega (arith, none))))

-- where there is one
pub cut : (text : List ℕ) (at : ℕ) → at ≡ position_or_len is_space text → at < length text → parts 32 text ≡ take at text ∷ parts 32 (drop (at + 1) text)
cut text at e within =
    let lt : position_or_len is_space text < length text = omega arith in
    rw e (slice_split_first is_space text 0 lt)

-- a line that is cut at its first space is cut behind its first word
pub word_cut : (line : List ℕ) (found : Option (Bor (List ℕ) × Bor (List ℕ))) → IsCutAt 32 line found → IsWordCut line found
word_cut line None e = uncut line (λ within. omega arith)
word_cut line (Some parted) h =
    let at : ℕ = position_or_len is_space line in
    rw (h.1, h.2) (cut line at refl h.0, omega (arith, length-drop (at + 1) line, h.0))

-- the byte that was looked for
pub byte_at : (byte : ℕ) (text : List ℕ) (at : ℕ) → at ≡ position_or_len (λ b. b == byte) text → at < length text → get_or text at 0 ≡ byte
byte_at byte text at e within =
    let lt : position_or_len (λ b. b == byte) text < length text = omega arith in
    rw e (eqb-true _ _ (passes_at_first (λ b. b == byte) text 0 lt))
