-- Texts that are cut at their line feeds, in one way alone.
use Rattle.std.proofs.Common.{◌≡◌, ◌≢◌, ℕ, Bool, true, false, List, [], ◌∷◌, ◌++◌, length, append_assoc, All, refl, sym, ap, ◌∙◌, arith}
use Rattle.std.specs.Prelude.{◌==◌}
use Rattle.std.specs.List.{AllByRecursion}
use Rattle.std.proofs.lemmas.Bool.{ne_eqb, eqb-true, eqb-false}
use Rattle.std.proofs.lemmas.List.Elements.{All-weaker, All-nil, All-cons, All-head, All-tail}
use Rattle.std.proofs.lemmas.List.Splits.{length-slice_split, slice_split_at, slice_split_none}
use Rattle.gup_spec_grammar.specs.Spelling.{Lacks, parts}
use Rattle.gup_spec_trace.specs.Trace.{AreLines}
use Rattle.gup_read_trace.specs.Lines.{IsFirstLine}

abbrev IsOther : ℕ → Type 0
IsOther b = b ≢ 10

-- ---- one line

-- two texts that begin with a line are one only if these lines are
pub same_cut : (a b x y : List ℕ) → Lacks 10 a → Lacks 10 b → a ++ 10 ∷ x ≡ b ++ 10 ∷ y → (a ≡ b) × (x ≡ y)
same_cut [] [] x y p q e = (refl, cc)
same_cut [] (c ∷ b) x y p q e = absurd (All-head IsOther c b q (cc))
same_cut (c ∷ a) [] x y p q e = absurd (All-head IsOther c a p (cc))
same_cut (c ∷ a) (d ∷ b) x y p q e =
    let tails : a ++ 10 ∷ x ≡ b ++ 10 ∷ y = cc in
    let heads : c ≡ d = cc in
    let rest = same_cut a b x y (All-tail IsOther c a p) (All-tail IsOther d b q) tails in
    (cc (heads, rest.0), rest.1)

-- a text without a line feed has no line
pub no_cut : (text a x : List ℕ) → Lacks 10 text → text ≡ a ++ 10 ∷ x → ⊥
no_cut [] [] x p e = absurd cc
no_cut [] (c ∷ a) x p e = absurd cc
no_cut (c ∷ text) [] x p e = All-head IsOther c text p (cc)
no_cut (c ∷ text) (d ∷ a) x p e =
    let tails : text ≡ a ++ 10 ∷ x = cc in
    no_cut text a x (All-tail IsOther c text p) tails

-- a text has a first line, or no line feed
pub data Begins (text : List ℕ) : Type 0 where
  uncut : Lacks 10 text → Begins text
  cut : (line behind : List ℕ) → IsFirstLine text line behind → Begins text

begins_behind : (c : ℕ) (text : List ℕ) → c ≢ 10 → Begins text → Begins (c ∷ text)
begins_behind c text other (uncut lacks) = uncut (All-cons IsOther c text other lacks)
begins_behind c text other (cut line behind is) =
    cut (c ∷ line) behind (ap (λ xs. c ∷ xs) is.0, All-cons IsOther c line other is.1)

pub begins : (text : List ℕ) → Begins text
begins [] = uncut (All-nil IsOther)
begins (c ∷ text) = way (c == 10) refl (begins text) where
  way : (b : Bool) → (c == 10) ≡ b → Begins text → Begins (c ∷ text)
  way true e rest = cut [] text (ap (λ d. d ∷ text) (eqb-true c 10 e), All-nil IsOther)
  way false e rest = begins_behind c text (eqb-false c 10 e) rest

-- ---- lines

-- the text of lines, each with its line feed
abbrev pub ended : List (List ℕ) → List ℕ
ended [] = []
ended (line ∷ lines) = line ++ 10 ∷ ended lines

abbrev pub AreWhole : List (List ℕ) → Type 0
AreWhole lines = AllByRecursion (Lacks 10) lines

pub ended_step : (line : List ℕ) (lines : List (List ℕ)) (rest : List ℕ) → ended (line ∷ lines) ++ rest ≡ line ++ 10 ∷ (ended lines ++ rest)
ended_step line lines rest = append_assoc line (10 ∷ ended lines) rest

pub ended_more : (lines : List (List ℕ)) (line rest : List ℕ) → ended (lines ++ line ∷ []) ++ rest ≡ ended lines ++ (line ++ 10 ∷ rest)
ended_more [] line rest = append_assoc line (10 ∷ []) rest
ended_more (first ∷ lines) line rest =
    ended_step first (lines ++ line ∷ []) rest
    ∙ ap (λ xs. first ++ 10 ∷ xs) (ended_more lines line rest)
    ∙ sym (ended_step first lines (line ++ 10 ∷ rest))

feeds : (line : List ℕ) → Lacks 10 line → All (λ b. (b == 10) ≡ false) line
feeds line lacks = All-weaker IsOther (λ b. (b == 10) ≡ false) (λ b other. ne_eqb b 10 other) line lacks

pub parts_cut : (text line behind : List ℕ) → IsFirstLine text line behind → parts 10 text ≡ line ∷ parts 10 behind
parts_cut text line behind is =
    ap (parts 10) is.0 ∙ slice_split_at (λ b. b == 10) line 10 behind (feeds line is.1) refl

parts_uncut : (text : List ℕ) → Lacks 10 text → parts 10 text ≡ text ∷ []
parts_uncut text lacks = slice_split_none (λ b. b == 10) text (feeds text lacks)

some_parts : (text : List ℕ) → parts 10 text ≡ [] → ⊥
some_parts text e = absurd (omega (arith, length-slice_split (λ b. b == 10) text, ap length e))

pub lines_parted : (lines : List (List ℕ)) → AreWhole lines → AreLines (ended lines) lines
lines_parted [] whole = refl
lines_parted (line ∷ lines) whole =
    parts_cut (ended (line ∷ lines)) line (ended lines) (refl, whole.0)
    ∙ ap (λ ls. line ∷ ls) (lines_parted lines whole.1)

-- the text is its lines
pub lines_found : (text : List ℕ) (lines : List (List ℕ)) → AreLines text lines → (text ≡ ended lines) × AreWhole lines
lines_found text [] e = way (begins text) where
  way : Begins text → (text ≡ []) × AreWhole []
  way (uncut lacks) = let one = parts_uncut text lacks in (cc, tt)
  way (cut line behind is) =
      let first = parts_cut text line behind is in
      let none : parts 10 behind ≡ [] = cc in
      absurd (some_parts behind none)
lines_found text (line ∷ lines) e = way (begins text) (λ behind. lines_found behind lines) where
  none_behind : (ls : List (List ℕ)) → [] ≡ ls ++ [] ∷ [] → ⊥
  none_behind [] e = absurd cc
  none_behind (l ∷ ls) e = absurd cc

  way : Begins text → ((behind : List ℕ) → AreLines behind lines → (behind ≡ ended lines) × AreWhole lines) → (text ≡ ended (line ∷ lines)) × AreWhole (line ∷ lines)
  way (uncut lacks) rest =
      let one = parts_uncut text lacks in
      let none : [] ≡ lines ++ [] ∷ [] = cc in
      absurd (none_behind lines none)
  way (cut first behind is) rest =
      let cutting = parts_cut text first behind is in
      let same : first ≡ line = cc in
      let more : parts 10 behind ≡ lines ++ [] ∷ [] = cc in
      let found = rest behind more in
      (is.0 ∙ cc (same, found.0), (rw (← same) is.1, found.1))
