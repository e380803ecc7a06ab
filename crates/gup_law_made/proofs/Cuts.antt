-- The parts of a text that has another behind it.
use Rattle.std.proofs.Common.{◌≡◌, ◌≢◌, ℕ, ◌<◌, Bool, true, false, cond, List, [], ◌∷◌, ◌++◌, length, append_assoc, refl, sym, ap, ap₂, ◌∙◌, arith}
use Rattle.std.specs.Prelude.{◌==◌}
use Rattle.std.specs.List.{slice_split, onto_first, AllByRecursion, join_with_byte}
use Rattle.std.proofs.lemmas.Bool.{ne_eqb}
use Rattle.std.proofs.lemmas.List.Elements.{All-weaker}
use Rattle.std.proofs.lemmas.List.Splits.{length-slice_split, slice_split_at, slice_split_none}
use Rattle.gup_spec_grammar.specs.Spelling.{Lacks, parts}

-- the first of the parts with this before it
abbrev behind : List ℕ → List (List ℕ) → List (List ℕ)
behind x [] = x ∷ []
behind x (y ∷ more) = (x ++ y) ∷ more

-- the parts of two texts, of which the last of the first and the first of the second are one
abbrev glue : List (List ℕ) → List (List ℕ) → List (List ℕ)
glue [] more = more
glue (x ∷ []) more = behind x more
glue (x ∷ z ∷ xs) more = x ∷ glue (z ∷ xs) more

behind_nothing : (more : List (List ℕ)) → 0 < length more → behind [] more ≡ more
behind_nothing [] some = absurd (omega arith)
behind_nothing (y ∷ more) some = refl

behind_first : (c : ℕ) (x : List ℕ) (more : List (List ℕ)) → behind (c ∷ x) more ≡ onto_first c (behind x more)
behind_first c x [] = refl
behind_first c x (y ∷ more) = refl

glue_first : (c : ℕ) (xs more : List (List ℕ)) → 0 < length xs → glue (onto_first c xs) more ≡ onto_first c (glue xs more)
glue_first c [] more some = absurd (omega arith)
glue_first c (x ∷ []) more some = behind_first c x more
glue_first c (x ∷ z ∷ xs) more some = refl

glue_cut : (xs more : List (List ℕ)) → 0 < length xs → glue ([] ∷ xs) more ≡ [] ∷ glue xs more
glue_cut [] more some = absurd (omega arith)
glue_cut (x ∷ xs) more some = refl

glue_step : (b : Bool) (c : ℕ) (xs more : List (List ℕ)) → 0 < length xs → glue (cond b ([] ∷ xs) (onto_first c xs)) more ≡ cond b ([] ∷ glue xs more) (onto_first c (glue xs more))
glue_step true c xs more some = glue_cut xs more some
glue_step false c xs more some = glue_first c xs more some

some_parts : (p : ℕ → Bool) (xs : List ℕ) → 0 < length (slice_split p xs)
some_parts p xs = omega (arith, length-slice_split p xs)

split_append : (p : ℕ → Bool) (xs ys : List ℕ) → slice_split p (xs ++ ys) ≡ glue (slice_split p xs) (slice_split p ys)
split_append p [] ys = sym (behind_nothing (slice_split p ys) (some_parts p ys))
split_append p (x ∷ xs) ys =
    ap (λ (s : List (List ℕ)). cond (p x) ([] ∷ s) (onto_first x s)) (split_append p xs ys)
    ∙ sym (glue_step (p x) x (slice_split p xs) (slice_split p ys) (some_parts p xs))

glue_ended : (lines more : List (List ℕ)) → 0 < length more → glue (lines ++ [] ∷ []) more ≡ lines ++ more
glue_ended [] more some = behind_nothing more some
glue_ended (x ∷ []) more some = ap (λ (s : List (List ℕ)). x ∷ s) (behind_nothing more some)
glue_ended (x ∷ z ∷ lines) more some = ap (λ (s : List (List ℕ)). x ∷ s) (glue_ended (z ∷ lines) more some)

-- a text of lines with one line more
pub line_more : (text line : List ℕ) (lines : List (List ℕ)) → parts 10 text ≡ lines ++ [] ∷ [] → Lacks 10 line → parts 10 (text ++ (line ++ 10 ∷ [])) ≡ (lines ++ line ∷ []) ++ [] ∷ []
line_more text line lines e lacks =
    let ends : parts 10 (line ++ 10 ∷ []) ≡ line ∷ [] ∷ [] = slice_split_at (λ b. b == 10) line 10 [] (All-weaker (λ b. b ≢ 10) (λ b. (b == 10) ≡ false) (λ b other. ne_eqb b 10 other) line lacks) refl in
    split_append (λ b. b == 10) text (line ++ 10 ∷ []) ∙ ap₂ glue e ends ∙ glue_ended lines (line ∷ [] ∷ []) (omega arith) ∙ sym (append_assoc lines (line ∷ []) ([] ∷ []))

-- words that are joined by spaces are the parts between these
pub words_parted : (first : List ℕ) (more : List (List ℕ)) → AllByRecursion (Lacks 32) (first ∷ more) → parts 32 (join_with_byte 32 (first ∷ more)) ≡ first ∷ more
words_parted first [] lacks = slice_split_none (λ b. b == 32) first (All-weaker (λ b. b ≢ 32) (λ b. (b == 32) ≡ false) (λ b other. ne_eqb b 32 other) first lacks.0)
words_parted first (second ∷ more) lacks =
    slice_split_at (λ b. b == 32) first 32 (join_with_byte 32 (second ∷ more)) (All-weaker (λ b. b ≢ 32) (λ b. (b == 32) ≡ false) (λ b other. ne_eqb b 32 other) first lacks.0) refl
    ∙ ap (λ (s : List (List ℕ)). first ∷ s) (words_parted second more lacks.1)
