-- Texts of lists, with one more at the end.
use Rattle.std.proofs.Common.{◌≡◌, ℕ, ◌+◌, ◌<◌, List, [], ◌∷◌, ◌++◌, Option, Some, length, take, get_or, slice_get, codes, map, zero, suc, refl, sym, ap, ◌∙◌, arith, append_assoc, append-nil}
use Rattle.std.specs.List.{join_with_byte}
use Rattle.std.proofs.lemmas.List.{take_more, length-take, map-append}
use Rattle.gup_plain.specs.declared.note.Waiting.{Waiting}
use Rattle.gup_script.specs.Script.{ScriptValue}
use Rattle.gup_conditions.specs.Line.{LineValue, line_text}
use Rattle.gup_conditions.specs.Condition.{ConditionValue, wanted_text}
use Rattle.gup_conditions.specs.declared.shown.Shown.{Shown}
use Rattle.gup_conditions.specs.declared.verdict.Verdict.{Verdict}
use Rattle.gup_orders.specs.Text.{stuck_among, stuck_at, outcomes_from, outcome_text, judged_lines, judged_line}
use Rattle.gup_orders.specs.Written.{IsSeen, AreSeen}

-- ---- wanted lines

-- what stands before a piece
abbrev pub before_piece : (k : ℕ) → List ℕ
before_piece zero = []
before_piece (suc k) = codes ";"

joined_more : (xs : List (List ℕ)) (x : List ℕ) → join_with_byte 59 (xs ++ x ∷ []) ≡ join_with_byte 59 xs ++ (before_piece (length xs) ++ x)
joined_more [] x = refl
joined_more (y ∷ []) x = refl
joined_more (y ∷ z ∷ xs) x =
    ap (λ (t : List ℕ). y ++ (59 ∷ t)) (joined_more (z ∷ xs) x)
    ∙ sym (append_assoc y (59 ∷ join_with_byte 59 (z ∷ xs)) (59 ∷ x))

abbrev piece_of : ScriptValue → LineValue → List ℕ
piece_of script line = codes " " ++ line_text script line

length-pieces : (script : ScriptValue) (lines : List LineValue) → length (map (piece_of script) lines) ≡ length lines
length-pieces script [] = refl
length-pieces script (line ∷ lines) = ap (λ (n : ℕ). suc n) (length-pieces script lines)

pub wanted_more : (script : ScriptValue) (lines : List LineValue) (k : ℕ) (d : LineValue) → k < length lines → wanted_text script (take (k + 1) lines) ≡ wanted_text script (take k lines) ++ (before_piece k ++ (codes " " ++ line_text script (get_or lines k d)))
wanted_more script lines k d within =
    let some : length (take k lines) ≡ k = omega (arith, length-take k lines) in
    ap (λ (ls : List LineValue). wanted_text script ls) (take_more lines k d within)
    ∙ ap (λ (ps : List (List ℕ)). join_with_byte 59 ps) (map-append (piece_of script) (take k lines) (get_or lines k d ∷ []))
    ∙ joined_more (map (piece_of script) (take k lines)) (piece_of script (get_or lines k d))
    ∙ ap (λ (n : ℕ). wanted_text script (take k lines) ++ (before_piece n ++ piece_of script (get_or lines k d))) (length-pieces script (take k lines) ∙ some)

-- ---- outcomes

outcomes_append : (script : ScriptValue) (common : List LineValue) (n : ℕ) (xs : List Shown) (x : Shown) → outcomes_from script common n (xs ++ x ∷ []) ≡ outcomes_from script common n xs ++ outcome_text script common (n + length xs) x
outcomes_append script common n [] x = append-nil (outcome_text script common n x) ∙ ap (λ (k : ℕ). outcome_text script common k x) (omega arith)
outcomes_append script common n (y ∷ xs) x =
    let number : (n + 1) + length xs ≡ n + suc (length xs) = omega arith in
    ap (λ (t : List ℕ). outcome_text script common n y ++ t) (outcomes_append script common (n + 1) xs x)
    ∙ sym (append_assoc (outcome_text script common n y) (outcomes_from script common (n + 1) xs) (outcome_text script common ((n + 1) + length xs) x))
    ∙ ap (λ (k : ℕ). (outcome_text script common n y ++ outcomes_from script common (n + 1) xs) ++ outcome_text script common k x) number

pub outcomes_more : (script : ScriptValue) (common : List LineValue) (outcomes : List Shown) (k : ℕ) (d : Shown) → k < length outcomes → outcomes_from script common 1 (take (k + 1) outcomes) ≡ outcomes_from script common 1 (take k outcomes) ++ outcome_text script common (k + 1) (get_or outcomes k d)
outcomes_more script common outcomes k d within =
    let number : 1 + length (take k outcomes) ≡ k + 1 = omega (arith, length-take k outcomes) in
    ap (λ (os : List Shown). outcomes_from script common 1 os) (take_more outcomes k d within)
    ∙ outcomes_append script common 1 (take k outcomes) (get_or outcomes k d)
    ∙ ap (λ (n : ℕ). outcomes_from script common 1 (take k outcomes) ++ outcome_text script common n (get_or outcomes k d)) number

-- ---- the stuck

pub stuck_more : (script : ScriptValue) (waits : List (Option Waiting)) (k : ℕ) (d : Option Waiting) → k < length waits → stuck_among script waits (k + 1) ≡ stuck_among script waits k ++ stuck_at script k (Some (get_or waits k d))
stuck_more script waits k d within =
    let next : k + 1 ≡ suc k = omega arith in
    ap (λ (n : ℕ). stuck_among script waits n) next
    ∙ ap (λ (o : Option (Option Waiting)). stuck_among script waits k ++ stuck_at script k o) (there waits k d within)
  where
    there : (xs : List (Option Waiting)) (k : ℕ) (d : Option Waiting) → k < length xs → slice_get xs k ≡ Some (get_or xs k d)
    there [] k d within = absurd (omega arith)
    there (x ∷ xs) zero d within = refl
    there (x ∷ xs) (suc k) d within = there xs k d (omega arith)

-- ---- verdicts

pub seen_at : (verdicts : List Verdict) (k : ℕ) (d : Verdict) → AreSeen verdicts → k < length verdicts → IsSeen (get_or verdicts k d)
seen_at [] k d seen within = absurd (omega arith)
seen_at (v ∷ vs) zero d seen within = seen.0
seen_at (v ∷ vs) (suc k) d seen within = seen_at vs k d seen.1 (omega arith)

pub judged_more : (script : ScriptValue) (conditions : List ConditionValue) (verdicts : List Verdict) (k : ℕ) (c : ConditionValue) (v : Verdict) → k < length conditions → length verdicts ≡ length conditions → judged_lines script (take (k + 1) conditions) (take (k + 1) verdicts) ≡ judged_lines script (take k conditions) (take k verdicts) ++ judged_line script (get_or conditions k c) (get_or verdicts k v)
judged_more script [] verdicts k c v within same = absurd (omega arith)
judged_more script (x ∷ xs) [] k c v within same = absurd (omega (arith, same))
judged_more script (x ∷ xs) (y ∷ ys) zero c v within same = append-nil (judged_line script x y)
judged_more script (x ∷ xs) (y ∷ ys) (suc k) c v within same =
    let next : suc k + 1 ≡ suc (k + 1) = omega arith in
    ap (λ (n : ℕ). judged_lines script (take n (x ∷ xs)) (take n (y ∷ ys))) next
    ∙ ap (λ (t : List ℕ). judged_line script x y ++ t) (judged_more script xs ys k c v (omega arith) (omega (arith, same)))
    ∙ sym (append_assoc (judged_line script x y) (judged_lines script (take k xs) (take k ys)) (judged_line script (get_or xs k c) (get_or ys k v)))

-- a text that was long so far, and one more
pub one_more : (before now after text more : List ℕ) → now ≡ before ++ text → after ≡ now ++ more → after ≡ before ++ (text ++ more)
one_more before now after text more so_far is = is ∙ ap (λ (t : List ℕ). t ++ more) so_far ∙ append_assoc before text more
