-- Pieces that are lines, one after another.
use Rattle.std.proofs.Common.{◌≡◌, ◌≢◌, ◌==◌, ℕ, zero, suc, ◌+◌, ◌<◌, List, [], ◌∷◌, ◌++◌, length, take, get_or, map, codes, Option, Some, None, slice_get, refl, sym, ap, subst, ◌∙◌, append_assoc, take_all, add-one, arith}
use Rattle.std.specs.Borrow.{Bor}
use Rattle.std.specs.List.{join_with_byte}
use Rattle.std.proofs.lemmas.List.Splits.{join_with_byte-slice_split, length-slice_split}
use Rattle.std.proofs.lemmas.Option.{slice_get-map, slice_get-get_or}
use Rattle.gup_script.specs.Script.{ScriptValue}
use Rattle.gup_spec_grammar.specs.Spelling.{parts}
use Rattle.gup_conditions.specs.Line.{LineValue, line_text}
use Rattle.gup_conditions.specs.Condition.{ConditionValue, often_text, condition_text, wanted_text}
use Rattle.gup_conditions.specs.declared.condition.Often.{Often}
use Rattle.gup_conditions.specs.declared.read.Trouble.{Trouble}
use Rattle.gup_conditions.specs.declared.read.Trouble.TheVariants as troubles
use Rattle.gup_conditions.specs.Reading.{IsPiece, ArePieces, AllPrint, IsPieceFault, IsFirstWrong, IsWrongFirst, Means, IsCondition, IsFaultOf}

-- the text at a place
pub text_at : (texts : List (Bor (List ℕ))) (k : ℕ) (d : Bor (List ℕ)) → k < length texts → slice_get (map (λ text. text.now) texts) k ≡ Some (get_or texts k d).now
text_at texts k d within = rw (slice_get-map (λ (text : Bor (List ℕ)). text.now) texts k, slice_get-get_or texts k d within) refl

-- one piece more
pub one_piece : (script : ScriptValue) (pieces : List (List ℕ)) (k : ℕ) (piece : List ℕ) (line : LineValue) (lines : List LineValue) → slice_get pieces k ≡ Some piece → ArePieces script (take k pieces) lines → IsPiece script piece line → ArePieces script (take (k + 1) pieces) (lines ++ (line ∷ []))
one_piece script pieces k piece line lines at before is = rw add-one (go pieces k lines at before) where
  go : (pieces : List (List ℕ)) (k : ℕ) (lines : List LineValue) → slice_get pieces k ≡ Some piece → ArePieces script (take k pieces) lines → ArePieces script (take (suc k) pieces) (lines ++ (line ∷ []))
  go [] k lines at before = absurd (cc)
  go (first ∷ pieces) zero lines at before =
      let same : first ≡ piece = cc in
      let none : lines ≡ [] = before in
      (line, [], rw same is, refl, rw none refl)
  go (first ∷ pieces) (suc k) lines at before =
      (before.0, before.1 ++ (line ∷ []), before.2, go pieces k before.1 at before.3, ap (λ (more : List LineValue). more ++ (line ∷ [])) before.4)

-- the first that is wrong
pub first_wrong : (script : ScriptValue) (pieces : List (List ℕ)) (k : ℕ) (piece : List ℕ) (lines : List LineValue) (trouble : Trouble) → slice_get pieces k ≡ Some piece → ArePieces script (take k pieces) lines → IsPieceFault script piece trouble → IsFirstWrong script pieces trouble
first_wrong script pieces k piece lines (troubles.Reason reason) at before wrong =
    record { k = k; right = lines; before = before; piece = piece; at = at; wrong = wrong }
first_wrong script pieces k piece lines troubles.NoMemory at before wrong = tt

-- ---- the line that they make

all_print : (script : ScriptValue) (pieces : List (List ℕ)) (lines : List LineValue) → ArePieces script pieces lines → AllPrint script lines
all_print script [] lines h = subst (AllPrint script) (sym h) tt
all_print script (piece ∷ pieces) lines h = subst (AllPrint script) (sym h.4) (h.2.1, all_print script pieces h.1 h.3)

abbrev spell : ScriptValue → LineValue → List ℕ
spell script line = codes " " ++ line_text script line

they_spell : (script : ScriptValue) (pieces : List (List ℕ)) (lines : List LineValue) → ArePieces script pieces lines → pieces ≡ map (spell script) lines
they_spell script [] lines h = rw h refl
they_spell script (piece ∷ pieces) lines h =
    let first : piece ≡ spell script h.0 = h.2.0 in
    let rest : pieces ≡ map (spell script) h.1 = they_spell script pieces h.1 h.3 in
    rw (h.4, first, rest) refl

-- a text has a piece at least
some_lines : (script : ScriptValue) (wanted : List ℕ) (lines : List LineValue) → ArePieces script (parts 59 wanted) lines → lines ≢ []
some_lines script wanted lines are none =
    let same : parts 59 wanted ≡ map (spell script) lines = they_spell script (parts 59 wanted) lines are in
    let empty : parts 59 wanted ≡ [] = same ∙ ap (map (spell script)) none in
    absurd (omega (arith, length-slice_split (λ (b : ℕ). b == 59) wanted, ap length empty))

pub is_condition : (script : ScriptValue) (line wanted : List ℕ) (often : Often) (lines : List LineValue) → Means line often wanted → ArePieces script (parts 59 wanted) lines → IsCondition script line (record { often = often; lines = lines })
is_condition script line wanted often lines means are =
    let joined : join_with_byte 59 (parts 59 wanted) ≡ wanted = join_with_byte-slice_split 59 wanted in
    let same : wanted ≡ wanted_text script lines = sym joined ∙ ap (join_with_byte 59) (they_spell script (parts 59 wanted) lines are) in
    record {
      text = means ∙ (ap (λ (more : List ℕ). often_text often ++ (codes ":" ++ more)) same ∙ sym (append_assoc (often_text often) (codes ":") (wanted_text script lines)));
      some = some_lines script wanted lines are;
      can = all_print script (parts 59 wanted) lines are;
    }

pub is_fault : (script : ScriptValue) (line wanted : List ℕ) (often : Often) (trouble : Trouble) → Means line often wanted → IsFirstWrong script (parts 59 wanted) trouble → IsFaultOf script line trouble
is_fault script line wanted often (troubles.Reason reason) means wrong = (often, wanted, means, wrong)
is_fault script line wanted often troubles.NoMemory means wrong = tt
