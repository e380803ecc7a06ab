-- Lines that are conditions, one after another, and what is true of a script's text and operations.
use Rattle.std.proofs.Common.{◌≡◌, ◌⊎◌, inl, inr, ℕ, zero, suc, ◌+◌, ◌-◌, ◌<◌, ◌≤◌, ◌==◌, Bool, List, [], ◌∷◌, ◌++◌, length, take, Option, Some, None, slice_get, sum_by, refl, sym, ap, subst, ◌∙◌, append-nil, add-one, arith}
use Rattle.std.specs.Option.{option_to_list}
use Rattle.std.proofs.lemmas.List.Elements.{All-nil}
use Rattle.std.proofs.lemmas.List.Sums.{sum_by-cons, count_by-le-length}
use Rattle.std.proofs.lemmas.List.Splits.{length-slice_split}
use Rattle.std.proofs.lemmas.Option.{slice_get_within}
use Rattle.gup_script.specs.declared.op.Op.{Op}
use Rattle.gup_script.specs.Script.{ScriptValue, Actor, actor_at, ops_in, ops_of}
use Rattle.gup_script.specs.Valid.{IsScript}
use Rattle.gup_spec_grammar.specs.Grammar.{Stage, AreRightLines, Accepts}
use Rattle.gup_spec_grammar.specs.Spelling.{parts, IsPrintable}
use Rattle.gup_conditions.specs.Condition.{ConditionValue}
use Rattle.gup_conditions.specs.declared.read.Trouble.{Trouble}
use Rattle.gup_conditions.specs.declared.read.Trouble.TheVariants as troubles
use Rattle.gup_conditions.specs.Reading.{HasOperation, IsPassed, IsCondition, IsReadAs, AreConditions, IsFaultOf, IsRefused, refusal_at}

-- one line more: a condition, or none
one_condition : (script : ScriptValue) (lines : List (List ℕ)) (k : ℕ) (line : List ℕ) (condition : ConditionValue) (conditions : List ConditionValue) → slice_get lines k ≡ Some line → AreConditions script (take k lines) conditions → IsCondition script line condition → AreConditions script (take (k + 1) lines) (conditions ++ (condition ∷ []))
one_condition script lines k line condition conditions at before is = rw add-one (go lines k conditions at before) where
  go : (lines : List (List ℕ)) (k : ℕ) (conditions : List ConditionValue) → slice_get lines k ≡ Some line → AreConditions script (take k lines) conditions → AreConditions script (take (suc k) lines) (conditions ++ (condition ∷ []))
  go [] k conditions at before = absurd (cc)
  go (first ∷ lines) zero conditions at before =
      let same : first ≡ line = cc in
      let none : conditions ≡ [] = before in
      inr (condition, [], rw same is, refl, rw none refl)
  go (first ∷ lines) (suc k) conditions at (inl passed) = inl (passed.0, go lines k conditions at passed.1)
  go (first ∷ lines) (suc k) conditions at (inr has) =
      inr (has.0, has.1 ++ (condition ∷ []), has.2, go lines k has.1 at has.3, ap (λ (more : List ConditionValue). more ++ (condition ∷ [])) has.4)

one_passed : (script : ScriptValue) (lines : List (List ℕ)) (k : ℕ) (line : List ℕ) (conditions : List ConditionValue) → slice_get lines k ≡ Some line → AreConditions script (take k lines) conditions → IsPassed line → AreConditions script (take (k + 1) lines) conditions
one_passed script lines k line conditions at before is = rw add-one (go lines k conditions at before) where
  go : (lines : List (List ℕ)) (k : ℕ) (conditions : List ConditionValue) → slice_get lines k ≡ Some line → AreConditions script (take k lines) conditions → AreConditions script (take (suc k) lines) conditions
  go [] k conditions at before = absurd (cc)
  go (first ∷ lines) zero conditions at before =
      let same : first ≡ line = cc in
      inl (rw same is, before)
  go (first ∷ lines) (suc k) conditions at (inl passed) = inl (passed.0, go lines k conditions at passed.1)
  go (first ∷ lines) (suc k) conditions at (inr has) = inr (has.0, has.1, has.2, go lines k has.1 at has.3, has.4)

pub one_read : (script : ScriptValue) (lines : List (List ℕ)) (k : ℕ) (line : List ℕ) (read : Option ConditionValue) (conditions : List ConditionValue) → slice_get lines k ≡ Some line → AreConditions script (take k lines) conditions → IsReadAs script line read → AreConditions script (take (k + 1) lines) (conditions ++ option_to_list read)
one_read script lines k line None conditions at before is =
    subst (AreConditions script (take (k + 1) lines)) (sym (append-nil conditions)) (one_passed script lines k line conditions at before is)
one_read script lines k line (Some condition) conditions at before is = one_condition script lines k line condition conditions at before is

pub first_fault : (script : ScriptValue) (lines : List (List ℕ)) (k number : ℕ) (line : List ℕ) (conditions : List ConditionValue) (trouble : Trouble) → number ≡ k + 1 → slice_get lines k ≡ Some line → AreConditions script (take k lines) conditions → IsFaultOf script line trouble → IsRefused script lines (refusal_at number trouble)
first_fault script lines k number line conditions (troubles.Reason reason) is at before wrong =
    record { k = k; number = is; conditions = conditions; before = before; line = line; at = at; wrong = wrong }
first_fault script lines k number line conditions troubles.NoMemory is at before wrong = tt

-- ---- the lines of a script's text

printable_line : (stage : Stage) (lines : List (List ℕ)) (next : Stage) → AreRightLines stage lines next → (k : ℕ) (line : List ℕ) → slice_get (lines ++ ([] ∷ [])) k ≡ Some line → IsPrintable line
printable_line stage [] next right zero line at =
    let same : [] ≡ line = cc in
    subst IsPrintable same (All-nil _)
printable_line stage [] next right (suc k) line at = absurd (cc)
printable_line stage (first ∷ lines) next right zero line at =
    let same : first ≡ line = cc in
    subst IsPrintable same right.1.0
printable_line stage (first ∷ lines) next right (suc k) line at = printable_line right.0 lines next right.2 k line at

pub printable : (script : ScriptValue) (text : List ℕ) → Accepts text script → (k : ℕ) (line : List ℕ) → slice_get (parts 10 text) k ≡ Some line → IsPrintable line
printable script text accepts k line at =
    let spells = accepts.0 in
    printable_line _ spells.0 _ spells.3 k line (sym (ap (λ (lines : List (List ℕ)). slice_get lines k) spells.2) ∙ at)

-- they are not too many to be numbered
pub few_lines : (script : ScriptValue) (text : List ℕ) → Accepts text script → length (parts 10 text) ≤ 1048577
few_lines script text accepts =
    omega (arith, accepts.1, length-slice_split (λ (b : ℕ). b == 10) text, count_by-le-length (λ (b : ℕ). b == 10) text)

-- ---- the operations of a script

one_of_sum : (actors : List Actor) (k : ℕ) (actor : Actor) → slice_get actors k ≡ Some actor → length actor.ops ≤ sum_by (λ (a : Actor). length a.ops) actors
one_of_sum [] k actor is = absurd (cc)
one_of_sum (first ∷ actors) zero actor is =
    let same : first ≡ actor = cc in
    let long : length first.ops ≡ length actor.ops = ap (λ (a : Actor). length a.ops) same in
    omega (arith, sum_by-cons (λ (a : Actor). length a.ops) first actors)
one_of_sum (first ∷ actors) (suc k) actor is =
    let rest = one_of_sum actors k actor is in
    omega (arith, sum_by-cons (λ (a : Actor). length a.ops) first actors)

few_ops : (script : ScriptValue) → IsScript script → (a : ℕ) → length (ops_of script a) ≤ 16384
few_ops script valid a = go (actor_at script a) refl
  where
    go : (actor : Option Actor) → actor_at script a ≡ actor → length (ops_in actor) ≤ 16384
    go None at = omega arith
    go (Some actor) at = let one = one_of_sum script.actors a actor at in let all = valid.few_ops in omega arith

-- the number of one fits
pub small_number : (script : ScriptValue) → IsScript script → (a k : ℕ) (op : Op) → HasOperation script a k op → k ≤ 16384
small_number script valid a k op has =
    omega (arith, has.0, few_ops script valid a, slice_get_within (ops_of script a) (k - 1) op has.1)
