-- The named operations, one after another, and that each line that can be printed is of one of them.
use Rattle.std.proofs.Common.{◌≡◌, ℕ, ◌<◌, ◌≤◌, ◌+◌, ◌-◌, ◌==◌, Bool, true, false, ◌||◌, ◌&&◌, List, [], ◌∷◌, ◌++◌, Option, Some, None, All, Contains, length, slice_get, sum_by, drop, zero, suc, refl, sym, ap, subst, subst₂, ◌∙◌, eqb-true, arith, append_assoc, append-nil}
use Rattle.std.specs.List.{list_any}
use Rattle.std.proofs.lemmas.Bool.Decides.{nat_tests}
use Rattle.std.proofs.lemmas.List.{drop_more, drop_all}
use Rattle.std.proofs.lemmas.List.Elements.{filter-append, All-weaker, All-tail, All-head, All-contains_itself}
use Rattle.std.proofs.lemmas.List.Folds.{list_any-append, list_any_at, Any-from_list_any}
use Rattle.std.proofs.lemmas.List.Sums.{sum_by-cons}
use Rattle.std.proofs.lemmas.Map.Views.{any-filter_same}
use Rattle.std.proofs.lemmas.Option.{get_or_from_slice_get, slice_get-get_or, slice_get_within}
use Rattle.gup_script.specs.declared.op.Op.{Op}
use Rattle.gup_script.specs.Script.{ScriptValue, Actor, actor_at, ops_in}
use Rattle.gup_script.specs.Valid.{IsScript}
use Rattle.gup_spec_orders.specs.declared.told.Named.{Named}
use Rattle.gup_conditions.specs.Line.{LineValue}
use Rattle.gup_conditions.specs.Condition.{ConditionValue}
use Rattle.gup_conditions.specs.Reading.{CanPrint, AllPrint}
use Rattle.gup_conditions.specs.Named.{ops_named, actors_named, is_wanted_by, is_wanted, wanted_of, named_of, IsNamed, AreNamed}
use Rattle.gup_conditions.proofs.Verdicts.{there, both}

-- ---- how many operations an actor has

-- no actor has more operations than all have together
one_of_sum : (actors : List Actor) (k : ℕ) (actor : Actor) → slice_get actors k ≡ Some actor → length actor.ops ≤ sum_by (λ (a : Actor). length a.ops) actors
one_of_sum [] k actor is = absurd (cc)
one_of_sum (first ∷ actors) zero actor is =
    let same : first ≡ actor = cc in
    let long : length first.ops ≡ length actor.ops = ap (λ (a : Actor). length a.ops) same in
    omega (arith, sum_by-cons (λ (a : Actor). length a.ops) first actors)
one_of_sum (first ∷ actors) (suc k) actor is =
    let rest = one_of_sum actors k actor is in
    omega (arith, sum_by-cons (λ (a : Actor). length a.ops) first actors)

pub few_ops : (script : ScriptValue) → IsScript script → (k : ℕ) (actor : Actor) → slice_get script.actors k ≡ Some actor → length actor.ops ≤ 16384
few_ops script valid k actor at = let one = one_of_sum script.actors k actor at in let all = valid.few_ops in omega arith

-- ---- one after another

wanted_of-append : (conditions : List ConditionValue) (xs ys : List Named) → wanted_of conditions (xs ++ ys) ≡ wanted_of conditions xs ++ wanted_of conditions ys
wanted_of-append [] xs ys = refl
wanted_of-append (condition ∷ conditions) xs ys = filter-append (is_wanted (condition ∷ conditions)) xs ys

wanted_of-none : (conditions : List ConditionValue) → wanted_of conditions [] ≡ []
wanted_of-none [] = refl
wanted_of-none (condition ∷ conditions) = refl

-- what was put on, and what is left
moved : (conditions : List ConditionValue) (old new all left : List Named) (xs ys : List Named) → left ≡ xs ++ ys → new ≡ old ++ wanted_of conditions xs → old ++ wanted_of conditions left ≡ all → new ++ wanted_of conditions ys ≡ all
moved conditions old new all left xs ys is pushed so_far =
    ap (λ (ns : List Named). ns ++ wanted_of conditions ys) pushed
    ∙ append_assoc old (wanted_of conditions xs) (wanted_of conditions ys)
    ∙ ap (λ (ns : List Named). old ++ ns) (sym (wanted_of-append conditions xs ys) ∙ ap (λ (ns : List Named). wanted_of conditions ns) (sym is))
    ∙ so_far

pub ops_more : (conditions : List ConditionValue) (actor : ℕ) (ops : List Op) (k : ℕ) (old new all : List Named) → k < length ops
    → new ≡ old ++ wanted_of conditions (record { actor = actor; op = k + 1 } ∷ []) → old ++ wanted_of conditions (ops_named actor (k + 1) (drop k ops)) ≡ all
    → new ++ wanted_of conditions (ops_named actor (k + 1 + 1) (drop (k + 1) ops)) ≡ all
ops_more conditions actor ops k old new all within pushed so_far =
    let w = there ops k within in
    moved conditions old new all (ops_named actor (k + 1) (drop k ops)) (record { actor = actor; op = k + 1 } ∷ []) (ops_named actor (k + 1 + 1) (drop (k + 1) ops))
    (ap (λ (os : List Op). ops_named actor (k + 1) os) (drop_more ops k w.0 within)) pushed so_far

pub ops_all : (conditions : List ConditionValue) (actor : ℕ) (ops : List Op) (k : ℕ) (named all : List Named) → length ops ≤ k → named ++ wanted_of conditions (ops_named actor (k + 1) (drop k ops)) ≡ all → named ≡ all
ops_all conditions actor ops k named all past so_far =
    sym (append-nil named)
    ∙ ap (λ (ns : List Named). named ++ ns) (sym (wanted_of-none conditions))
    ∙ ap (λ (os : List Op). named ++ wanted_of conditions (ops_named actor (k + 1) os)) (sym (drop_all k ops past))
    ∙ so_far

pub actors_more : (conditions : List ConditionValue) (actors : List Actor) (k : ℕ) (actor : Actor) (old new all : List Named) → slice_get actors k ≡ Some actor
    → new ≡ old ++ wanted_of conditions (ops_named k 1 actor.ops) → old ++ wanted_of conditions (actors_named k (drop k actors)) ≡ all
    → new ++ wanted_of conditions (actors_named (k + 1) (drop (k + 1) actors)) ≡ all
actors_more conditions actors k actor old new all at pushed so_far =
    let first = drop_more actors k actor (slice_get_within actors k actor at) ∙ ap (λ (a : Actor). a ∷ drop (k + 1) actors) (get_or_from_slice_get actors k actor actor at) in
    moved conditions old new all (actors_named k (drop k actors)) (ops_named k 1 actor.ops) (actors_named (k + 1) (drop (k + 1) actors))
    (ap (λ (as' : List Actor). actors_named k as') first) pushed so_far

pub actors_all : (conditions : List ConditionValue) (actors : List Actor) (k : ℕ) (named all : List Named) → length actors ≤ k → named ++ wanted_of conditions (actors_named k (drop k actors)) ≡ all → named ≡ all
actors_all conditions actors k named all past so_far =
    sym (append-nil named)
    ∙ ap (λ (ns : List Named). named ++ ns) (sym (wanted_of-none conditions))
    ∙ ap (λ (as' : List Actor). named ++ wanted_of conditions (actors_named k as')) (sym (drop_all k actors past))
    ∙ so_far

-- ---- a line that can be printed

found_first : (b c : Bool) → b ≡ true → (b || c) ≡ true
found_first b c is = ap (λ (x : Bool). x || c) is

found_later : (b c : Bool) → c ≡ true → (b || c) ≡ true
found_later true c is = refl
found_later false c is = is

-- is this the operation of the line?
abbrev is_its : LineValue → Named → Bool
is_its line name = is_wanted_by name line

its_own : (line : LineValue) (actor op : ℕ) → line.actor ≡ actor → line.op ≡ op → is_its line (record { actor = actor; op = op }) ≡ true
its_own line actor op same alike =
    let one : (line.actor == actor) ≡ true = grind (arith, nat_tests) in
    let two : (line.op == op) ≡ true = grind (arith, nat_tests) in
    ap (λ (b : Bool). b && (line.op == op)) one ∙ two

in_ops : (line : LineValue) (actor k : ℕ) (ops : List Op) (i : ℕ) (op : Op) → slice_get ops i ≡ Some op → line.actor ≡ actor → line.op ≡ k + i → list_any (is_its line) (ops_named actor k ops) ≡ true
in_ops line actor k [] i op at same is = absurd (cc)
in_ops line actor k (first ∷ ops) zero op at same is = found_first _ _ (its_own line actor k same (omega arith))
in_ops line actor k (first ∷ ops) (suc i) op at same is = found_later _ _ (in_ops line actor (k + 1) ops i op at same (omega arith))

in_actors : (line : LineValue) (a : ℕ) (actors : List Actor) (k n : ℕ) (actor : Actor) → slice_get actors k ≡ Some actor → n ≡ a + k → list_any (is_its line) (ops_named n 1 actor.ops) ≡ true → list_any (is_its line) (actors_named a actors) ≡ true
in_actors line a [] k n actor at is has = absurd (cc)
in_actors line a (first ∷ actors) zero n actor at is has =
    let same : actor ≡ first = cc in
    let number : n ≡ a = omega arith in
    let here = subst₂ (λ (i : ℕ) (x : Actor). list_any (is_its line) (ops_named i 1 x.ops) ≡ true) number same has in
    list_any-append (is_its line) (ops_named a 1 first.ops) (actors_named (a + 1) actors) ∙ found_first _ _ here
in_actors line a (first ∷ actors) (suc k) n actor at is has =
    list_any-append (is_its line) (ops_named a 1 first.ops) (actors_named (a + 1) actors) ∙ found_later _ _ (in_actors line (a + 1) actors k n actor at (omega arith) has)

in_script : (script : ScriptValue) (line : LineValue) → CanPrint script line → list_any (is_its line) (actors_named 0 script.actors) ≡ true
in_script script line can = by_actor (actor_at script line.actor) refl
  where
    by_actor : (actor : Option Actor) → actor_at script line.actor ≡ actor → list_any (is_its line) (actors_named 0 script.actors) ≡ true
    by_actor None at = absurd (let nothing = subst (λ (a : Option Actor). slice_get (ops_in a) (line.op - 1) ≡ Some can.op) at can.has.1 in cc nothing)
    by_actor (Some actor) at =
        let op_at = subst (λ (a : Option Actor). slice_get (ops_in a) (line.op - 1) ≡ Some can.op) at can.has.1 in
        let number : line.op ≡ 1 + (line.op - 1) = omega (arith, can.has.0) in
        in_actors line 0 script.actors line.actor line.actor actor at (omega arith) (in_ops line line.actor 1 actor.ops (line.op - 1) can.op op_at refl number)

-- a line of one of the operations is named
is_named : (named : List Named) (line : LineValue) → list_any (is_its line) named ≡ true → IsNamed named line
is_named named line has =
    let w = Any-from_list_any (is_its line) named has in
    let same = both (line.actor == w.1.actor) (line.op == w.1.op) w.4 in
    (w.0, w.1, slice_get-get_or named w.0 w.1 w.2 ∙ ap (λ (name : Named). Some name) w.3, sym (eqb-true line.actor w.1.actor same.0), sym (eqb-true line.op w.1.op same.1))

-- where a condition wants it, its operation is named
its_named : (script : ScriptValue) (conditions : List ConditionValue) (condition : ConditionValue) (line : LineValue) → CanPrint script line → Contains conditions condition → Contains condition.lines line → list_any (is_its line) (named_of script conditions) ≡ true
its_named script [] condition line can (k, within, is) among = absurd (omega arith)
its_named script (first ∷ more) condition line can (k, within, is) (n, inside, at) =
    let conditions : List ConditionValue = first ∷ more in
    let wanted : (name : Named) → is_its line name ≡ true → is_wanted conditions name ≡ true =
    λ name its. list_any_at (λ (c : ConditionValue). list_any (is_wanted_by name) c.lines) conditions k condition within
    (subst (λ (c : ConditionValue). list_any (is_wanted_by name) c.lines ≡ true) (sym is)
    (list_any_at (is_wanted_by name) condition.lines n line inside (ap (λ (l : LineValue). is_wanted_by name l) at ∙ its))) in
    any-filter_same (is_its line) (is_wanted conditions) true wanted (actors_named 0 script.actors) ∙ in_script script line can

are_named : (script : ScriptValue) (conditions : List ConditionValue) (condition : ConditionValue) → Contains conditions condition
    → (lines : List LineValue) → All (Contains condition.lines) lines → AllPrint script lines → AreNamed (named_of script conditions) lines
are_named script conditions condition is [] among can = tt
are_named script conditions condition is (line ∷ lines) among can = (
  is_named (named_of script conditions) line
      (its_named script conditions condition line can.0 is (All-head (Contains condition.lines) line lines among)),
  are_named script conditions condition is lines (All-tail (Contains condition.lines) line lines among) can.1,
)

pub all_named : (script : ScriptValue) (conditions : List ConditionValue) → All (λ (c : ConditionValue). AllPrint script c.lines → AreNamed (named_of script conditions) c.lines) conditions
all_named script conditions =
    All-weaker (Contains conditions) (λ (c : ConditionValue). AllPrint script c.lines → AreNamed (named_of script conditions) c.lines)
    (λ condition is. are_named script conditions condition is condition.lines (All-contains_itself condition.lines)) conditions (All-contains_itself conditions)
