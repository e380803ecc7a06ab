-- Outcomes of a search, as they are printed.
use Rattle.std.proofs.Common.{◌≡◌, ℕ, ◌+◌, Bool, true, false, if◌then◌else◌, List, [], ◌∷◌, ◌++◌, Option, Some, Vec, Global, map, slice_get, zero, suc, refl, sym, ap, subst, ◌∙◌}
use Rattle.gup_base.specs.declared.numbers.ActorNo.{ActorNo}
use Rattle.gup_plain.specs.declared.note.Waiting.{Waiting}
use Rattle.gup_lines.specs.declared.outcome.Outcome.{Outcome as Told}
use Rattle.gup_script.specs.Script.{ScriptValue}
use Rattle.gup_script.specs.Valid.{IsScript}
use Rattle.gup_spec_orders.specs.Orders.{IsOrder, IsOutcome, AreOfOrders, AreOfAllOrders, setup, journal_in}
use Rattle.gup_spec_orders.specs.Printed.{lines_told, lines_in}
use Rattle.gup_spec_orders.specs.declared.told.Named.{Named}
use Rattle.gup_spec_orders.specs.declared.told.Outcome.{Outcome}
use Rattle.gup_search.specs.Reach.{ReachesStates, ReachesAllStates}
use Rattle.gup_conditions.specs.Condition.{ConditionValue}
use Rattle.gup_conditions.specs.Line.{line_of_answer}
use Rattle.gup_conditions.specs.Named.{named_of}
use Rattle.gup_conditions.specs.Shown.{IsShown, AreShown, AreAllShown}
use Rattle.gup_conditions.specs.declared.shown.Shown.{Shown}
use Rattle.gup_orders.specs.Found.{AreFindings}
use Rattle.gup_orders.specs.Shows.{IsShownOf, AreShownOf}

pub same_map : {X : Type 0} (xs : List X) → map (λ (x : X). x) xs ≡ xs
same_map [] = refl
same_map (x ∷ xs) = ap (λ ys. x ∷ ys) (same_map xs)

-- one more at the end
pub shown_more : (named : List Named) (outcomes : List Outcome) (shown : List Shown) (outcome : Outcome) (it : Shown) → AreShownOf named outcomes shown → IsShownOf named outcome it → AreShownOf named (outcomes ++ outcome ∷ []) (shown ++ it ∷ [])
shown_more named [] shown outcome it h is = (it, [], is, refl, ap (λ (ss : List Shown). ss ++ it ∷ []) h)
shown_more named (x ∷ xs) shown outcome it h is =
    (h.0, h.1 ++ it ∷ [], h.2, shown_more named xs h.1 outcome it h.3 is, ap (λ (ss : List Shown). ss ++ it ∷ []) h.4)

some_first : {X : Type 0} (x y : X) → Some x ≡ Some y → x ≡ y
some_first x y is = cc

-- what is shown is of an outcome at the same place, and the other way round

pub shown_at : (named : List Named) (outcomes : List Outcome) (shown : List Shown) (k : ℕ) (it : Shown) → AreShownOf named outcomes shown → slice_get shown k ≡ Some it → (outcome : Outcome) × (slice_get outcomes k ≡ Some outcome) × IsShownOf named outcome it
shown_at named [] shown k it h there = let e : slice_get {X = Shown} [] k ≡ Some it = ap (λ (ss : List Shown). slice_get ss k) (sym h) ∙ there in absurd (cc)
shown_at named (x ∷ xs) shown zero it h there =
    let first : h.0 ≡ it = some_first h.0 it (ap (λ (ss : List Shown). slice_get ss zero) (sym h.4) ∙ there) in
    (x, refl, subst (λ (s : Shown). IsShownOf named x s) first h.2)
shown_at named (x ∷ xs) shown (suc k) it h there =
    shown_at named xs h.1 k it h.3 (ap (λ (ss : List Shown). slice_get ss (suc k)) (sym h.4) ∙ there)

pub told_at : (named : List Named) (outcomes : List Outcome) (shown : List Shown) (k : ℕ) (outcome : Outcome) → AreShownOf named outcomes shown → slice_get outcomes k ≡ Some outcome → (it : Shown) × (slice_get shown k ≡ Some it) × IsShownOf named outcome it
told_at named [] shown k outcome h there = absurd (cc)
told_at named (x ∷ xs) shown zero outcome h there =
    (h.0, ap (λ (ss : List Shown). slice_get ss zero) h.4, subst (λ (o : Outcome). IsShownOf named o h.0) (some_first x outcome there) h.2)
told_at named (x ∷ xs) shown (suc k) outcome h there =
    let w = told_at named xs h.1 k outcome h.3 there in
    (w.0, ap (λ (ss : List Shown). slice_get ss (suc k)) h.4 ∙ w.1, w.2)

-- ---- the law of lines

abbrev pub AreLines : Type 0
AreLines =
    (script : ScriptValue) (named : List Named) (order : List ℕ) (outcome : Outcome) → IsScript script → IsOutcome script named order outcome
    → lines_told named outcome.tells.items ≡ lines_in named (journal_in script order)

is_shown : (script : ScriptValue) (named : List Named) (order : List ℕ) (outcome : Outcome) (it : Shown) → AreLines → IsScript script → IsShownOf named outcome it → IsOutcome script named order outcome → IsShown script named order it
is_shown script named order outcome it law valid shows is =
    record {
      lines = shows.lines ∙ ap (λ (ls : List Told). map line_of_answer ls) (law script named order outcome valid is);
      waits = λ a below. ap (λ (ws : Vec (Option Waiting) Global). slice_get ws.items a) shows.waits ∙ is.waits a below;
    }

-- what a search has found, as it is printed
pub are_findings : (script : ScriptValue) (behind : Bool) (limit : ℕ) (conditions : List ConditionValue) (named : List Named) (outcomes : List Outcome) (shown : List Shown) (states : ℕ) (is_open : Bool) → AreLines → IsScript script → named ≡ named_of script conditions → AreShownOf named outcomes shown
    → AreOfOrders script behind named outcomes → (is_open ≡ false → AreOfAllOrders script behind named outcomes) → (is_open ≡ true → states ≡ limit) → ReachesStates script behind named (if is_open then limit + 1 else states) → (is_open ≡ false → ReachesAllStates script behind named states)
    → AreFindings script behind limit conditions (record { outcomes = shown; states = states; is_open = is_open })
are_findings script behind limit conditions named outcomes shown states is_open law valid are shows happen all full reaches others =
    let happens : AreShown script behind named shown =
    λ k it there.
    let w = shown_at named outcomes shown k it shows there in
    let h = happen k w.0 w.1 in
    let path = w.2.path in (
      subst (λ (p : Vec ActorNo Global). IsOrder script behind p.items) (sym path) h.0,
      is_shown script named (setup script behind ++ it.path.items) w.0 it law valid w.2 (subst (λ (p : Vec ActorNo Global). IsOutcome script named (setup script behind ++ p.items) w.0) (sym path) h.1),
    ) in
    let everyone : is_open ≡ false → AreAllShown script behind named shown =
    λ closed order is.
    let h = all closed order is in
    let w = told_at named outcomes shown h.0 h.1 shows h.2 in
    (h.0, w.0, w.1, is_shown script named (setup script behind ++ order) h.1 w.0 law valid w.2 h.3) in
    record {
      happen = subst (λ (ns : List Named). AreShown script behind ns shown) are happens;
      all = λ closed. subst (λ (ns : List Named). AreAllShown script behind ns shown) are (everyone closed);
      states = subst (λ (ns : List Named). ReachesStates script behind ns (if is_open then limit + 1 else states)) are reaches;
      full = full;
      no_others = λ closed. subst (λ (ns : List Named). ReachesAllStates script behind ns states) are (others closed);
    }
