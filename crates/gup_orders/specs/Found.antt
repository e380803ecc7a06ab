-- What a search of a script's orders has found, and what is judged of its conditions.
use Rattle.std.specs.Prelude.{◌≡◌, ℕ, ◌+◌, Bool, true, false, ◌==◌, ◌||◌, ◌&&◌, if◌then◌else◌, List, Some, length, slice_get, map}
use Rattle.std.specs.List.{list_any}
use Rattle.gup_script.specs.Script.{ScriptValue}
use Rattle.gup_search.specs.Reach.{ReachesStates, ReachesAllStates}
use Rattle.gup_conditions.specs.Condition.{ConditionValue}
use Rattle.gup_conditions.specs.Named.{named_of}
use Rattle.gup_conditions.specs.Shown.{AreShown, AreAllShown}
use Rattle.gup_conditions.specs.Verdict.{judged, IsRight}
use Rattle.gup_conditions.specs.declared.shown.Shown.{Shown}
use Rattle.gup_conditions.specs.declared.verdict.Verdict.{Verdict}
use Rattle.gup_conditions.specs.declared.verdict.Verdict.TheVariants.{Yes, No, Open}

-- the outcomes as they are printed, the number of states, and whether there were more states than the limit
pub record Findings : Type 0 where
  pub outcomes : List Shown
  pub states : ℕ
  pub is_open : Bool

-- Each outcome happens, and every order comes to one of them, unless the search is open. They are told apart by the operations that
-- the conditions name. The states are so many as can be reached, and more than the limit can be where the search is open.
pub record AreFindings (script : ScriptValue) (behind : Bool) (limit : ℕ) (conditions : List ConditionValue) (found : Findings) : Type 0 where
  pub happen : AreShown script behind (named_of script conditions) found.outcomes
  pub all : found.is_open ≡ false → AreAllShown script behind (named_of script conditions) found.outcomes
  pub states : ReachesStates script behind (named_of script conditions) (if found.is_open then limit + 1 else found.states)
  pub full : found.is_open ≡ true → found.states ≡ limit
  pub no_others : found.is_open ≡ false → ReachesAllStates script behind (named_of script conditions) found.states

-- ---- verdicts

abbrev pub verdict_on : Findings → ConditionValue → Verdict
verdict_on found condition = judged condition.often condition.lines found.outcomes found.is_open

abbrev pub verdicts_on : Findings → List ConditionValue → List Verdict
verdicts_on found conditions = map (verdict_on found) conditions

-- each is right of every order
abbrev pub AreRight : ScriptValue → (behind : Bool) → List ConditionValue → Findings → Type 0
AreRight script behind conditions found =
    (k : ℕ) (condition : ConditionValue) → slice_get conditions k ≡ Some condition → IsRight script behind condition (verdict_on found condition)

-- ---- statuses

abbrev pub says_no : Verdict → Bool
says_no (Yes seen) = false
says_no (No seen) = true
says_no Open = false

abbrev pub says_open : Verdict → Bool
says_open (Yes seen) = false
says_open (No seen) = false
says_open Open = true

-- 8 where a condition doesn't hold; else 9 where one is open, or where there are none and the search is open; else 0
abbrev pub status_by : (verdicts : List Verdict) → (is_open : Bool) → ℕ
status_by verdicts is_open =
    if list_any says_no verdicts then 8 else if list_any says_open verdicts || ((length verdicts == 0) && is_open) then 9 else 0

abbrev pub status_of : List ConditionValue → Findings → ℕ
status_of conditions found = status_by (verdicts_on found conditions) found.is_open
