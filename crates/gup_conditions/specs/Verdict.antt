-- What is judged of a condition, of the outcomes that a search has found.
use Rattle.std.specs.Prelude.{ℕ, Bool, true, false, not, List, Option, Some, None, length, nat_lt, if◌then◌else◌}
use Rattle.std.specs.List.{position_or_len}
use Rattle.gup_script.specs.Script.{ScriptValue}
use Rattle.gup_conditions.specs.Line.{LineValue, has_all}
use Rattle.gup_conditions.specs.Condition.{ConditionValue, Holds, Fails}
use Rattle.gup_conditions.specs.declared.condition.Often.{Often}
use Rattle.gup_conditions.specs.declared.condition.Often.TheVariants.{Never, Sometimes, Always}
use Rattle.gup_conditions.specs.declared.verdict.Verdict.{Verdict}
use Rattle.gup_conditions.specs.declared.verdict.Verdict.TheVariants.{Yes, No, Open}
use Rattle.gup_conditions.specs.declared.shown.Shown.{Shown}

-- the place of the first that passes
abbrev pub first_place : {X : Type 0} → (X → Bool) → List X → Option ℕ
first_place test xs = if nat_lt (position_or_len test xs) (length xs) then Some (position_or_len test xs) else None

-- what an outcome shows, or, where none does and the search is open, nothing
abbrev pub shown_or : (seen : Option ℕ) → (Option ℕ → Verdict) → (is_open : Bool) → Verdict → Verdict
shown_or (Some k) shows is_open other = shows (Some k)
shown_or None shows true other = Open
shown_or None shows false other = other

-- is each line that is wanted among those of the outcome?
abbrev pub shows_all : List LineValue → Shown → Bool
shows_all wanted shown = has_all shown.lines.items wanted

-- the verdict on lines that are wanted so often: the first outcome that has them, or lacks one, decides
abbrev pub judged : Often → (wanted : List LineValue) → List Shown → (is_open : Bool) → Verdict
judged Never wanted outcomes is_open = shown_or (first_place (shows_all wanted) outcomes) No is_open (Yes None)
judged Sometimes wanted outcomes is_open = shown_or (first_place (shows_all wanted) outcomes) Yes is_open (No None)
judged Always wanted outcomes is_open =
    shown_or (first_place (λ (shown : Shown). not (shows_all wanted shown)) outcomes) No is_open (Yes None)

-- a verdict that is right of every order
abbrev pub IsRight : ScriptValue → (behind : Bool) → ConditionValue → Verdict → Type 0
IsRight script behind condition (Yes seen) = Holds script behind condition
IsRight script behind condition (No seen) = Fails script behind condition
IsRight script behind condition Open = Unit {0}
