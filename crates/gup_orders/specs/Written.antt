-- What the writer of a text asks of what it writes.
use Rattle.std.specs.Prelude.{◌≡◌, ℕ, ◌<◌, ◌≤◌, ◌^◌, List, [], ◌∷◌, Option, None, Some, length, slice_get}
use Rattle.gup_plain.specs.declared.note.Waiting.{Waiting}
use Rattle.gup_script.specs.Script.{ScriptValue}
use Rattle.gup_lines.specs.Text.{NamesWaiting}
use Rattle.gup_conditions.specs.declared.shown.Shown.{Shown}
use Rattle.gup_conditions.specs.declared.verdict.Verdict.{Verdict}
use Rattle.gup_conditions.specs.declared.verdict.Verdict.TheVariants.{Yes, No, Open}

-- it says of each actor whether it waits, for a process or a handle of the script
pub record AreNamedIn (script : ScriptValue) (waits : List (Option Waiting)) : Type 0 where
  pub all : length script.actors ≤ length waits
  pub named : (a : ℕ) (waiting : Waiting) → a < length script.actors → slice_get waits a ≡ Some (Some waiting) → NamesWaiting script waiting

abbrev pub AreNamedWaits : ScriptValue → List Shown → Type 0
AreNamedWaits script outcomes = (k : ℕ) (shown : Shown) → slice_get outcomes k ≡ Some shown → AreNamedIn script shown.waits.items

-- a place in a list
abbrev pub IsPlace : Option ℕ → Type 0
IsPlace None = Unit {0}
IsPlace (Some k) = k < 2 ^ 63

abbrev pub IsSeen : Verdict → Type 0
IsSeen (Yes seen) = IsPlace seen
IsSeen (No seen) = IsPlace seen
IsSeen Open = Unit {0}

abbrev pub AreSeen : List Verdict → Type 0
AreSeen [] = Unit {0}
AreSeen (verdict ∷ verdicts) = IsSeen verdict × AreSeen verdicts
