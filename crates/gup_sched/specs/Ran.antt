-- What a run of the machine has led to.
use Rattle.std.specs.Prelude.{◌≡◌, ℕ, ◌<◌, Bool, true, false, Option, Some, None, length}
use Rattle.gup_plain.specs.Note.{JournalValue}
use Rattle.gup_script.specs.Script.{ScriptValue}
use Rattle.gup_spec_journal.specs.Place.{has_finished}
use Rattle.gup_spec_turns.specs.Cause.{HaveFinished}
use Rattle.gup_spec_turns.specs.Run.{RunState}
use Rattle.gup_core.specs.Machine.{MachineValue}
use Rattle.gup_core.specs.Going.{WritesTurn, Stays}

-- an actor has operations left that it hasn't answered
abbrev pub IsStuckAt : ScriptValue → RunState → Type 0
IsStuckAt script end = (a : ℕ) × (a < length script.actors) × (has_finished script a (end.places a) ≡ false)

-- a run is said to be stuck where an actor has operations left, and else not
abbrev pub SaysStuck : Bool → ScriptValue → RunState → Type 0
SaysStuck true script end = IsStuckAt script end
SaysStuck false script end = HaveFinished script end

-- the actor has taken its turn, or nothing has changed
abbrev pub TakesOrStays : (took : Bool) → (old new : MachineValue) → (was now : JournalValue) → (actor : ℕ) → Type 0
TakesOrStays true old new was now actor = WritesTurn old new was now actor
TakesOrStays false old new was now actor = Stays old new was now

-- the actor that was found has taken its turn; where none was found nothing has changed
abbrev pub FoundTakes : (old new : MachineValue) → (was now : JournalValue) → (found : Option ℕ) → Type 0
FoundTakes old new was now (Some actor) = WritesTurn old new was now actor
FoundTakes old new was now None = Stays old new was now
