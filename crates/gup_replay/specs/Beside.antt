-- The core run beside turns that are told.
use Rattle.std.specs.Prelude.{◌≡◌, ℕ, ◌+◌, Bool, List, [], ◌∷◌, Option, length, map, MatchBool, MatchOption}
use Rattle.gup_plain.specs.Note.{NoteValue}
use Rattle.gup_script.specs.Script.{ScriptValue}
use Rattle.gup_spec_journal.specs.Follows.{notes_of_turn}
use Rattle.gup_spec_turns.specs.Run.{RunState, run_start, run_after, turned, core_turn_in}
use Rattle.gup_image.specs.declared.fact.Fact.{Fact}
use Rattle.gup_core.specs.Machine.{MachineValue, Shows}
use Rattle.gup_core.specs.Images.{IsImage}
use Rattle.gup_replay.specs.Turns.{taker}

-- what turns of these actors tell, turn by turn, from the state r on, where they are numbered from this number on
abbrev pub told_from : ScriptValue → RunState → (number : ℕ) → (actors : List ℕ) → List (List NoteValue)
told_from script r number [] = []
told_from script r number (a ∷ actors) =
    notes_of_turn number a ((r.places a).answered + 1) (core_turn_in script r a).whats
    ∷ told_from script (run_after script r a) (number + 1) actors

abbrev pub takers : List (List NoteValue) → List ℕ
takers turns = map taker turns

-- Told are the turns of the core machine, one after another from the script's start, in the order in which their actors take them: each
-- tells just what it does there.
abbrev pub AreOfCore : ScriptValue → List (List NoteValue) → Type 0
AreOfCore script turns = turns ≡ told_from script (run_start script) 1 (takers turns)

-- the state that the core machine is in behind turns of these actors
abbrev pub state_behind : ScriptValue → (turns : List (List NoteValue)) → RunState
state_behind script turns = turned script (run_start script) (takers turns)

-- The facts are all that is true of a machine that shows the state behind these turns.
abbrev pub IsStateBehind : ScriptValue → (turns : List (List NoteValue)) → List Fact → Type 0
IsStateBehind script turns facts =
    (m : MachineValue) × (m.script ≡ script) × Shows m (state_behind script turns) × IsImage m facts

-- What is shown behind turns that are told: the state, exactly where they are turns of the core machine.
abbrev pub IsShown : ScriptValue → (turns : List (List NoteValue)) → Option (List Fact) → Type 0
IsShown script turns state =
    MatchOption state (AreOfCore script turns → ⊥) (λ facts. AreOfCore script turns × IsStateBehind script turns facts)

-- A machine, and whether it is beside the turns that were told so far.
pub record ReplayValue : Type 0 where
  pub machine : MachineValue
  pub is_beside : Bool

-- the machine has taken these turns
pub record HasTaken (script : ScriptValue) (turns : List (List NoteValue)) (m : MachineValue) : Type 0 where
  pub core : AreOfCore script turns
  pub shown : Shows m (state_behind script turns)
  pub count : m.turns ≡ length turns

-- The machine is beside these turns, or none can be: they aren't turns of the core machine.
pub record IsReplay (script : ScriptValue) (turns : List (List NoteValue)) (replay : ReplayValue) : Type 0 where
  pub same : replay.machine.script ≡ script
  pub beside : MatchBool replay.is_beside (HasTaken script turns replay.machine) (AreOfCore script turns → ⊥)
