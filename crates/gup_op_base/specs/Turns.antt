-- What a turn of an operation leads to, whatever it is over: a view of the state that it changes.
use Rattle.std.specs.Prelude.{◌≡◌, List}
use Rattle.gup_plain.specs.declared.note.What.{What}
use Rattle.gup_spec_events.specs.State.{CoreState}
use Rattle.gup_spec_events.specs.Event.{run}
use Rattle.gup_spec_turns.specs.CoreTurn.{CoreTurn}

-- From this state the turn leads to one that shows this, and says these.
pub record Leads {X : Type 0} (Shows : X → CoreState → Type 0) (new : X) (s : CoreState) (turn : CoreTurn) (whats : List What) : Type 0 where
  pub says : turn.whats ≡ whats
  pub shown : Shows new (run s turn.events)

-- So it is from whatever state shows what was, where the actor stands before such a turn.
abbrev pub IsTurnOf : {X : Type 0} (Shows : X → CoreState → Type 0) (Stands : CoreState → Type 0) (old new : X) → (CoreState → CoreTurn) → List What → Type 0
IsTurnOf Shows Stands old new turn whats =
    (s : CoreState) → Shows old s → Stands s → Leads Shows new s (turn s) whats

-- it may stand anywhere
abbrev pub Anywhere : CoreState → Type 0
Anywhere s = Unit {0}
