-- What a row shows.
use Rattle.std.specs.Prelude.{List, Option}
use Rattle.gup_plain.specs.Note.{NoteValue}
use Rattle.gup_script.specs.Script.{ScriptValue}
use Rattle.gup_image.specs.declared.fact.Fact.{Fact}
use Rattle.gup_replay.specs.Turns.{BeginWith}
use Rattle.gup_replay.specs.Beside.{ReplayValue, IsReplay, IsShown}

-- Of these notes the rest is left, and the machine is beside the turns that the others are, or can't be.
abbrev pub IsReplayTo : ScriptValue → (notes rest : List NoteValue) → ReplayValue → Type 0
IsReplayTo script notes rest replay =
    (turns : List (List NoteValue)) × BeginWith notes turns rest × IsReplay script turns replay

-- The facts are the state of the core machine behind the turns that these notes begin with, where this is the rest; there are none exactly
-- where these aren't turns of the core machine.
abbrev pub IsStateAt : ScriptValue → (notes rest : List NoteValue) → Option (List Fact) → Type 0
IsStateAt script notes rest state =
    (turns : List (List NoteValue)) × BeginWith notes turns rest × IsShown script turns state
