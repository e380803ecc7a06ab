-- What comes of asking an actor for its turn.
use Rattle.std.specs.Prelude.{◌≡◌, ℕ, ◌++◌, [], ◌∷◌, true, false, IsSome}
use Rattle.gup_script.specs.Script.{ScriptValue}
use Rattle.gup_spec_journal.specs.Place.{has_finished}
use Rattle.gup_spec_turns.specs.Run.{RunState, run_start, turned, can_go, waiting_in}
use Rattle.gup_live.specs.declared.bus.Stepped.{Stepped}
use Rattle.gup_live.specs.declared.bus.Stepped.TheVariants.{Moved, Answered, Waits, Finished, NoRoom}
use Rattle.gup_live.specs.Bus.{BusValue, ends_in_answer}

-- where the turns of a bus have led
abbrev pub state_of : ScriptValue → BusValue → RunState
state_of script bus = turned script (run_start script) bus.order

-- the actor could go, and has taken a turn
abbrev pub HasGone : ScriptValue → (old new : BusValue) → (actor : ℕ) → Type 0
HasGone script old new actor =
    (can_go script (state_of script old) actor ≡ true) × (new.order ≡ old.order ++ actor ∷ []) × (new.no_room ≡ false)

abbrev pub Steps : ScriptValue → (old new : BusValue) → (actor : ℕ) → Stepped → Type 0
Steps script old new actor Moved = HasGone script old new actor × (ends_in_answer new.notes ≡ false)
Steps script old new actor Answered = HasGone script old new actor × (ends_in_answer new.notes ≡ true)
Steps script old new actor Waits = IsSome (waiting_in script (state_of script old) actor) × (new ≡ old)
Steps script old new actor Finished = (has_finished script actor ((state_of script old).places actor) ≡ true) × (new ≡ old)
Steps script old new actor NoRoom = new ≡ record old { no_room = true }
