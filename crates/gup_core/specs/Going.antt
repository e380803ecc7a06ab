-- What comes of asking an actor for its turn.
use Rattle.std.specs.Prelude.{◌≡◌, ℕ, ◌+◌, ◌≤◌, ◌<◌, ◌++◌, [], ◌∷◌, true, length, List, Some}
use Rattle.gup_plain.specs.Note.{NoteValue, JournalValue}
use Rattle.gup_plain.specs.declared.note.Waiting.{Waiting}
use Rattle.gup_plain.specs.declared.note.What.{What}
use Rattle.gup_spec_journal.specs.Place.{has_finished, place_behind}
use Rattle.gup_spec_turns.specs.JobPlace.{place_in}
use Rattle.gup_spec_turns.specs.Run.{RunState, op_in, can_go, waiting_in, core_turn_in, run_after}
use Rattle.gup_law_waits.specs.Woken.{wakes}
use Rattle.gup_core.specs.declared.outcome.Advanced.{Advanced}
use Rattle.gup_core.specs.declared.outcome.Advanced.TheVariants.{Moved, Waits, Finished}
use Rattle.gup_core.specs.declared.outcome.Woken.{Woken}
use Rattle.gup_core.specs.Machine.{MachineValue, Shows, TakesTurn}
use Rattle.gup_core.specs.Waking.{woken_of}

-- in each state that the machine shows the actor could take a turn
abbrev pub CanGo : MachineValue → (actor : ℕ) → Type 0
CanGo m actor = (r : RunState) → Shows m r → can_go m.script r actor ≡ true

-- in each state that the machine shows the actor waits for this
abbrev pub WaitsFor : MachineValue → (actor : ℕ) → Waiting → Type 0
WaitsFor m actor waiting = (r : RunState) → Shows m r → waiting_in m.script r actor ≡ Some waiting

-- in each state that the machine shows the actor has answered all its operations
abbrev pub HasFinished : MachineValue → (actor : ℕ) → Type 0
HasFinished m actor = (r : RunState) → Shows m r → has_finished m.script actor (r.places actor) ≡ true

-- From each state that the machine shows the actor's turn is taken, and its notes are put on at the journal's end.
abbrev pub WritesTurn : (old new : MachineValue) → (was now : JournalValue) → (actor : ℕ) → Type 0
WritesTurn old new was now actor =
    (r : RunState) → Shows old r → (told : List NoteValue) × (now.notes ≡ was.notes ++ told) × TakesTurn old new actor r told

-- The machine and the notes are as they were, and there is no less room.
pub record Stays (old new : MachineValue) (was now : JournalValue) : Type 0 where
  pub machine : new ≡ old
  pub notes : now.notes ≡ was.notes
  pub room : was.room ≤ now.room

-- from each state that the machine shows the actor's turn may wake these
abbrev pub MayWakeOf : (old : MachineValue) → (actor : ℕ) → Woken → Type 0
MayWakeOf old actor woken =
    (r : RunState) → Shows old r
    → woken_of woken ≡ wakes (op_in old.script r actor) (place_in (run_after old.script r actor).core actor)

-- What is true after an actor was asked for its turn: it could go and has gone, or it waits, or it has finished.
abbrev pub Advances : (old new : MachineValue) → (was now : JournalValue) → (actor : ℕ) → Advanced → Type 0
Advances old new was now actor (Moved woken) = CanGo old actor × WritesTurn old new was now actor × MayWakeOf old actor woken
Advances old new was now actor (Waits waiting) = WaitsFor old actor waiting × Stays old new was now
Advances old new was now actor Finished = HasFinished old actor × Stays old new was now

abbrev pub IsMoved : Advanced → Type 0
IsMoved (Moved woken) = Unit {0}
IsMoved (Waits waiting) = ⊥
IsMoved Finished = ⊥

-- one to three notes more
abbrev pub HasMore : (was now : JournalValue) → Type 0
HasMore was now = (length was.notes < length now.notes) × (length now.notes ≤ length was.notes + 3)

-- what room there was is left, or used by notes
abbrev pub KeepsRoom : (was now : JournalValue) → Type 0
KeepsRoom was now = length was.notes + was.room ≤ length now.notes + now.room

-- In each state that the machine shows the actor's turn is to say this, and it changes nothing.
abbrev pub IsStill : MachineValue → (actor : ℕ) → What → Type 0
IsStill m actor what =
    (r : RunState) → Shows m r
    → (core_turn_in m.script r actor ≡ record { events = []; whats = what ∷ [] })
    × (place_behind (r.places actor) (what ∷ []) ≡ r.places actor)
