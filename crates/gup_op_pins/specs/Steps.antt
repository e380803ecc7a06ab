-- What a step of a walk is to the turn of its pin.
use Rattle.std.specs.Prelude.{◌≡◌, ℕ, ◌+◌, ◌-◌, List, [], ◌∷◌, Option, Some, None}
use Rattle.gup_plain.specs.declared.event.PlainEvent.{PlainEvent}
use Rattle.gup_plain.specs.declared.event.PlainEvent.TheVariants.{PinDrop}
use Rattle.gup_plain.specs.declared.note.What.{What}
use Rattle.gup_plain.specs.declared.note.What.TheVariants.{Silent, Event}
use Rattle.gup_space.specs.Shows.{Change, ShowsFrames, ShowsSpace}
use Rattle.gup_fast.specs.Walks.{WalkValue, Stage, at, ShowsWalk, left_in}
use Rattle.gup_spec_events.specs.State.{CoreState, WalkStep, grabbed, refused, dropping}
use Rattle.gup_spec_events.specs.Event.{run}
use Rattle.gup_spec_turns.specs.CoreTurn.{CoreTurn}
use Rattle.gup_spec_turns.specs.JobPlace.{JobPlace, unbegun, in_walk}
use Rattle.gup_spec_turns.specs.WalkTurns.{walk_turn}
use Rattle.gup_op_pins.specs.Pins.{EndAt}

-- the walk has begun, and isn't over
abbrev pub IsRunning : Stage → Type 0
IsRunning (at step) = Unit {0}
IsRunning stage = ⊥

-- it has grabbed the frame of this page
abbrev pub IsGrabbed : Stage → (page : ℕ) → Type 0
IsGrabbed (at (grabbed g path e)) page = g ≡ page
IsGrabbed stage page = ⊥

-- where the operation stands at this stage of its walk
abbrev pub stage_place : (sequence : ℕ) → Stage → JobPlace
stage_place sequence (at step) = in_walk sequence step
stage_place sequence stage = unbegun

-- pages that are left to drop end at this one
abbrev pub last_at : Stage → (last : ℕ) → Option ℕ
last_at (at dropping) last = Some last
last_at stage last = None

-- a step with an event says that, and one without any is silent
abbrev pub step_whats : Option PlainEvent → List What
step_whats None = Silent ∷ []
step_whats (Some event) = Event event ∷ []

-- The turn says these, and leads from this state to one that shows the frames, the process and the walk that are new, where a walk
-- that is over runs in the process no more; handles are as before, and pages that are left to drop end at the last one.
pub record IsStepTurn (k : Change) (new : WalkValue) (a p last : ℕ) (whats : List What) (s : CoreState) (turn : CoreTurn) : Type 0 where
  pub says : turn.whats ≡ whats
  pub frames : ShowsFrames k.new_frames (run s turn.events)
  pub space : ShowsSpace p (left_in k.new_space new.stage k.old_space.walks) (run s turn.events)
  pub walk : ShowsWalk a p new (run s turn.events)
  pub ends : EndAt (last_at new.stage last) ((run s turn.events).taken a)
  pub handle : (run s turn.events).handle ≡ s.handle
  pub pinned : (run s turn.events).pinned ≡ s.pinned
  pub references : (run s turn.events).got ≡ s.got

-- So it is with the turn of this walk in whatever state shows what was, where the pages that are taken end at the last one.
abbrev pub IsStep : Change → (old new : WalkValue) → (a p last : ℕ) → List What → Type 0
IsStep k old new a p last whats =
    (s : CoreState) (handle : ℕ) (step : WalkStep) → old.stage ≡ at step → ShowsFrames k.old_frames s
    → ShowsSpace p k.old_space s → ShowsWalk a p old s → EndAt (Some last) (s.taken a)
    → IsStepTurn k new a p last whats s (walk_turn s a p handle old.page old.n old.want old.sequence step)

-- the first of so many pages that end at this one
abbrev pub first_of_left : (many last : ℕ) → ℕ
first_of_left many last = last - (many - 1)

-- the event of a drop of a page that was taken: the last one, or the first one
abbrev pub dropped_event : Stage → (a many last : ℕ) → Option PlainEvent
dropped_event (at refused) a many last = Some (PinDrop a last)
dropped_event (at dropping) a many last = Some (PinDrop a (first_of_left many last))
dropped_event stage a many last = None

-- the page where those end that a walk has taken: the one that is kept where it drops all, else the last of the first ones
abbrev pub HasEnd : WalkStep → Option ℕ → (last page many : ℕ) → Type 0
HasEnd dropping kept last page many = kept ≡ Some last
HasEnd step kept last page many = last ≡ page + (many - 1)
