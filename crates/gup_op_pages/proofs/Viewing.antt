-- Frames and one process before a change, and after it.
use Rattle.std.proofs.Common.{◌≡◌, ℕ, List, None, ◌∙◌}
use Rattle.gup_frames.specs.Frames.{FramesValue}
use Rattle.gup_space.specs.Space.{SpaceValue}
use Rattle.gup_space.specs.Shows.{Change, AreEvents}
use Rattle.gup_space.proofs.ShowsLemmas.{events_lead}
use Rattle.gup_spec_events.specs.State.{CoreState}
use Rattle.gup_spec_events.specs.Event.{CoreEvent, run}
use Rattle.gup_op_pages.specs.Alone.{AloneView, ShowsAlone}

abbrev pub view : FramesValue → SpaceValue → AloneView
view F S = record { frames = F; space = S }

abbrev pub before : Change → AloneView
before c = view c.old_frames c.old_space

abbrev pub behind : Change → AloneView
behind c = view c.new_frames c.new_space

-- the change's events lead from the one to the other, where nobody holds the table lock
pub events_show : {c : Change} {events : (a p : ℕ) → List CoreEvent} → AreEvents c events → (s : CoreState) (a p : ℕ) → c.old_space.table ≡ None → ShowsAlone p (before c) s → ShowsAlone p (behind c) (run s (events a p))
events_show made s a p unlocked h =
    let led = events_lead made s a p h.frames h.space (h.space.table ∙ unlocked) in
    record { frames = led.0; space = led.1 }
