-- What is left of mirror slots before a turn, as the machine keeps them.
use Rattle.std.specs.Prelude.{◌≡◌, ℕ, Option, Some}
use Rattle.gup_script.specs.declared.op.Op.{Op}
use Rattle.gup_spec_events.specs.State.{CoreState}
use Rattle.gup_law_base.specs.Sound.{IsSound}
use Rattle.gup_spec_journal.specs.Place.{Doer}
use Rattle.gup_spec_turns.specs.Emptying.{left_in}
use Rattle.gup_spec_turns.specs.JobPlace.{place_in}
use Rattle.gup_spec_turns.specs.Turn.{op_turn}
use Rattle.gup_notify.specs.Mirrors.{MirrorsValue}
use Rattle.gup_notify.specs.Shows.{ShowsMirrors}
use Rattle.gup_op_base.specs.Far.{far_in}
use Rattle.gup_op_base.specs.Jobs.{place_of}
use Rattle.gup_op_base.specs.declared.jobs.JobPlace.{JobPlace}
use Rattle.gup_op_waits.specs.Doers.{IsProcessOf}
use Rattle.gup_op_waits.specs.Parts.{ShowsParts}
use Rattle.gup_op_waits.specs.Stands.{StandsAt}
use Rattle.gup_op_waits.specs.declared.parts.Parts.{Parts}

-- From a sound state that has these parts and slots, and in which the actor stands before a turn of the operation, a state has the
-- new slots that has of slots what the turn leaves of them.
abbrev pub LeavesSlotsOf : Parts → (a : ℕ) → (proc : Option ℕ) → (far : ℕ) → JobPlace → Op → (old new : MirrorsValue) → Type 0
LeavesSlotsOf parts a proc far job op old new =
    (s t : CoreState) (who : Doer) (slots k : ℕ) → ShowsParts parts s → ShowsMirrors old s → IsSound s → IsProcessOf who proc
    → far ≡ far_in (Some op) k → place_of job ≡ place_in s a → StandsAt s a who.proc k op
    → ((m : ℕ) → t.mirrored m ≡ left_in (op_turn s a who.proc slots k op).events (s.mirrored m) (s.slot m))
    → ((m : ℕ) → t.slot m ≡ s.slot m) → ShowsMirrors new t
