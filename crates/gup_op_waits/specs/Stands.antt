-- Where an actor stands before a turn of its operation.
use Rattle.std.specs.Prelude.{◌≡◌, ℕ, ◌+◌, ◌<◌, Bool, true, List, length, Some}
use Rattle.gup_base.specs.Parts.{Part}
use Rattle.gup_base.specs.declared.entry.Want.{Want}
use Rattle.gup_base.specs.declared.entry.Zone.{Zone}
use Rattle.gup_script.specs.declared.op.Op.{Op}
use Rattle.gup_script.specs.declared.op.Op.TheVariants.{Pin, Transfer, Move, Fork}
use Rattle.gup_spec_events.specs.State.{CoreState, idle}
use Rattle.gup_spec_turns.specs.JobPlace.{KeepsNoJob, KeepsFrame, StandsFork, StandsMove}
use Rattle.gup_spec_turns.specs.PinPlace.{StandsPin}
use Rattle.gup_op_devices.specs.Transfers.{IsWhole}

-- The actor of process p stands before a turn of this operation, of which so many turns are over: it is in the middle of
-- nothing but, where the operation is one, a fork, a move, a long pin or one that walks; after its first turn the process of a pin has
-- pinned, and a pin whose words it moves has all its pages.
pub record StandsAt (s : CoreState) (a p far : ℕ) (op : Op) : Type 0 where
  pub idle_job : KeepsNoJob (Some op) → s.job a ≡ idle
  pub keeps : KeepsFrame (s.job a) (s.prepared a)
  pub fork : (child : ℕ) → op ≡ Fork child → StandsFork s a p child (s.job a) (s.prepared a)
  pub move : (q page : ℕ) (zone : Zone) → op ≡ Move q page zone → StandsMove s a p page zone (s.job a)
  pub pin : (handle page n : ℕ) (want : Want) (fast : Bool) → op ≡ Pin handle page n want fast → StandsPin s a p handle page n want fast (length (s.taken a))
  pub pinned : (handle page n : ℕ) (want : Want) (fast : Bool) → op ≡ Pin handle page n want fast → 0 < length (s.taken a) + far → s.has_pinned p ≡ true
  pub whole : (handle slot : ℕ) (outward : Bool) (parts : List Part) → op ≡ Transfer handle outward slot parts → IsWhole s a handle
