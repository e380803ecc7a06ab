-- What a turn leaves of mirror slots.
use Rattle.std.specs.Prelude.{◌≡◌, ℕ, Option, Some}
use Rattle.gup_script.specs.declared.op.Op.{Op}
use Rattle.gup_script.specs.declared.op.Op.TheVariants.{Mirror}
use Rattle.gup_spec_events.specs.State.{CoreState}
use Rattle.gup_spec_events.specs.Event.{run}
use Rattle.gup_spec_turns.specs.CoreTurn.{CoreTurn}
use Rattle.gup_spec_turns.specs.Emptying.{left_in}

-- the operation is no mirror of this slot
abbrev pub LeavesSlot : Option Op → (m : ℕ) → Type 0
LeavesSlot op m = (proc page : ℕ) → op ≡ Some (Mirror m proc page) → ⊥

-- A turn leaves each slot filled that is of no page which its events invalidate, and empties the others, but for the slot that its
-- operation fills. What they were filled with stays noted.
pub record EmptiesSlots (s : CoreState) (op : Option Op) (turn : CoreTurn) : Type 0 where
  pub left : (m : ℕ) → LeavesSlot op m → (run s turn.events).mirrored m ≡ left_in turn.events (s.mirrored m) (s.slot m)
  pub notes : (m : ℕ) → LeavesSlot op m → (run s turn.events).slot m ≡ s.slot m
