-- What is true of a machine between two turns.
use Rattle.std.specs.Prelude.{◌≡◌, ℕ, ◌+◌, ◌*◌, ◌≤◌, Bool, List, length, slice_get, Option, Some}
use Rattle.arrayvec.specs.ArrayVec.{ArrayVec}
use Rattle.gup_base.specs.declared.entry.Want.{Want}
use Rattle.gup_base.specs.declared.entry.Zone.{Zone}
use Rattle.gup_plain.specs.Event.{page_numbers}
use Rattle.gup_script.specs.declared.op.Op.{Op}
use Rattle.gup_script.specs.declared.op.Op.TheVariants.{Pin, Fork, Move}
use Rattle.gup_script.specs.Limits.{most_handles}
use Rattle.gup_script.specs.Valid.{IsScript, made_by}
use Rattle.gup_spec_journal.specs.Place.{ops_of, process_of}
use Rattle.gup_frames.specs.Frames.{FramesValue, frames_of, IsFrame}
use Rattle.gup_notify.specs.Mirrors.{Filled, mirrors_of}
use Rattle.gup_space.specs.Space.{SpaceValue, SpaceParts, space_of}
use Rattle.gup_handles.specs.Handles.{handles_of, unmade}
use Rattle.gup_spec_events.specs.Event.{bias}
use Rattle.gup_spec_turns.specs.JobPlace.{JobPlace as Place, KeepsNoJob, unbegun, moving_page, in_walk}
use Rattle.gup_spec_turns.specs.PinPlace.{IsAtStep}
use Rattle.gup_op_base.specs.Far.{HasFar}
use Rattle.gup_op_base.specs.Jobs.{place_of}
use Rattle.gup_op_fork.specs.Forked.{IsReadyAt}
use Rattle.gup_op_pins.specs.Pins.{IsReferred, IsWeighed}
use Rattle.gup_op_move.specs.Moving.{IsReadyToMove}
use Rattle.gup_op_pins.specs.Pins.{IsCleared, IsReadyToWalk, IsCountedWalk, IsWithinPin}
use Rattle.gup_op_base.specs.Tidy.{IsTidy}
use Rattle.gup_op_waits.specs.declared.seats.Seat.{Seat}
use Rattle.gup_core.specs.Machine.{MachineValue}
use Rattle.gup_op_waits.specs.Parts.{AreParts, EachSpace}

-- the operation that an actor of this seat does
abbrev pub op_of_seat : MachineValue → (a : ℕ) → Seat → Option Op
op_of_seat m a seat = slice_get (ops_of m.script a) seat.answered

-- the actor holds neither lock of the process
abbrev pub HoldsNoLock : SpaceValue → (a : ℕ) → Type 0
HoldsNoLock space a = (space.structure ≡ Some a → ⊥) × (space.table ≡ Some a → ⊥)

-- What a pin of n pages by actor a stands on, which has taken these frames, the next one after which is this page: it holds no lock
-- before it is in the middle of the page.
abbrev pub IsReadyPin : FramesValue → (taken : List ℕ) → (page n : ℕ) → Want → (a : ℕ) → Place → SpaceValue → Type 0
IsReadyPin frames taken page n want a unbegun space = HoldsNoLock space a
IsReadyPin frames taken page n want a (moving_page g e count) space = (g ≡ page) × IsCleared frames page want e space
IsReadyPin frames taken page n want a (in_walk sequence step) space = IsAtStep page n (length taken) step × IsReadyToWalk frames space taken step
IsReadyPin frames taken page n want a place space = ⊥

-- Its script is one, and it has its parts and a seat for each actor. Each process is tidy; counts and sequences are small, and
-- so are the walks that run in a process, of which each actor's walk is one. An actor that does no fork and no move holds no
-- lock, what a fork has counted it can share or copy, a page that a move has cleared is mapped and lacks no page table, as the
-- child of a fork lacks none for a page that is copied, and what a pin has taken are its first pages. No actor has answered
-- more operations than it has, and one that goes over pages or words stands at one of them, a pin at one of its turns. Pins
-- have the weight of their pages and references that of theirs, and no handle is made before its operation. The frame of a
-- filled mirror slot is there.
pub record IsAtRest (m : MachineValue) : Type 0 where
  pub valid : IsScript m.script
  pub parts : AreParts m.script m.parts
  pub seats : length m.seats ≡ length m.script.actors
  pub tidy : EachSpace (IsTidy (frames_of m.parts.frames)) m.parts.spaces.items
  pub few_forks : EachSpace (λ space. space.sequence ≤ 32) m.parts.spaces.items
  pub few_walks : EachSpace (λ space. space.walks ≤ 81) m.parts.spaces.items
  pub few_counts : (f : ℕ) → (frames_of m.parts.frames).count f ≤ 16 * page_numbers + most_handles + 81 + bias * 17761
  pub unlocked : (p a : ℕ) (space : SpaceParts) (seat : Seat) → slice_get m.parts.spaces.items p ≡ Some space → slice_get m.seats a ≡ Some seat → KeepsNoJob (op_of_seat m a seat) → HoldsNoLock (space_of space) a
  pub forks : (a child : ℕ) (seat : Seat) (parent kid : SpaceParts) → slice_get m.seats a ≡ Some seat → op_of_seat m a seat ≡ Some (Fork child) → slice_get m.parts.spaces.items (process_of m.script a) ≡ Some parent → slice_get m.parts.spaces.items child ≡ Some kid → IsReadyAt (frames_of m.parts.frames) a (place_of seat.job) (space_of parent) (space_of kid)
  pub moves : (a q page : ℕ) (zone : Zone) (seat : Seat) (space : SpaceParts) → slice_get m.seats a ≡ Some seat → op_of_seat m a seat ≡ Some (Move q page zone) → slice_get m.parts.spaces.items q ≡ Some space → IsReadyToMove (frames_of m.parts.frames) page (place_of seat.job) (space_of space)
  pub answered : (a : ℕ) (seat : Seat) → slice_get m.seats a ≡ Some seat → seat.answered ≤ length (ops_of m.script a)
  pub far : (a : ℕ) (seat : Seat) (op : Op) → slice_get m.seats a ≡ Some seat → op_of_seat m a seat ≡ Some op → HasFar op seat.far
  pub weighed : (h : ℕ) → IsWeighed (frames_of m.parts.frames) (handles_of m.parts.handles h)
  pub referred : (h : ℕ) → IsReferred (frames_of m.parts.frames) (handles_of m.parts.handles h)
  pub mirrored : (slot : ℕ) (filled : Filled) → mirrors_of m.mirrors slot ≡ Some filled → IsFrame (frames_of m.parts.frames) filled.frame
  pub yet : (a handle : ℕ) (op : Op) (seat : Seat) → slice_get m.seats a ≡ Some seat → op_of_seat m a seat ≡ Some op → made_by op ≡ Some handle → handles_of m.parts.handles handle ≡ unmade
  pub taken : (a handle page n : ℕ) (want : Want) (fast : Bool) (seat : Seat) (pages : ArrayVec ℕ) → slice_get m.seats a ≡ Some seat → slice_get m.parts.taken.items a ≡ Some pages → op_of_seat m a seat ≡ Some (Pin handle page n want fast) → IsWithinPin n (length pages.items) (place_of seat.job)
  pub pins : (a handle page n : ℕ) (want : Want) (fast : Bool) (seat : Seat) (space : SpaceParts) (pages : ArrayVec ℕ) → slice_get m.seats a ≡ Some seat → op_of_seat m a seat ≡ Some (Pin handle page n want fast) → slice_get m.parts.spaces.items (process_of m.script a) ≡ Some space → slice_get m.parts.taken.items a ≡ Some pages → IsReadyPin (frames_of m.parts.frames) pages.items (page + length pages.items) n want a (place_of seat.job) (space_of space)
  pub walks : (a handle page n : ℕ) (want : Want) (fast : Bool) (seat : Seat) (space : SpaceParts) → slice_get m.seats a ≡ Some seat → op_of_seat m a seat ≡ Some (Pin handle page n want fast) → slice_get m.parts.spaces.items (process_of m.script a) ≡ Some space → IsCountedWalk (place_of seat.job) (space_of space)
