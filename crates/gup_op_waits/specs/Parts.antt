-- What the parts of a machine are to a state of the core machine, and to a script.
use Rattle.std.specs.Prelude.{◌≡◌, ℕ, List, Option, Some, length, slice_get}
use Rattle.arrayvec.specs.ArrayVec.{ArrayVec}
use Rattle.gup_plain.specs.State.{Birth, born, unborn, growing, failed}
use Rattle.gup_script.specs.Script.{ScriptValue}
use Rattle.gup_spec_journal.specs.Place.{doer}
use Rattle.gup_frames.specs.Frames.{frames_of}
use Rattle.gup_space.specs.Space.{SpaceValue, SpaceParts, space_of}
use Rattle.gup_space.specs.Shows.{ShowsFrames, ShowsSpace}
use Rattle.gup_handles.specs.Handles.{handles_of}
use Rattle.gup_spec_events.specs.State.{CoreState}
use Rattle.gup_spec_events.specs.Event.{taken_frames as frames_taken}
use Rattle.gup_handles.specs.Shows.{ShowsHandles}
use Rattle.gup_op_pins.specs.Held.{ShowsStore, slots_in}
use Rattle.gup_op_waits.specs.declared.births.Birth.{Birth as KeptBirth}
use Rattle.gup_op_waits.specs.declared.births.Birth.TheVariants.{Unborn, Growing, Born, Failed}
use Rattle.gup_op_waits.specs.declared.parts.Parts.{Parts}

-- this holds of each process
abbrev pub EachSpace : (SpaceValue → Type 0) → List SpaceParts → Type 0
EachSpace P spaces = (p : ℕ) (space : SpaceParts) → slice_get spaces p ≡ Some space → P (space_of space)

-- the state has these processes
abbrev pub ShowsSpaces : List SpaceParts → CoreState → Type 0
ShowsSpaces spaces s = (p : ℕ) (space : SpaceParts) → slice_get spaces p ≡ Some space → ShowsSpace p (space_of space) s

-- a process is born so
abbrev pub IsBirth : KeptBirth → Birth → Type 0
IsBirth Unborn birth = birth ≡ unborn
IsBirth Growing birth = (parent : ℕ) × (birth ≡ growing parent)
IsBirth Born birth = birth ≡ born
IsBirth Failed birth = birth ≡ failed

-- and all are
abbrev pub ShowsBirths : List KeptBirth → CoreState → Type 0
ShowsBirths births s = (p : ℕ) (birth : KeptBirth) → slice_get births p ≡ Some birth → IsBirth birth (s.birth p)

-- what the running pins of actors have taken
abbrev pub ShowsTaken : List (ArrayVec ℕ) → CoreState → Type 0
ShowsTaken taken s =
    (a : ℕ) (pages : ArrayVec ℕ) → slice_get taken a ≡ Some pages → frames_taken (s.taken a) ≡ pages.items

-- the words of devices
abbrev pub ShowsStores : List (Option (List ℕ)) → CoreState → Type 0
ShowsStores stores s = (a : ℕ) (store : Option (List ℕ)) → slice_get stores a ≡ Some store → ShowsStore a store s

-- the state has these parts
pub record ShowsParts (parts : Parts) (s : CoreState) : Type 0 where
  pub frames : ShowsFrames (frames_of parts.frames) s
  pub spaces : ShowsSpaces parts.spaces.items s
  pub births : ShowsBirths parts.births.items s
  pub pins : ShowsHandles (handles_of parts.handles) s
  pub taken : ShowsTaken parts.taken.items s
  pub stores : ShowsStores parts.stores.items s

-- The parts are those of a machine of the script: a space and a birth for each process, and for each actor what it has
-- taken, and the store of its slots, if it is a device.
pub record AreParts (script : ScriptValue) (parts : Parts) : Type 0 where
  pub spaces : length parts.spaces.items ≡ length script.processes
  pub births : length parts.births.items ≡ length script.processes
  pub taken : length parts.taken.items ≡ length script.actors
  pub stores : length parts.stores.items ≡ length script.actors
  pub slots : (a : ℕ) (store : Option (List ℕ)) → slice_get parts.stores.items a ≡ Some store → slots_in store ≡ (doer script a).slots
