-- What is true of a machine that has taken the turns of an order, and of what the named operations have told.
use Rattle.std.specs.Prelude.{◌≡◌, ℕ, ◌<◌, ◌≤◌, ◌++◌, ◌==◌, if◌then◌else◌, true, List, [], ◌∷◌, length, Option, Some, slice_get}
use Rattle.gup_plain.specs.Note.{NoteValue}
use Rattle.gup_plain.specs.declared.note.Waiting.{Waiting}
use Rattle.gup_script.specs.Script.{ScriptValue}
use Rattle.gup_spec_turns.specs.Run.{RunState, run_start, turned, can_go, waiting_in}
use Rattle.gup_core.specs.Machine.{MachineValue, Shows, TakesTurns}
use Rattle.gup_spec_orders.specs.Orders.{told_in, tells_of, journal_in}
use Rattle.gup_spec_orders.specs.declared.told.Named.{Named}
use Rattle.gup_spec_orders.specs.declared.told.Tell.{Tell}

-- the tells are what the notes tell of the named operations
abbrev pub AreTold : List Named → List Tell → List NoteValue → Type 0
AreTold named tells notes =
    (k : ℕ) (name : Named) → slice_get named k ≡ Some name → tells_of tells k ≡ told_in name notes

-- The places go up from the one on, and stay below the end.
abbrev pub GoUp : (from end : ℕ) → List Tell → Type 0
GoUp from end [] = Unit {0}
GoUp from end (tell ∷ tells) = (from ≤ tell.name) × (tell.name < end) × GoUp tell.name end tells

-- The tells stand operation by operation, and are of named operations. So the same tells of each of them are the same list.
abbrev pub AreInOrder : List Named → List Tell → Type 0
AreInOrder named tells = GoUp 0 (length named) tells

abbrev pub KeepsOrder : List Named → (old new : List Tell) → Type 0
KeepsOrder named old new = AreInOrder named old → AreInOrder named new

-- what the notes tell of the named operations is put in
abbrev pub Tells : List Named → (old new : List Tell) → List NoteValue → Type 0
Tells named old new notes =
    (k : ℕ) (name : Named) → slice_get named k ≡ Some name → tells_of new k ≡ tells_of old k ++ told_in name notes

-- one is put in
abbrev pub Puts : (old new : List Tell) → Tell → Type 0
Puts old new tell =
    (k : ℕ) → tells_of new k ≡ tells_of old k ++ (if tell.name == k then tell.told ∷ [] else [])

-- The machine stands behind the turns of this order from the start, and the tells are what they tell, operation by operation.
pub record Stands (script : ScriptValue) (named : List Named) (order : List ℕ) (m : MachineValue) (tells : List Tell) : Type 0 where
  pub same : m.script ≡ script
  pub shown : Shows m (turned script (run_start script) order)
  pub told : AreTold named tells (journal_in script order)
  pub in_order : AreInOrder named tells

-- the actor takes a turn, and what its notes tell is put in
pub record TakesToldTurn (named : List Named) (m n : MachineValue) (actor : ℕ) (old new : List Tell) : Type 0 where
  pub notes : List NoteValue
  pub taken : TakesTurns m n actor notes
  pub tells : Tells named old new notes
  pub in_order : KeepsOrder named old new

-- in each state that the machine shows these actors can go, and no others
pub record AreReady (m : MachineValue) (ready : List ℕ) : Type 0 where
  pub there : (k a : ℕ) → slice_get ready k ≡ Some a → a < length m.script.actors
  pub can : (k a : ℕ) → slice_get ready k ≡ Some a → (r : RunState) → Shows m r → can_go m.script r a ≡ true
  pub all : (a : ℕ) (r : RunState) → a < length m.script.actors → Shows m r → can_go m.script r a ≡ true → (k : ℕ) × (slice_get ready k ≡ Some a)

-- in each state that the machine shows the actors wait for these
abbrev pub AreWaits : MachineValue → List (Option Waiting) → Type 0
AreWaits m waits =
    (r : RunState) (a : ℕ) → Shows m r → a < length m.script.actors → slice_get waits a ≡ Some (waiting_in m.script r a)
