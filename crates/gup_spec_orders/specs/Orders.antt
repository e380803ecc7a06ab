-- The orders in which the actors of a script can take their turns, and what each comes to.
use Rattle.std.specs.Prelude.{◌≡◌, ℕ, ◌<◌, ◌==◌, ◌&&◌, Bool, true, false, if◌then◌else◌, List, [], ◌∷◌, ◌++◌, Option, Some, None, option_map, length, slice_get, map, filter}
use Rattle.std.specs.List.{cons_option}
use Rattle.gup_plain.specs.Note.{NoteValue}
use Rattle.gup_plain.specs.declared.note.What.{What}
use Rattle.gup_plain.specs.declared.note.What.TheVariants.{Event, Done}
use Rattle.gup_script.specs.Script.{ScriptValue}
use Rattle.gup_spec_journal.specs.Order.{Turn, journal_of}
use Rattle.gup_spec_turns.specs.Run.{RunState, run_start, run_after, turned, turn_in, can_go, waiting_in}
use Rattle.gup_lines.specs.Text.{word_in}
use Rattle.gup_spec_orders.specs.declared.told.Named.{Named}
use Rattle.gup_spec_orders.specs.declared.told.Tell.{Tell}
use Rattle.gup_spec_orders.specs.declared.told.Told.{Told}
use Rattle.gup_spec_orders.specs.declared.told.Told.TheVariants.{Word, Answer}
use Rattle.gup_spec_orders.specs.declared.told.Outcome.{Outcome}

-- ---- orders

-- The actors take turns in this order, from r on, and each could go when it was its turn.
abbrev pub Goes : ScriptValue → RunState → (order : List ℕ) → Type 0
Goes script r [] = Unit {0}
Goes script r (a ∷ order) = (a < length script.actors) × (can_go script r a ≡ true) × Goes script (run_after script r a) order

-- nobody can go
abbrev pub IsOver : ScriptValue → RunState → Type 0
IsOver script r = (a : ℕ) → a < length script.actors → can_go script r a ≡ false

-- the turns that are taken before any order: none, or the written ones
abbrev pub setup : ScriptValue → (behind : Bool) → List ℕ
setup script false = []
setup script true = script.turns

-- where the orders begin
abbrev pub beginning : ScriptValue → (behind : Bool) → RunState
beginning script behind = turned script (run_start script) (setup script behind)

-- An order: the actors take turns until nobody can go.
pub record IsOrder (script : ScriptValue) (behind : Bool) (order : List ℕ) : Type 0 where
  pub goes : Goes script (beginning script behind) order
  pub over : IsOver script (turned script (beginning script behind) order)

-- ---- what is told

-- the turns that actors take in this order, from r on
abbrev pub turns_in : ScriptValue → RunState → (order : List ℕ) → List Turn
turns_in script r [] = []
turns_in script r (a ∷ order) = turn_in script r a ∷ turns_in script (run_after script r a) order

-- the journal of turns in this order from the start
abbrev pub journal_in : ScriptValue → (order : List ℕ) → List NoteValue
journal_in script order = journal_of 1 (run_start script).places (turns_in script (run_start script) order)

-- what a note tells of its operation: a word that it moved, or its answer
abbrev pub told_of : What → Option Told
told_of (Event event) = option_map (λ (word : ℕ). Word word) (word_in event)
told_of (Done answer) = Some (Answer answer)
told_of what = None

-- is the note one of the operation?
abbrev pub is_of : Named → NoteValue → Bool
is_of name note = (note.actor == name.actor) && (note.op == name.op)

-- what the notes tell of the operation, in order
abbrev pub told_in : Named → List NoteValue → List Told
told_in name [] = []
told_in name (note ∷ notes) = cons_option (if is_of name note then told_of note.what else None) (told_in name notes)

-- what is told of the operation at this place among those that are named
abbrev pub tells_of : List Tell → (k : ℕ) → List Told
tells_of tells k = map (λ (tell : Tell). tell.told) (filter (λ (tell : Tell). tell.name == k) tells)

-- ---- outcomes

-- What turns in this order from the start come to: what the named operations have told, and what each actor waits for at the end.
pub record IsOutcome (script : ScriptValue) (named : List Named) (order : List ℕ) (outcome : Outcome) : Type 0 where
  pub tells : (k : ℕ) (name : Named) → slice_get named k ≡ Some name → tells_of outcome.tells.items k ≡ told_in name (journal_in script order)
  pub waits : (a : ℕ) → a < length script.actors → slice_get outcome.waits.items a ≡ Some (waiting_in script (turned script (run_start script) order) a)

-- Each outcome happens: its path is an order, and comes to it.
abbrev pub AreOfOrders : ScriptValue → (behind : Bool) → List Named → List Outcome → Type 0
AreOfOrders script behind named outcomes =
    (k : ℕ) (outcome : Outcome) → slice_get outcomes k ≡ Some outcome
    → IsOrder script behind outcome.path.items × IsOutcome script named (setup script behind ++ outcome.path.items) outcome

-- Every order comes to one of the outcomes.
abbrev pub AreOfAllOrders : ScriptValue → (behind : Bool) → List Named → List Outcome → Type 0
AreOfAllOrders script behind named outcomes =
    (order : List ℕ) → IsOrder script behind order
    → (k : ℕ) × (outcome : Outcome) × (slice_get outcomes k ≡ Some outcome) × IsOutcome script named (setup script behind ++ order) outcome
