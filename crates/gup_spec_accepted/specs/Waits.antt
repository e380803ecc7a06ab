-- Who waits, and for what.
use Rattle.std.specs.Prelude.{◌≡◌, ℕ, ◌<◌, true, false, Option, Some, List, [], ◌∷◌}
use Rattle.gup_plain.specs.Note.{NoteValue}
use Rattle.gup_plain.specs.declared.note.What.{What}
use Rattle.gup_plain.specs.declared.note.What.TheVariants.{Idle, Wait}
use Rattle.gup_plain.specs.declared.note.Waiting.{Waiting}
use Rattle.gup_plain.specs.declared.note.Waiting.TheVariants.{Holder}
use Rattle.gup_script.specs.Script.{ScriptValue}
use Rattle.gup_spec_journal.specs.Place.{doer_of, birth_for, present_op, has_finished}
use Rattle.gup_spec_journal.specs.Order.{handle_waits, waiting_at, KeepsLock}
use Rattle.gup_spec_journal.specs.Plain.{Judged, judged_after, judged_first}

-- Actor b is in the middle of a fork, a move or a long pin of the process that a's operation is of.
abbrev pub HoldsFor : ScriptValue → Judged → (a b : ℕ) → Type 0
HoldsFor script j a b =
    let op = present_op script a (j.places a) in
    let other = present_op script b (j.places b) in
    (a ≡ b → ⊥) × ((doer_of script b other).proc ≡ (doer_of script a op).proc) × (0 < (j.places b).far) × KeepsLock other

-- what the plain state says that an actor waits for: a process to be born, or a handle to be given
abbrev pub waits_for : ScriptValue → Judged → (a : ℕ) → Option Waiting
waits_for script j a =
    let op = present_op script a (j.places a) in
    let who = doer_of script a op in
    waiting_at who.proc (birth_for j.plain.birth who) (handle_waits j.plain.handle a op)

abbrev pub WaitsRight : ScriptValue → Judged → (a : ℕ) → Waiting → Type 0
WaitsRight script j a (Holder b) = HoldsFor script j a b
WaitsRight script j a waiting = waits_for script j a ≡ Some waiting

-- who has finished is idle, and never waits
abbrev pub StandsRight : ScriptValue → Judged → (a : ℕ) → What → Type 0
StandsRight script j a Idle = has_finished script a (j.places a) ≡ true
StandsRight script j a (Wait waiting) = (has_finished script a (j.places a) ≡ false) × WaitsRight script j a waiting
StandsRight script j a what = Unit {0}

abbrev pub StandRightFrom : ScriptValue → Judged → List NoteValue → Type 0
StandRightFrom script j [] = Unit {0}
StandRightFrom script j (note ∷ notes) =
    StandsRight script j note.actor note.what × StandRightFrom script (judged_after script j note) notes

abbrev pub StandRight : ScriptValue → List NoteValue → Type 0
StandRight script notes = StandRightFrom script (judged_first script) notes
