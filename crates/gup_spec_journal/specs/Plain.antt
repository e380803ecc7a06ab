-- A journal is plain where its events, from the script's start on, each can happen in the plain state, and where
-- the plain state's denials stand exactly where it gives them.
use Rattle.std.specs.Prelude.{◌≡◌, ℕ, ◌⊎◌, Bool, true, false, List, [], ◌∷◌, length, Option, Some, None}
use Rattle.gup_plain.specs.Note.{NoteValue}
use Rattle.gup_plain.specs.Put.{put}
use Rattle.gup_plain.specs.State.{PlainState, Birth, unborn, growing, born, failed, plain_start}
use Rattle.gup_plain.specs.Event.{CanHappen, happened}
use Rattle.gup_plain.specs.declared.answer.Answer.{Answer}
use Rattle.gup_plain.specs.declared.answer.Answer.TheVariants as answers
use Rattle.gup_plain.specs.declared.answer.Cause.{Cause}
use Rattle.gup_plain.specs.declared.answer.Cause.TheVariants as causes
use Rattle.gup_plain.specs.declared.event.PlainEvent.{PlainEvent}
use Rattle.gup_plain.specs.declared.event.PlainEvent.TheVariants as events
use Rattle.gup_plain.specs.declared.note.What.{What}
use Rattle.gup_plain.specs.declared.note.What.TheVariants.{Idle, Wait, Event, Done}
use Rattle.gup_script.specs.declared.op.Op.{Op}
use Rattle.gup_script.specs.declared.op.Op.TheVariants.{Pin, Get, Put, Fork}
use Rattle.gup_script.specs.Script.{ScriptValue}
use Rattle.gup_spec_journal.specs.Place.{Place, first_place, place_after, Doer, doer_of, birth_for, present_op, starts_born}
use Rattle.gup_plain.specs.Denial.{is_denial}
use Rattle.gup_spec_journal.specs.Denial.{References, no_references, denial}

-- No operation ends while its process is yet to be born.
abbrev pub IsBornOrFailed : Birth → Type 0
IsBornOrFailed born = Unit {0}
IsBornOrFailed failed = Unit {0}
IsBornOrFailed unborn = ⊥
IsBornOrFailed (growing parent) = ⊥

-- An answer without an event is the denial, if the plain state gives one, and else no denial.
abbrev pub IsAnswerOf : Option Answer → Answer → Type 0
IsAnswerOf None answer = is_denial answer ≡ false
IsAnswerOf (Some denied) answer = answer ≡ denied

-- the same where the operation had an event: it was judged in the state before that
abbrev pub IsAnswerAfter : (had : Bool) → Option Answer → Answer → Type 0
IsAnswerAfter true denied answer = is_denial answer ≡ false
IsAnswerAfter false denied answer = IsAnswerOf denied answer

-- an operation that is denied has no event
abbrev pub IsUndeniedAt : (had : Bool) → Option Answer → Type 0
IsUndeniedAt true denied = Unit {0}
IsUndeniedAt false denied = denied ≡ None

-- the refusal by which a page ended a short pin, and of any other answer itself
abbrev pub refusal_by_cause : Cause → Answer
refusal_by_cause causes.Missing = answers.Missing
refusal_by_cause causes.Forbidden = answers.Forbidden
refusal_by_cause causes.NoFrame = answers.NoFrame
refusal_by_cause (causes.Unmovable count) = answers.Unmovable count

abbrev pub refusal_in : Answer → Answer
refusal_in (answers.Short got wanted cause) = refusal_by_cause cause
refusal_in answer = answer

-- how many pages the actor's pin has got so far: those that are pending
abbrev pub pages_got : PlainState → (a : ℕ) → ℕ
pages_got s a = length (s.pending a)

-- The same at an answer: a short pin's pages are its handle's by then, and the answer says how many they are.
abbrev pub got_at : PlainState → (a : ℕ) → Answer → ℕ
got_at s a (answers.Short got wanted cause) = got
got_at s a answer = pages_got s a

-- Was the operation judged before its answer? A fork is judged at its answer, whatever it had before: nothing denies it
-- but that its process failed, and that stays. So is a pin at the page that is refused; one that has all its pages was
-- judged at each of them.
abbrev pub judged_before : Op → (had : Bool) → Answer → Bool
judged_before (Fork child) had answer = false
judged_before (Pin handle page n want fast) had (answers.Pinned pages) = true
judged_before (Pin handle page n want fast) had answer = false
judged_before op had answer = had

-- the fork of a failed process makes its child failed
abbrev pub FailsChild : Op → PlainEvent → Type 0
FailsChild (Fork child) (events.ForkFail c) = c ≡ child
FailsChild op e = ⊥

-- the event may stand where this denies its operation, or nothing does
abbrev pub MayStand : (had : Bool) → Option Answer → Op → PlainEvent → Type 0
MayStand had denied op e = IsUndeniedAt had denied ⊎ ((denied ≡ Some answers.Unborn) × FailsChild op e)

-- the note of whoever does the operation, at this place of it, is right in the plain state
abbrev pub IsRightOf : PlainState → References → Doer → Place → Op → What → Type 0
IsRightOf s references who place op (Event e) =
    CanHappen s e × MayStand place.had (denial s references who (pages_got s who.actor) op) op e
IsRightOf s references who place op (Done answer) =
    IsBornOrFailed (birth_for s.birth who)
    × IsAnswerAfter (judged_before op place.had answer) (denial s references who (got_at s who.actor answer) op) (refusal_in answer)
IsRightOf s references who place op what = Unit {0}

-- after its last operation an actor has neither events nor answers
abbrev pub IsRightBehind : What → Type 0
IsRightBehind Idle = Unit {0}
IsRightBehind (Wait waiting) = Unit {0}
IsRightBehind what = ⊥

abbrev pub IsRightAt : PlainState → References → Doer → Place → Option Op → What → Type 0
IsRightAt s references who place (Some op) what = IsRightOf s references who place op what
IsRightAt s references who place None what = IsRightBehind what

-- what the notes so far have led to
pub record Judged : Type 0 where
  pub plain : PlainState
  pub references : References
  pub places : ℕ → Place

abbrev pub plain_after : PlainState → What → PlainState
plain_after s (Event e) = happened s e
plain_after s what = s

-- a reference is got, or put back, where its operation is answered so
abbrev pub references_after : References → (a : ℕ) → Option Op → What → References
references_after references a (Some (Get handle page)) (Done answers.Plain) = put handle (Some a) references
references_after references a (Some (Put handle)) (Done answers.Plain) = put handle None references
references_after references a op what = references

-- what a note of this actor leads to
abbrev pub judged_by : ScriptValue → Judged → (a : ℕ) → What → Judged
judged_by script j a what =
    record {
      plain = plain_after j.plain what;
      references = references_after j.references a (present_op script a (j.places a)) what;
      places = put a (place_after (j.places a) what) j.places;
    }

abbrev pub judged_after : ScriptValue → Judged → NoteValue → Judged
judged_after script j note = judged_by script j note.actor note.what

-- what is said of a note, by the plain state, who has got references, who does the operation, and the place in it
abbrev pub Judgement : Type 1
Judgement = PlainState → References → Doer → Place → Option Op → What → Type 0

abbrev pub IsSo : Judgement → ScriptValue → Judged → NoteValue → Type 0
IsSo judgement script j note =
    let place = j.places note.actor in
    let op = present_op script note.actor place in
    judgement j.plain j.references (doer_of script note.actor op) place op note.what

-- it is so of each note, in what the notes before it have led to
abbrev pub AreSo : Judgement → ScriptValue → Judged → List NoteValue → Type 0
AreSo judgement script j [] = Unit {0}
AreSo judgement script j (note ∷ notes) =
    IsSo judgement script j note × AreSo judgement script (judged_after script j note) notes

abbrev pub judged_first : ScriptValue → Judged
judged_first script =
    record { plain = plain_start (starts_born script); references = no_references; places = λ _. first_place }

abbrev pub IsPlain : ScriptValue → List NoteValue → Type 0
IsPlain script notes = AreSo IsRightAt script (judged_first script) notes
