-- Whether a note of an operation that isn't answered fits, by what the note says.
use Rattle.std.proofs.Common.{◌≡◌, ◌<◌, ◌↔◌, Bool, true, false, Some, None, IsTrue, length, slice_get, refl, ◌∙◌, ap, arith}
use Rattle.std.specs.Bool.{then_some}
use Rattle.std.proofs.lemmas.Bool.Decides.{nat_tests}
use Rattle.std.proofs.lemmas.Option.{slice_get_within}
use Rattle.gup_plain.specs.Note.{NoteValue}
use Rattle.gup_plain.specs.Event.{CanHappen}
use Rattle.gup_plain.specs.declared.answer.Answer.{Answer}
use Rattle.gup_plain.specs.declared.event.PlainEvent.{PlainEvent}
use Rattle.gup_plain.specs.declared.note.What.TheVariants.{Silent, Idle, Wait, Event, Done}
use Rattle.gup_plain.specs.declared.note.Waiting.{Waiting}
use Rattle.gup_script.specs.Script.{ScriptValue, ops_of}
use Rattle.gup_script.specs.declared.op.Op.{Op}
use Rattle.gup_spec_accepted.specs.Said.{says}
use Rattle.gup_spec_accepted.specs.Passing.{PassesRight}
use Rattle.gup_spec_accepted.specs.Waits.{StandsRight, WaitsRight}
use Rattle.gup_spec_journal.specs.Denial.{denial}
use Rattle.gup_spec_journal.specs.Place.{process_of, doer_of, birth_for, present_op, has_finished}
use Rattle.gup_spec_journal.specs.Plain.{IsSo, IsRightAt, MayStand, IsBornOrFailed, IsAnswerAfter, judged_before, refusal_in, pages_got, got_at}
use Rattle.gup_check_course.specs.declared.course.Step.{Step}
use Rattle.gup_check_course.specs.Standing.{Standing, stands}
use Rattle.gup_spec_check.specs.Seen.{Seen, Fits, FitsTurn, stood}
use Rattle.gup_check_state.specs.declared.kept.Fit.{Fit}
use Rattle.gup_check_state.specs.declared.kept.Fit.TheVariants.{Stays, Steps}
use Rattle.gup_check_state.specs.Shows.{IsFit}
use Rattle.gup_check_judge.specs.Knows.{IsJudged, AreJudged}
use Rattle.gup_check_judge.specs.Present.{step_of}
use Rattle.gup_check_judge.proofs.Steps.{stood_step, step_stands}

-- The note is of the right turn; this is its actor's present operation, and here the actor stands.
pub record IsWithin (script : ScriptValue) (seen : Seen) (note : NoteValue) (standing : Standing) (op : Op) : Type 0 where
  pub turn : FitsTurn script seen.last note
  pub present : present_op script note.actor (seen.judged.places note.actor) ≡ Some op
  pub stands_so : seen.standings note.actor ≡ Some standing
  pub answered : standing.answered ≡ (seen.judged.places note.actor).answered

-- it passes no page that was named all the time
abbrev pub Passes : ScriptValue → Seen → NoteValue → Op → Type 0
Passes script seen note op =
    PassesRight seen.judged.plain (seen.goings note.actor) (process_of script note.actor) (Some op) note.what

-- ---- why it may not fit

pub no_pass : (script : ScriptValue) (seen : Seen) (note : NoteValue) (standing : Standing) (op : Op) → IsWithin script seen note standing op → (Passes script seen note op → ⊥) → Fits script seen note → ⊥
no_pass script seen note standing op within named fits = named (rw within.present at fits.passing)

-- ---- whoever has an operation hasn't finished

pub not_finished : (script : ScriptValue) (seen : Seen) (note : NoteValue) (standing : Standing) (op : Op) → IsWithin script seen note standing op → has_finished script note.actor (seen.judged.places note.actor) ≡ false
not_finished script seen note standing op within =
    let less : (seen.judged.places note.actor).answered < length (ops_of script note.actor) = slice_get_within (ops_of script note.actor) (seen.judged.places note.actor).answered op within.present in
    grind (arith, nat_tests)

-- ---- it fits where the last test tells what is right of it

judged_by : (script : ScriptValue) (seen : Seen) (note : NoteValue) (fit : Fit) (right : Bool) {Right : Type 0} → IsTrue right ↔ Right → (Fits script seen note → Right) → (Right → IsJudged script seen note fit) → AreJudged script seen note (then_some right fit)
judged_by script seen note fit true told needs is = is (told.0 refl)
judged_by script seen note fit false told needs is = λ fits. false_not_true (told.1 (needs fits))
  where
    false_not_true : false ≡ true → ⊥
    false_not_true is = absurd (cc is)

-- an event or an answer that may come next
abbrev IsStep : ScriptValue → Seen → NoteValue → Standing → Op → Step → Type 0
IsStep script seen note standing op step = (says note.what ≡ true) × (step_of script note standing op ≡ Some step)

stood_so : (script : ScriptValue) (seen : Seen) (note : NoteValue) (standing : Standing) (op : Op) (step : Step) → IsWithin script seen note standing op → IsStep script seen note standing op step → stood script note (Some standing) ≡ stands standing.answered (Some step)
stood_so script seen note standing op step within steps =
    let next : slice_get (ops_of script note.actor) standing.answered ≡ Some op = ap (slice_get (ops_of script note.actor)) within.answered ∙ within.present in
    stood_step script note standing op steps.0 next ∙ ap (stands standing.answered) steps.1

is_fit : (script : ScriptValue) (seen : Seen) (note : NoteValue) (standing : Standing) (op : Op) (step : Step) → IsWithin script seen note standing op → IsStep script seen note standing op step → IsFit script seen note (Steps step)
is_fit script seen note standing op step within steps =
    (steps.0, (standing, within.stands_so, stood_so script seen note standing op step within steps))

-- and that passes no page, is right in the plain state and waits for nothing
step_fits : (script : ScriptValue) (seen : Seen) (note : NoteValue) (standing : Standing) (op : Op) (step : Step) → IsWithin script seen note standing op → IsStep script seen note standing op step → Passes script seen note op → IsSo IsRightAt script seen.judged note → StandsRight script seen.judged note.actor note.what → Fits script seen note
step_fits script seen note standing op step within steps passes right stands_right =
    record {
      turn = within.turn;
      course = rw (within.stands_so, stood_so script seen note standing op step within steps) (step_stands standing.answered step);
      plain = right;
      passing = rw within.present passes;
      standing = stands_right;
    }

-- ---- an event

right_event : (script : ScriptValue) (seen : Seen) (note : NoteValue) (standing : Standing) (op : Op) (e : PlainEvent) → IsWithin script seen note standing op → note.what ≡ Event e → IsSo IsRightAt script seen.judged note ↔ (CanHappen seen.judged.plain e × MayStand (seen.judged.places note.actor).had (denial seen.judged.plain seen.judged.references (doer_of script note.actor (Some op)) (pages_got seen.judged.plain note.actor) op) op e)
right_event script seen note standing op e within says_so = rw (within.present, says_so) (λ is. is, λ is. is)

pub event_judged : (script : ScriptValue) (seen : Seen) (note : NoteValue) (standing : Standing) (op : Op) (e : PlainEvent) (step : Step) (right : Bool) → IsWithin script seen note standing op → note.what ≡ Event e → step_of script note standing op ≡ Some step → Passes script seen note op → IsTrue right ↔ MayStand (seen.judged.places note.actor).had (denial seen.judged.plain seen.judged.references (doer_of script note.actor (Some op)) (pages_got seen.judged.plain note.actor) op) op e → AreJudged script seen note (then_some right (Steps step))
event_judged script seen note standing op e step right within says_so is_step passes told =
    let plain = right_event script seen note standing op e within says_so in
    let steps : IsStep script seen note standing op step = (ap says says_so, is_step) in
    let stands_right : StandsRight script seen.judged note.actor note.what = rw says_so tt in
    judged_by script seen note (Steps step) right told (λ fits. (plain.0 fits.plain).1)
    (λ may. (
      is_fit script seen note standing op step within steps,
      λ can. step_fits script seen note standing op step within steps passes (plain.1 (rw says_so at can, may)) stands_right,
    ))

-- ---- an answer

right_answer : (script : ScriptValue) (seen : Seen) (note : NoteValue) (standing : Standing) (op : Op) (answer : Answer) → IsWithin script seen note standing op → note.what ≡ Done answer → IsSo IsRightAt script seen.judged note ↔ (IsBornOrFailed (birth_for seen.judged.plain.birth (doer_of script note.actor (Some op))) × IsAnswerAfter (judged_before op (seen.judged.places note.actor).had answer) (denial seen.judged.plain seen.judged.references (doer_of script note.actor (Some op)) (got_at seen.judged.plain note.actor answer) op) (refusal_in answer))
right_answer script seen note standing op answer within says_so = rw (within.present, says_so) (λ is. is, λ is. is)

pub no_birth : (script : ScriptValue) (seen : Seen) (note : NoteValue) (standing : Standing) (op : Op) (answer : Answer) → IsWithin script seen note standing op → note.what ≡ Done answer → (IsBornOrFailed (birth_for seen.judged.plain.birth (doer_of script note.actor (Some op))) → ⊥) → Fits script seen note → ⊥
no_birth script seen note standing op answer within says_so unborn fits = unborn ((right_answer script seen note standing op answer within says_so).0 fits.plain).0

pub answer_judged : (script : ScriptValue) (seen : Seen) (note : NoteValue) (standing : Standing) (op : Op) (answer : Answer) (step : Step) (right : Bool) → IsWithin script seen note standing op → note.what ≡ Done answer → step_of script note standing op ≡ Some step → Passes script seen note op → IsBornOrFailed (birth_for seen.judged.plain.birth (doer_of script note.actor (Some op))) → IsTrue right ↔ IsAnswerAfter (judged_before op (seen.judged.places note.actor).had answer) (denial seen.judged.plain seen.judged.references (doer_of script note.actor (Some op)) (got_at seen.judged.plain note.actor answer) op) (refusal_in answer) → AreJudged script seen note (then_some right (Steps step))
answer_judged script seen note standing op answer step right within says_so is_step passes come told =
    let plain = right_answer script seen note standing op answer within says_so in
    let steps : IsStep script seen note standing op step = (ap says says_so, is_step) in
    let stands_right : StandsRight script seen.judged note.actor note.what = rw says_so tt in
    judged_by script seen note (Steps step) right told (λ fits. (plain.0 fits.plain).1)
    (λ so. (
      is_fit script seen note standing op step within steps,
      λ can. step_fits script seen note standing op step within steps passes (plain.1 (come, so)) stands_right,
    ))

-- ---- a note that says neither

still_fits : (script : ScriptValue) (seen : Seen) (note : NoteValue) (standing : Standing) (op : Op) → IsWithin script seen note standing op → says note.what ≡ false → PassesRight seen.judged.plain (seen.goings note.actor) (process_of script note.actor) (present_op script note.actor (seen.judged.places note.actor)) note.what → IsSo IsRightAt script seen.judged note → StandsRight script seen.judged note.actor note.what → Fits script seen note
still_fits script seen note standing op within still passes right stands_right =
    record {
      turn = within.turn;
      course = rw (still, within.stands_so) refl;
      plain = right;
      passing = passes;
      standing = stands_right;
    }

idle_finished : (script : ScriptValue) (seen : Seen) (note : NoteValue) → note.what ≡ Idle → Fits script seen note → has_finished script note.actor (seen.judged.places note.actor) ≡ true
idle_finished script seen note says_so fits = rw says_so at fits.standing

wait_stands : (script : ScriptValue) (seen : Seen) (note : NoteValue) (waiting : Waiting) → note.what ≡ Wait waiting → StandsRight script seen.judged note.actor note.what ↔ ((has_finished script note.actor (seen.judged.places note.actor) ≡ false) × WaitsRight script seen.judged note.actor waiting)
wait_stands script seen note waiting says_so = rw says_so (λ is. is, λ is. is)

pub silent_judged : (script : ScriptValue) (seen : Seen) (note : NoteValue) (standing : Standing) (op : Op) → IsWithin script seen note standing op → note.what ≡ Silent → AreJudged script seen note (Some Stays)
silent_judged script seen note standing op within says_so = (
  ap says says_so,
  λ can. still_fits script seen note standing op within (ap says says_so) (rw (within.present, says_so) tt) (rw (within.present, says_so) tt) (rw says_so tt),
)

pub idle_judged : (script : ScriptValue) (seen : Seen) (note : NoteValue) (standing : Standing) (op : Op) → IsWithin script seen note standing op → note.what ≡ Idle → AreJudged script seen note None
idle_judged script seen note standing op within says_so = λ fits.
    absurd (cc (not_finished script seen note standing op within, idle_finished script seen note says_so fits))

pub wait_judged : (script : ScriptValue) (seen : Seen) (note : NoteValue) (standing : Standing) (op : Op) (waiting : Waiting) (right : Bool) → IsWithin script seen note standing op → note.what ≡ Wait waiting → IsTrue right ↔ WaitsRight script seen.judged note.actor waiting → AreJudged script seen note (then_some right Stays)
wait_judged script seen note standing op waiting right within says_so told =
    judged_by script seen note Stays right told (λ fits. ((wait_stands script seen note waiting says_so).0 fits.standing).1)
    (λ so. (
      ap says says_so,
      λ can. still_fits script seen note standing op within (ap says says_so) (rw (within.present, says_so) tt) (rw (within.present, says_so) tt)
          ((wait_stands script seen note waiting says_so).1 (not_finished script seen note standing op within, so)),
    ))
