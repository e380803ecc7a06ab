-- How far actors have come behind a note.
use Rattle.std.proofs.Common.{◌≡◌, ◌≢◌, ℕ, ◌+◌, ◌<◌, ◌==◌, nat_lt, Bool, true, false, List, Some, slice_get, refl, sym, ◌∙◌, ap, subst, arith}
use Rattle.std.proofs.lemmas.Bool.Decides.{nat_tests}
use Rattle.gup_plain.specs.Note.{NoteValue}
use Rattle.gup_plain.specs.declared.answer.Answer.{Answer}
use Rattle.gup_plain.specs.declared.event.PlainEvent.{PlainEvent}
use Rattle.gup_plain.specs.declared.note.What.{What}
use Rattle.gup_plain.specs.declared.note.What.TheVariants.{Event, Done}
use Rattle.gup_script.specs.declared.op.Op.{Op}
use Rattle.gup_script.specs.Script.{ScriptValue, ops_of}
use Rattle.gup_spec_accepted.specs.Said.{says}
use Rattle.gup_spec_accepted.specs.Passing.{own_after, page_at, next_behind, first_page}
use Rattle.gup_spec_journal.specs.Follows.{Who, note_of}
use Rattle.gup_spec_journal.specs.Place.{place_after, present_op, process_of}
use Rattle.gup_spec_journal.specs.Plain.{plain_after}
use Rattle.gup_exec_plain.specs.Parts.{HasActor}
use Rattle.gup_check_course.specs.declared.course.Course.{Course}
use Rattle.gup_check_course.specs.declared.course.Course.TheVariants.{Start}
use Rattle.gup_check_course.specs.declared.course.Step.{Step}
use Rattle.gup_check_course.specs.declared.course.Step.TheVariants.{On, Ended}
use Rattle.gup_check_course.specs.Arcs.{next_of}
use Rattle.gup_check_course.specs.Standing.{Standing, stands}
use Rattle.gup_spec_check.specs.Seen.{Seen, seen_after, stood}
use Rattle.gup_spec_check.specs.Times.{Times, times_after, since_by}
use Rattle.gup_check_state.specs.declared.kept.Fit.{Fit}
use Rattle.gup_check_state.specs.declared.kept.Fit.TheVariants.{Stays, Steps}
use Rattle.gup_check_state.specs.declared.kept.Progress.{Progress}
use Rattle.gup_check_state.specs.Shows.{IsProgress, IsFit, PlacesAgree}
use Rattle.gup_check_state.proofs.Coming.{Comes, comes, who_of}

-- after so many operations, with the next one so far
abbrev standing_at : (answered : ℕ) → Course → Standing
standing_at answered course = record { answered = answered; course = course }

-- a number is itself, and no other

same : (a : ℕ) → (a == a) ≡ true
same a = grind (arith, nat_tests)

other : (a b : ℕ) → a ≢ b → (a == b) ≡ false
other a b apart = grind (arith, nat_tests)

-- The note's own actor, by what it is behind the note.
own_behind : (script : ScriptValue) (seen : Seen) (times : Times) (note : NoteValue) (progress : Progress) →
    stood script note (seen.standings note.actor) ≡ Some (standing_at progress.answered progress.course) →
    progress.has_begun ≡ nat_lt 0 (place_after (seen.judged.places note.actor) note.what).far →
    progress.said ≡ since_by (says note.what) note.actor (times.count + 1) times.since note.actor →
    progress.next ≡ (own_after (plain_after seen.judged.plain note.what) (process_of script note.actor) (seen.goings note.actor) (present_op script note.actor (place_after (seen.judged.places note.actor) note.what)) note.what).next →
    IsProgress (seen_after script seen note) (times_after times note) note.actor progress
own_behind script seen times note progress standing begun said next =
    let here : (note.actor == note.actor) ≡ true = same note.actor in
    record { standing = rw here standing; begun = rw here begun; said = said; next = rw here next }

-- another actor has come no further
since_other : (says : Bool) (actor count : ℕ) (since : ℕ → ℕ) (a : ℕ) → (a == actor) ≡ false → since_by says actor count since a ≡ since a
since_other true actor count since a apart = rw apart refl
since_other false actor count since a apart = refl

pub other_behind : (script : ScriptValue) (seen : Seen) (times : Times) (note : NoteValue) (a : ℕ) (progress : Progress) → a ≢ note.actor → IsProgress seen times a progress → IsProgress (seen_after script seen note) (times_after times note) a progress
other_behind script seen times note a progress elsewhere was =
    let apart : (a == note.actor) ≡ false = other a note.actor elsewhere in
    record {
      standing = rw apart was.standing;
      begun = rw apart was.begun;
      said = was.said ∙ sym (since_other (says note.what) note.actor (times.count + 1) times.since a apart);
      next = rw apart was.next;
    }

-- The step that the note is, and where its actor stands behind it.
fit_steps : (script : ScriptValue) (seen : Seen) (times : Times) (note : NoteValue) (fit : Fit) (progress : Progress) → says note.what ≡ true → IsProgress seen times note.actor progress → IsFit script seen note fit →
    (step : Step) × (fit ≡ Steps step) × (seen.standings note.actor ≡ Some (standing_at progress.answered progress.course)) × (stood script note (seen.standings note.actor) ≡ stands progress.answered (Some step))
fit_steps script seen times note Stays progress saying was fits = absurd (cc (saying, fits))
fit_steps script seen times note (Steps step) progress saying was fits =
    let standing : Standing = fits.1.0 in
    let at : seen.standings note.actor ≡ Some standing = fits.1.1 in
    let as_many : progress.answered ≡ standing.answered = cc (at, was.standing) in
    (step, refl, was.standing, ap (stood script note) at ∙ fits.1.2 ∙ ap (λ (n : ℕ). stands n (Some step)) (sym as_many))

-- What the law of events and the law of answers say.
abbrev pub EventsGoOn : Type 0
EventsGoOn = (who : Who) (op : Op) (course : Course) (event : PlainEvent) (step : Step) → next_of who op course (Event event) ≡ Some step → ((next : Course) × (step ≡ On next) × (next ≡ Start → ⊥)) × ((n : ℕ) → who.actor < n → HasActor n event)

abbrev pub AnswersEnd : Type 0
AnswersEnd = (who : Who) (op : Op) (course : Course) (answer : Answer) (step : Step) → next_of who op course (Done answer) ≡ Some step → step ≡ Ended

-- The note's own actor has come so far behind it, if it fits.
abbrev pub IsBehind : ScriptValue → Seen → Times → (turn a number : ℕ) → Fit → Progress → What → Type 0
IsBehind script seen times turn a number fit behind what =
    IsFit script seen (note_of turn a number what) fit →
    IsProgress (seen_after script seen (note_of turn a number what)) (times_after times (note_of turn a number what)) a behind

-- an event answers nothing, and an answer one

same_number : (n m : ℕ) (one other : Course) → standing_at n one ≡ standing_at m other → n ≡ m
same_number n m one other is = ap (λ (s : Standing). s.answered) is

event_number : (n m : ℕ) (next course : Course) (step : Step) → step ≡ On next → stands n (Some step) ≡ Some (standing_at m course) → n ≡ m
event_number n m next course step made leads =
    let one : Some (standing_at n next) ≡ Some (standing_at m course) = ap (λ (s : Step). stands n (Some s)) (sym made) ∙ leads in
    same_number n m next course (cc one)

answer_number : (n m : ℕ) (course : Course) (step : Step) → step ≡ Ended → stands n (Some step) ≡ Some (standing_at m course) → n + 1 ≡ m
answer_number n m course step made leads =
    let one : Some (standing_at (n + 1) Start) ≡ Some (standing_at m course) = ap (λ (s : Step). stands n (Some s)) (sym made) ∙ leads in
    same_number (n + 1) m Start course (cc one)

pub event_behind : EventsGoOn → (script : ScriptValue) (seen : Seen) (times : Times) (turn a number : ℕ) (event : PlainEvent) (fit : Fit) (course : Course) (count : ℕ) (progress behind : Progress) →
    IsProgress seen times a progress → ((on : Course) → fit ≡ Steps (On on) → course ≡ on) → count ≡ times.count + 1 →
    behind ≡ record progress { course = course; has_begun = true; said = count; next = next_behind (page_at event) progress.next } →
    IsBehind script seen times turn a number fit behind (Event event)
event_behind on script seen times turn a number event fit course count progress behind was led counted is fits =
    let steps = fit_steps script seen times note fit progress refl was fits in
    subst (λ (q : Progress). IsProgress (seen_after script seen note) (times_after times note) a q) (sym is)
    (own_behind script seen times note (record progress { course = course; has_begun = true; said = count; next = next_behind (page_at event) progress.next })
    (standing_is steps.0 steps.1 steps.2 steps.3) (grind (arith, nat_tests)) (let here : (a == a) ≡ true = same a in rw here counted) (ap (next_behind (page_at event)) was.next))
  where
    note : NoteValue
    note = note_of turn a number (Event event)

    standing_is : (step : Step) → fit ≡ Steps step → seen.standings a ≡ Some (standing_at progress.answered progress.course) → stood script note (seen.standings a) ≡ stands progress.answered (Some step) → stood script note (seen.standings a) ≡ Some (standing_at progress.answered course)
    standing_is (On next) made at to = to ∙ ap (λ (c : Course). Some (standing_at progress.answered c)) (sym (led next made))
    standing_is Ended made at to =
        let come : Comes script note (standing_at progress.answered progress.course) (standing_at (progress.answered + 1) Start)
        = comes script note _ _ refl (ap (stood script note) (sym at) ∙ to) in
        let goes = on (who_of script note) come.op progress.course event come.step come.may in
        let as_many : progress.answered ≡ progress.answered + 1 = event_number progress.answered (progress.answered + 1) goes.0.0 Start come.step goes.0.1 come.leads in
        absurd (omega arith)

pub answer_behind : AnswersEnd → (script : ScriptValue) (seen : Seen) (times : Times) (turn a number : ℕ) (answer : Answer) (fit : Fit) (count : ℕ) (ops : List Op) (progress behind : Progress) →
    IsProgress seen times a progress → PlacesAgree seen → count ≡ times.count + 1 → ops ≡ ops_of script a →
    behind ≡ record { answered = progress.answered + 1; course = Start; has_begun = false; said = count; next = first_page (slice_get ops (progress.answered + 1)) } →
    IsBehind script seen times turn a number fit behind (Done answer)
answer_behind ends script seen times turn a number answer fit count ops progress behind was agree counted own is fits =
    let steps = fit_steps script seen times note fit progress refl was fits in
    subst (λ (q : Progress). IsProgress (seen_after script seen note) (times_after times note) a q) (sym is)
    (own_behind script seen times note (record { answered = progress.answered + 1; course = Start; has_begun = false; said = count; next = first_page (slice_get ops (progress.answered + 1)) })
    (standing_is steps.0 steps.2 steps.3) refl (let here : (a == a) ≡ true = same a in rw here counted)
    (ap (λ (these : List Op). first_page (slice_get these (progress.answered + 1))) own
    ∙ ap (λ (n : ℕ). first_page (slice_get (ops_of script a) (n + 1))) (agree a (standing_at progress.answered progress.course) was.standing)))
  where
    note : NoteValue
    note = note_of turn a number (Done answer)

    standing_is : (step : Step) → seen.standings a ≡ Some (standing_at progress.answered progress.course) → stood script note (seen.standings a) ≡ stands progress.answered (Some step) → stood script note (seen.standings a) ≡ Some (standing_at (progress.answered + 1) Start)
    standing_is Ended at to = to
    standing_is (On next) at to =
        let come : Comes script note (standing_at progress.answered progress.course) (standing_at progress.answered next)
        = comes script note _ _ refl (ap (stood script note) (sym at) ∙ to) in
        let as_many : progress.answered + 1 ≡ progress.answered = answer_number progress.answered progress.answered next come.step (ends (who_of script note) come.op progress.course answer come.step come.may) come.leads in
        absurd (omega arith)
