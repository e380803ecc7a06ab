-- What is known of a note that fits, of its operation.
use Rattle.std.proofs.Common.{◌≡◌, ℕ, ◌+◌, true, false, Option, Some, slice_get, sym, ◌∙◌, ap, subst}
use Rattle.gup_plain.specs.Note.{NoteValue}
use Rattle.gup_plain.specs.declared.note.What.{What}
use Rattle.gup_plain.specs.declared.note.What.TheVariants.{Event, Done}
use Rattle.gup_script.specs.declared.op.Op.{Op}
use Rattle.gup_script.specs.Script.{ScriptValue, ops_of}
use Rattle.gup_script.specs.Valid.{IsOp}
use Rattle.gup_spec_accepted.specs.Said.{says}
use Rattle.gup_spec_journal.specs.Place.{present_op}
use Rattle.gup_check_course.specs.declared.course.Course.TheVariants.{Start}
use Rattle.gup_check_course.specs.declared.course.Step.{Step}
use Rattle.gup_check_course.specs.declared.course.Step.TheVariants.{On, Ended}
use Rattle.gup_check_course.specs.Standing.{Standing, stands}
use Rattle.gup_spec_check.specs.Seen.{Seen, stood}
use Rattle.gup_check_state.specs.declared.kept.Fit.{Fit}
use Rattle.gup_check_state.specs.declared.kept.Fit.TheVariants.{Stays, Steps}
use Rattle.gup_check_state.specs.Presence.{AnswersOne}
use Rattle.gup_check_state.specs.Ranges.{MapsInRange}
use Rattle.gup_check_state.specs.Shows.{IsFit, PlacesAgree}
use Rattle.gup_check_state.proofs.Coming.{Comes, comes, who_of}
use Rattle.gup_check_state.proofs.Mapping.{next_range}

-- an event or an answer is a step of the operation that its actor is at
fit_comes : (script : ScriptValue) (note : NoteValue) (standing : Standing) (step : Step) → says note.what ≡ true → stood script note (Some standing) ≡ stands standing.answered (Some step) → (behind : Standing) × Comes script note standing behind
fit_comes script note standing (On course) saying is =
    (record { answered = standing.answered; course = course }, comes script note standing _ saying is)
fit_comes script note standing Ended saying is =
    (record { answered = standing.answered + 1; course = Start }, comes script note standing _ saying is)

-- no other note maps or answers anything

unsaid_range : (what : What) → says what ≡ false → MapsInRange what
unsaid_range (Event event) unsaid = absurd (cc unsaid)
unsaid_range what unsaid = tt

unsaid_answers : (what : What) (op : Option Op) → says what ≡ false → AnswersOne what op
unsaid_answers (Done answer) op unsaid = absurd (cc unsaid)
unsaid_answers what op unsaid = tt

answers_some : (what : What) (op : Op) → AnswersOne what (Some op)
answers_some (Done answer) op = tt
answers_some what op = tt

-- the pages that the note maps have numbers, since its operation's have
pub fit_range : (script : ScriptValue) (seen : Seen) (note : NoteValue) (fit : Fit) → ((k : ℕ) (op : Op) → slice_get (ops_of script note.actor) k ≡ Some op → IsOp op) → IsFit script seen note fit → MapsInRange note.what
fit_range script seen note Stays ops fits = unsaid_range note.what fits
fit_range script seen note (Steps step) ops fits =
    let standing : Standing = fits.1.0 in
    let come = fit_comes script note standing step fits.0 fits.1.2 in
    next_range (who_of script note) come.1.op standing.course note.what come.1.step (ops standing.answered come.1.op come.1.there) come.1.may

-- the operation that the note answers is there
pub fit_answers : (script : ScriptValue) (seen : Seen) (note : NoteValue) (fit : Fit) → PlacesAgree seen → IsFit script seen note fit → AnswersOne note.what (present_op script note.actor (seen.judged.places note.actor))
fit_answers script seen note Stays agree fits = unsaid_answers note.what _ fits
fit_answers script seen note (Steps step) agree fits =
    let standing : Standing = fits.1.0 in
    let come = fit_comes script note standing step fits.0 fits.1.2 in
    let at : standing.answered ≡ (seen.judged.places note.actor).answered = agree note.actor standing fits.1.1 in
    subst (AnswersOne note.what) (sym come.1.there ∙ ap (slice_get (ops_of script note.actor)) at) (answers_some note.what come.1.op)
