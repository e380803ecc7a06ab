-- The step that a note is, and where its actor stands behind it.
use Rattle.std.proofs.Common.{◌≡◌, ℕ, ◌+◌, ◌==◌, cond, Bool, true, false, [], Option, Some, None, IsSome, slice_get, refl, ◌∙◌, ap}
use Rattle.gup_plain.specs.Note.{NoteValue}
use Rattle.gup_script.specs.Script.{ScriptValue, ops_of}
use Rattle.gup_script.specs.declared.op.Op.{Op}
use Rattle.gup_spec_accepted.specs.Said.{says, said_of}
use Rattle.gup_spec_journal.specs.Follows.{Who}
use Rattle.gup_spec_journal.specs.Place.{process_of}
use Rattle.gup_check_course.specs.declared.course.Step.{Step}
use Rattle.gup_check_course.specs.declared.course.Step.TheVariants.{On, Ended}
use Rattle.gup_check_course.specs.Arcs.{next_of}
use Rattle.gup_check_course.specs.Standing.{Standing, stands, steps_in, standing_from}
use Rattle.gup_spec_check.specs.Seen.{stood}
use Rattle.gup_check_judge.specs.Present.{step_of}

stood_next : (script : ScriptValue) (a : ℕ) (next : Option Standing) → standing_from script a next [] ≡ next
stood_next script a None = refl
stood_next script a (Some standing) = refl

stands_if : (b : Bool) (answered : ℕ) (step : Option Step) → cond b (stands answered step) None ≡ stands answered (cond b step None)
stands_if true answered step = refl
stands_if false answered step = refl

-- an event or an answer leads where its step does
pub stood_step : (script : ScriptValue) (note : NoteValue) (standing : Standing) (op : Op) → says note.what ≡ true → slice_get (ops_of script note.actor) standing.answered ≡ Some op → stood script note (Some standing) ≡ stands standing.answered (step_of script note standing op)
stood_step script note standing op speaks next =
    let a : ℕ = note.actor in
    let p : ℕ = process_of script a in
    let who : Who = record { actor = a; proc = p; number = note.op } in
    rw speaks
    (stood_next script a (steps_in a p standing (slice_get (ops_of script a) standing.answered) (said_of note))
    ∙ ap (λ (here : Option Op). steps_in a p standing here (said_of note)) next
    ∙ stands_if (note.op == standing.answered + 1) standing.answered (next_of who op standing.course note.what))

-- and with a step an actor stands somewhere
pub step_stands : (answered : ℕ) (step : Step) → IsSome (stands answered (Some step))
step_stands answered (On course) = refl
step_stands answered Ended = refl
