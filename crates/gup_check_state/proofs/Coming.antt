-- What a note that fits is: a step of the operation that its actor is at.
use Rattle.std.proofs.Common.{◌≡◌, ℕ, ◌+◌, ◌==◌, cond, Bool, true, false, [], Option, None, Some, slice_get, refl, subst}
use Rattle.gup_plain.specs.Note.{NoteValue}
use Rattle.gup_script.specs.declared.op.Op.{Op}
use Rattle.gup_script.specs.Script.{ScriptValue, ops_of}
use Rattle.gup_spec_accepted.specs.Said.{says, said_of}
use Rattle.gup_spec_journal.specs.Follows.{Who}
use Rattle.gup_spec_journal.specs.Place.{process_of}
use Rattle.gup_check_course.specs.declared.course.Step.{Step}
use Rattle.gup_check_course.specs.Arcs.{next_of}
use Rattle.gup_check_course.specs.Standing.{Standing, stands, steps_in, standing_from}
use Rattle.gup_spec_check.specs.Seen.{stood, stood_by}

abbrev pub who_of : ScriptValue → NoteValue → Who
who_of script note = record { actor = note.actor; proc = process_of script note.actor; number = note.op }

-- from where the actor stood to where it stands behind the note
pub record Comes (script : ScriptValue) (note : NoteValue) (standing behind : Standing) : Type 0 where
  pub op : Op
  pub there : slice_get (ops_of script note.actor) standing.answered ≡ Some op
  pub step : Step
  pub may : next_of (who_of script note) op standing.course note.what ≡ Some step
  pub leads : stands standing.answered (Some step) ≡ Some behind

ends_so : (script : ScriptValue) (a : ℕ) (next : Option Standing) (behind : Standing) → standing_from script a next [] ≡ Some behind → next ≡ Some behind
ends_so script a None behind is = absurd (cc is)
ends_so script a (Some next) behind is = is

comes_of : (script : ScriptValue) (note : NoteValue) (standing behind : Standing) (op : Option Op) → slice_get (ops_of script note.actor) standing.answered ≡ op → steps_in note.actor (process_of script note.actor) standing op (said_of note) ≡ Some behind → Comes script note standing behind
comes_of script note standing behind None there is = absurd (cc is)
comes_of script note standing behind (Some op) there is = numbered (note.op == standing.answered + 1) is
  where
    stepped : (step : Option Step) → next_of (who_of script note) op standing.course note.what ≡ step → stands standing.answered step ≡ Some behind → Comes script note standing behind
    stepped None may leads = absurd (cc leads)
    stepped (Some step) may leads = record { op = op; there = there; step = step; may = may; leads = leads }

    numbered : (b : Bool) → cond b (stands standing.answered (next_of (who_of script note) op standing.course note.what)) None ≡ Some behind → Comes script note standing behind
    numbered false leads = absurd (cc leads)
    numbered true leads = stepped (next_of (who_of script note) op standing.course note.what) refl leads

pub comes : (script : ScriptValue) (note : NoteValue) (standing behind : Standing) → says note.what ≡ true → stood script note (Some standing) ≡ Some behind → Comes script note standing behind
comes script note standing behind saying is =
    comes_of script note standing behind (slice_get (ops_of script note.actor) standing.answered) refl
    (ends_so script note.actor _ behind (subst (λ (b : Bool). stood_by script b note (Some standing) ≡ Some behind) saying is))
