-- The present operation of a note's actor, and the step of it that the note is.
use Rattle.std.specs.Prelude.{◌≡◌, ℕ, ◌+◌, ◌<◌, ◌==◌, if◌then◌else◌, Option, Some, None, length, slice_get}
use Rattle.gup_plain.specs.Note.{NoteValue}
use Rattle.gup_script.specs.Script.{ScriptValue, ops_of}
use Rattle.gup_script.specs.Valid.{IsScript}
use Rattle.gup_script.specs.declared.op.Op.{Op}
use Rattle.gup_spec_journal.specs.Place.{process_of}
use Rattle.gup_check_course.specs.declared.course.Step.{Step}
use Rattle.gup_check_course.specs.Arcs.{next_of}
use Rattle.gup_check_course.specs.Standing.{Standing}
use Rattle.gup_check_state.specs.declared.kept.Kept.{Kept}
use Rattle.gup_check_state.specs.declared.kept.Progress.{Progress}

-- the actor has come so far, and this is the operation that it hasn't answered
pub record IsPresent (script : ScriptValue) (kept : Kept) (a : ℕ) (progress : Progress) (op : Op) : Type 0 where
  pub valid : IsScript script
  pub declared : a < length script.actors
  pub kept_so : slice_get kept.actors.items a ≡ Some progress
  pub next : slice_get (ops_of script a) progress.answered ≡ Some op

abbrev pub standing_of : Progress → Standing
standing_of progress = record { answered = progress.answered; course = progress.course }

-- the step of the operation that the note is, if it says the operation's number and may come next
abbrev pub step_of : ScriptValue → NoteValue → Standing → Op → Option Step
step_of script note standing op =
    if note.op == standing.answered + 1
    then next_of (record { actor = note.actor; proc = process_of script note.actor; number = note.op }) op standing.course note.what
    else None
