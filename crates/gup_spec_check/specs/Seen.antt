-- What the notes so far have led to, and when one more fits them.
use Rattle.std.specs.Prelude.{◌≡◌, ℕ, ◌⊎◌, Bool, true, false, List, [], ◌∷◌, Option, Some, None, IsSome}
use Rattle.gup_plain.specs.Note.{NoteValue}
use Rattle.gup_plain.specs.Put.{put}
use Rattle.gup_script.specs.Script.{ScriptValue}
use Rattle.gup_spec_journal.specs.Place.{process_of, present_op}
use Rattle.gup_spec_journal.specs.Plain.{Judged, judged_first, judged_after, IsSo, IsRightAt}
use Rattle.gup_spec_accepted.specs.Said.{says, said_of}
use Rattle.gup_spec_accepted.specs.Turns.{BeginsTurn}
use Rattle.gup_spec_accepted.specs.Passing.{Going, goings_first, goings_after, PassesRight}
use Rattle.gup_spec_accepted.specs.Waits.{StandsRight}
use Rattle.gup_check_course.specs.Standing.{Standing, first_standing, standing_from}

pub record Seen : Type 0 where
  -- the plain state, who has got references, and each actor's place
  pub judged : Judged
  -- which pages each actor may pass
  pub goings : ℕ → Going
  -- where each actor stands by its events and answers: None once one of them couldn't come
  pub standings : ℕ → Option Standing
  -- the last note
  pub last : Option NoteValue

abbrev pub seen_first : ScriptValue → Seen
seen_first script =
    record {
      judged = judged_first script;
      goings = goings_first script;
      standings = λ _. Some first_standing;
      last = None;
    }

-- only events and answers change where an actor stands
abbrev pub stood_by : ScriptValue → (says : Bool) → NoteValue → Option Standing → Option Standing
stood_by script true note standing = standing_from script note.actor standing (said_of note ∷ [])
stood_by script false note standing = standing

abbrev pub stood : ScriptValue → NoteValue → Option Standing → Option Standing
stood script note standing = stood_by script (says note.what) note standing

abbrev pub seen_after : ScriptValue → Seen → NoteValue → Seen
seen_after script seen note =
    let judged = judged_after script seen.judged note in
    record {
      judged = judged;
      goings = goings_after script judged seen.goings note;
      standings = put note.actor (stood script note (seen.standings note.actor)) seen.standings;
      last = Some note;
    }

abbrev pub seen_from : ScriptValue → Seen → List NoteValue → Seen
seen_from script seen [] = seen
seen_from script seen (note ∷ notes) = seen_from script (seen_after script seen note) notes

abbrev pub seen_of : ScriptValue → List NoteValue → Seen
seen_of script notes = seen_from script (seen_first script) notes

-- the note is of the last one's turn, or begins the next
abbrev pub FitsTurn : ScriptValue → (last : Option NoteValue) → NoteValue → Type 0
FitsTurn script None note = BeginsTurn script 0 note
FitsTurn script (Some last) note =
    ((note.turn ≡ last.turn) × (note.actor ≡ last.actor)) ⊎ BeginsTurn script last.turn note

-- One more note fits those that have led here.
pub record Fits (script : ScriptValue) (seen : Seen) (note : NoteValue) : Type 0 where
  pub turn : FitsTurn script seen.last note
  -- its event or answer may come next
  pub course : IsSome (stood script note (seen.standings note.actor))
  -- it is right in the plain state
  pub plain : IsSo IsRightAt script seen.judged note
  -- it passes no page that was named all the time
  pub passing : PassesRight seen.judged.plain (seen.goings note.actor) (process_of script note.actor) (present_op script note.actor (seen.judged.places note.actor)) note.what
  -- it waits for a cause, or is idle at its end
  pub standing : StandsRight script seen.judged note.actor note.what
