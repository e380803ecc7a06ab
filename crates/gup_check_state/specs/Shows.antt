-- What is kept shows what the notes have led to.
use Rattle.std.specs.Prelude.{◌≡◌, ℕ, nat_lt, true, false, Option, Some, None, IfSome, length, slice_get, vec_len}
use Rattle.gup_plain.specs.Note.{NoteValue}
use Rattle.gup_plain.specs.State.{PlainState}
use Rattle.gup_script.specs.Script.{ScriptValue}
use Rattle.gup_spec_journal.specs.Plain.{plain_after}
use Rattle.gup_spec_accepted.specs.Said.{says}
use Rattle.gup_exec_plain.specs.Parts.{state_of, actors_of}
use Rattle.gup_check_pages.specs.Mapped.{mapped_of}
use Rattle.gup_check_plain.specs.Referring.{references_of}
use Rattle.gup_check_course.specs.Standing.{Standing, stands}
use Rattle.gup_spec_check.specs.Seen.{Seen, seen_first, stood}
use Rattle.gup_spec_check.specs.Times.{Times, times_first}
use Rattle.gup_check_state.specs.declared.kept.Fit.{Fit}
use Rattle.gup_check_state.specs.declared.kept.Fit.TheVariants.{Stays, Steps}
use Rattle.gup_check_state.specs.declared.kept.Kept.{Kept}
use Rattle.gup_check_state.specs.declared.kept.Progress.{Progress}

-- how far the actor has come
pub record IsProgress (seen : Seen) (times : Times) (a : ℕ) (progress : Progress) : Type 0 where
  pub standing : seen.standings a ≡ Some (record { answered = progress.answered; course = progress.course })
  pub begun : progress.has_begun ≡ nat_lt 0 (seen.judged.places a).far
  pub said : progress.said ≡ times.since a
  pub next : progress.next ≡ (seen.goings a).next

abbrev pub IsFirst : ScriptValue → (a : ℕ) → Progress → Type 0
IsFirst script a progress = IsProgress (seen_first script) times_first a progress

abbrev pub IsLast : Option (ℕ × ℕ) → Option NoteValue → Type 0
IsLast None None = Unit {0}
IsLast (Some last) (Some note) = (last.0 ≡ note.turn) × (last.1 ≡ note.actor)
IsLast None (Some n) = ⊥
IsLast (Some l) None = ⊥

-- the plain state is this one, and all else is what was seen
pub record ShowsWith (script : ScriptValue) (plain_state : PlainState) (kept : Kept) (seen : Seen) (times : Times) : Type 0 where
  pub plain : state_of kept.plain ≡ plain_state
  pub actors : actors_of kept.plain ≡ length script.actors
  pub references : references_of kept.references ≡ seen.judged.references
  pub mapped : mapped_of kept.mapped ≡ times.mapped
  pub many : vec_len kept.actors ≡ length script.actors
  pub progress : (a : ℕ) → IfSome (slice_get kept.actors.items a) (IsProgress seen times a)
  pub last : IsLast kept.last seen.last
  pub count : kept.count ≡ times.count

abbrev pub Shows : ScriptValue → Kept → Seen → Times → Type 0
Shows script kept seen times = ShowsWith script seen.judged.plain kept seen times

-- the note's event, if it is one, has happened already
abbrev pub ShowsBefore : ScriptValue → NoteValue → Kept → Seen → Times → Type 0
ShowsBefore script note kept seen times = ShowsWith script (plain_after seen.judged.plain note.what) kept seen times

-- what the note makes of its actor's operation
abbrev pub IsFit : ScriptValue → Seen → NoteValue → Fit → Type 0
IsFit script seen note Stays = says note.what ≡ false
IsFit script seen note (Steps step) =
    (says note.what ≡ true)
    × ((standing : Standing) × (seen.standings note.actor ≡ Some standing)
    × (stood script note (Some standing) ≡ stands standing.answered (Some step)))

-- Where an actor stands says how many operations it has answered.
abbrev pub PlacesAgree : Seen → Type 0
PlacesAgree seen =
    (a : ℕ) (standing : Standing) → seen.standings a ≡ Some standing → standing.answered ≡ (seen.judged.places a).answered

-- the note fits what is kept, and its event has happened
abbrev pub IsFollowed : ScriptValue → NoteValue → Kept → Fit → Type 0
IsFollowed script note kept fit =
    (seen : Seen) × (times : Times) × ShowsBefore script note kept seen times × IsFit script seen note fit × PlacesAgree seen
