-- What is known of what was seen, beside that it is kept.
use Rattle.std.specs.Prelude.{◌≡◌, ℕ, Option, Some, None, IsSome, MatchOption}
use Rattle.gup_plain.specs.Note.{NoteValue}
use Rattle.gup_plain.specs.State.{PlainState}
use Rattle.gup_plain.specs.Event.{CanHappen}
use Rattle.gup_plain.specs.declared.note.What.{What}
use Rattle.gup_plain.specs.declared.note.What.TheVariants.{Event}
use Rattle.gup_script.specs.Script.{ScriptValue, actor_at}
use Rattle.gup_spec_journal.specs.Place.{process_of}
use Rattle.gup_check_course.specs.Standing.{Standing}
use Rattle.gup_law_course.specs.UnderWay.{is_under_way}
use Rattle.gup_spec_check.specs.Seen.{Seen, Fits, FitsTurn}
use Rattle.gup_spec_check.specs.Times.{Times, unnamed_since}
use Rattle.gup_check_state.specs.declared.kept.Fit.{Fit}
use Rattle.gup_check_state.specs.declared.kept.Kept.{Kept}
use Rattle.gup_check_state.specs.Shows.{Shows, IsFit}

pub record Knows (script : ScriptValue) (seen : Seen) (times : Times) : Type 0 where
  -- where an actor stands says how many operations it has answered, and whether the next one has had an event
  pub answered : (a : ℕ) (standing : Standing) → seen.standings a ≡ Some standing → standing.answered ≡ (seen.judged.places a).answered
  pub had : (a : ℕ) (standing : Standing) → seen.standings a ≡ Some standing → (seen.judged.places a).had ≡ is_under_way standing.course
  -- which pages were unnamed since is told by when they were mapped
  pub timed : (a page : ℕ) → (seen.goings a).unnamed page ≡ unnamed_since seen.judged.plain times.mapped (times.since a) (process_of script a) page
  -- an actor that the script doesn't declare has said nothing that couldn't come
  pub strangers : (a : ℕ) → actor_at script a ≡ None → IsSome (seen.standings a)

-- what is kept is all that was seen and is known
abbrev pub IsKnown : ScriptValue → Kept → Type 0
IsKnown script kept = (seen : Seen) × (times : Times) × Shows script kept seen times × Knows script seen times

-- a note's event can happen; all else can
abbrev pub MayHappen : PlainState → What → Type 0
MayHappen s (Event event) = CanHappen s event
MayHappen s what = Unit {0}

-- the note makes this of its operation, and it fits if its event can happen
abbrev pub IsJudged : ScriptValue → Seen → NoteValue → Fit → Type 0
IsJudged script seen note fit =
    IsFit script seen note fit × (MayHappen seen.judged.plain note.what → Fits script seen note)

-- so a note is judged: where there is no answer, it doesn't fit whatever its event
abbrev pub AreJudged : ScriptValue → Seen → NoteValue → Option Fit → Type 0
AreJudged script seen note fit = MatchOption fit (Fits script seen note → ⊥) (IsJudged script seen note)

-- of a note of the right turn
abbrev pub JudgesInTurn : ScriptValue → Kept → NoteValue → Option Fit → Type 0
JudgesInTurn script kept note fit =
    (seen : Seen) (times : Times) → Shows script kept seen times → Knows script seen times → FitsTurn script seen.last note
    → AreJudged script seen note fit
