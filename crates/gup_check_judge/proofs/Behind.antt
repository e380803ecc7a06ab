-- Behind its last operation an actor is idle, and nothing else of it fits.
use Rattle.std.proofs.Common.{◌≡◌, ℕ, ◌≤◌, true, Option, Some, None, IsSome, length, slice_get, refl, sym, ◌∙◌, ap, arith}
use Rattle.std.specs.Prelude.{MatchOption}
use Rattle.std.proofs.lemmas.Bool.Decides.{nat_tests}
use Rattle.gup_plain.specs.Note.{NoteValue}
use Rattle.gup_plain.specs.declared.note.What.{What}
use Rattle.gup_plain.specs.declared.note.What.TheVariants.{Silent, Idle, Wait, Event, Done}
use Rattle.gup_script.specs.Script.{ScriptValue, actor_at, ops_of}
use Rattle.gup_spec_accepted.specs.Said.{says}
use Rattle.gup_spec_accepted.specs.Waits.{StandsRight}
use Rattle.gup_spec_journal.specs.Place.{Place, Doer, doer_of, present_op, has_finished}
use Rattle.gup_spec_journal.specs.Plain.{Judged, IsRightAt}
use Rattle.gup_spec_check.specs.Seen.{Seen, FitsTurn}
use Rattle.gup_check_state.specs.declared.kept.Fit.{Fit}
use Rattle.gup_check_state.specs.declared.kept.Fit.TheVariants.{Stays}
use Rattle.gup_spec_check.specs.Times.{Times}
use Rattle.gup_check_state.specs.declared.kept.Kept.{Kept}
use Rattle.gup_check_state.specs.declared.kept.Progress.{Progress}
use Rattle.gup_check_state.specs.Shows.{Shows}
use Rattle.gup_check_judge.specs.Knows.{Knows, IsJudged, AreJudged}
use Rattle.gup_check_judge.proofs.Actors.{none_past, progress_shown, present_shown, stranger_shown, stranger_present}

finished : (script : ScriptValue) (a : ℕ) (place : Place) → present_op script a place ≡ None → has_finished script a place ≡ true
finished script a place none =
    let past : length (ops_of script a) ≤ place.answered = none_past (ops_of script a) place.answered none in
    grind (arith, nat_tests)

only_idle : (script : ScriptValue) (j : Judged) (a : ℕ) (who : Doer) (what : What) → has_finished script a (j.places a) ≡ true → IsRightAt j.plain j.references who (j.places a) None what → StandsRight script j a what → what ≡ Idle
only_idle script j a who Silent done right stands = absurd right
only_idle script j a who Idle done right stands = refl
only_idle script j a who (Wait waiting) done right stands = absurd (cc (done, stands.0))
only_idle script j a who (Event e) done right stands = absurd right
only_idle script j a who (Done answer) done right stands = absurd right

idle_judged : (script : ScriptValue) (seen : Seen) (note : NoteValue) → FitsTurn script seen.last note → present_op script note.actor (seen.judged.places note.actor) ≡ None → IsSome (seen.standings note.actor) → note.what ≡ Idle → IsJudged script seen note Stays
idle_judged script seen note turn none stands idle = (
  ap says idle,
  λ can. record {
    turn = turn;
    course = rw (ap says idle) stands;
    plain = rw (none, idle) tt;
    passing = rw none tt;
    standing = rw idle (finished script note.actor (seen.judged.places note.actor) none);
  },
)

pub behind_judged : (script : ScriptValue) (seen : Seen) (note : NoteValue) (what : What) (fit : Option Fit) → FitsTurn script seen.last note → present_op script note.actor (seen.judged.places note.actor) ≡ None → IsSome (seen.standings note.actor) → what ≡ note.what → MatchOption fit (what ≡ Idle → ⊥) (λ f. (what ≡ Idle) × (f ≡ Stays)) → AreJudged script seen note fit
behind_judged script seen note what None turn none stands is told = λ fits.
    told (is ∙ only_idle script seen.judged note.actor (doer_of script note.actor None) note.what (finished script note.actor (seen.judged.places note.actor) none) (rw none at fits.plain) fits.standing)
behind_judged script seen note what (Some fit) turn none stands is told = rw told.1 (idle_judged script seen note turn none stands (sym is ∙ told.0))

-- of an actor that nothing is kept of
pub stranger_judged : (script : ScriptValue) (kept : Kept) (seen : Seen) (times : Times) (note : NoteValue) (a : ℕ) (what : What) (fit : Option Fit) → Shows script kept seen times → Knows script seen times → FitsTurn script seen.last note → a ≡ note.actor → slice_get kept.actors.items a ≡ None → what ≡ note.what → MatchOption fit (what ≡ Idle → ⊥) (λ f. (what ≡ Idle) × (f ≡ Stays)) → AreJudged script seen note fit
stranger_judged script kept seen times note a what fit shows knows turn actor_is none is told =
    let stranger : actor_at script note.actor ≡ None = stranger_shown script kept seen times note.actor shows (ap (slice_get kept.actors.items) (sym actor_is) ∙ none) in
    behind_judged script seen note what fit turn (stranger_present script note.actor (seen.judged.places note.actor) stranger) (knows.strangers note.actor stranger) is told

-- of one that has answered all its operations
pub finished_judged : (script : ScriptValue) (kept : Kept) (seen : Seen) (times : Times) (note : NoteValue) (a : ℕ) (progress : Progress) (what : What) (fit : Option Fit) → Shows script kept seen times → Knows script seen times → FitsTurn script seen.last note → a ≡ note.actor → slice_get kept.actors.items a ≡ Some progress → slice_get (ops_of script a) progress.answered ≡ None → what ≡ note.what → MatchOption fit (what ≡ Idle → ⊥) (λ f. (what ≡ Idle) × (f ≡ Stays)) → AreJudged script seen note fit
finished_judged script kept seen times note a progress what fit shows knows turn actor_is kept_so none is told =
    let kept_now : slice_get kept.actors.items note.actor ≡ Some progress = ap (slice_get kept.actors.items) (sym actor_is) ∙ kept_so in
    let none_now : present_op script note.actor (seen.judged.places note.actor) ≡ None =
    sym (present_shown script kept seen times note.actor progress shows knows kept_now) ∙ ap (λ (b : ℕ). slice_get (ops_of script b) progress.answered) (sym actor_is) ∙ none in
    let stands : IsSome (seen.standings note.actor) = rw (progress_shown script kept seen times note.actor progress shows kept_now).standing refl in
    behind_judged script seen note what fit turn none_now stands is told
