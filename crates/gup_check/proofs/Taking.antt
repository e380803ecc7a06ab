-- One more note: what is known before it, and what is so behind it.
use Rattle.std.proofs.Common.{◌≡◌, ℕ, ◌+◌, ◌<◌, true, false, List, [], ◌∷◌, ◌++◌, Option, Some, None, Bool, length, slice_get, refl, sym, ◌∙◌, ap, subst, inl, inr}
use Rattle.std.specs.Prelude.{MatchBool}
use Rattle.std.proofs.lemmas.Option.{slice_get_cases}
use Rattle.gup_plain.specs.Note.{NoteValue}
use Rattle.gup_plain.specs.State.{PlainState}
use Rattle.gup_plain.specs.declared.event.PlainEvent.{PlainEvent}
use Rattle.gup_plain.specs.declared.note.What.{What}
use Rattle.gup_plain.specs.declared.note.What.TheVariants.{Silent, Idle, Wait, Event, Done}
use Rattle.gup_script.specs.Script.{ScriptValue, Actor, actor_at, ops_in}
use Rattle.gup_script.specs.declared.op.Op.{Op}
use Rattle.gup_spec_journal.specs.Denial.{References}
use Rattle.gup_spec_journal.specs.Follows.{Who}
use Rattle.gup_spec_journal.specs.Place.{Place, Doer, process_of}
use Rattle.gup_spec_journal.specs.Plain.{IsPlain, IsRightAt, plain_after}
use Rattle.gup_spec_accepted.specs.Accepted.{Accepted}
use Rattle.gup_spec_accepted.specs.Said.{says}
use Rattle.gup_exec_plain.specs.Parts.{state_of, actors_of, HasActor}
use Rattle.gup_exec_plain.specs.declared.parts.Parts.{Parts}
use Rattle.gup_check_course.specs.Arcs.{next_of}
use Rattle.gup_check_course.specs.Standing.{Standing, stands}
use Rattle.gup_check_course.specs.declared.course.Course.{Course}
use Rattle.gup_check_course.specs.declared.course.Course.TheVariants.{Start}
use Rattle.gup_check_course.specs.declared.course.Step.{Step}
use Rattle.gup_check_course.specs.declared.course.Step.TheVariants.{On, Ended}
use Rattle.gup_law_course.specs.UnderWay.{is_under_way}
use Rattle.gup_spec_check.specs.Seen.{Seen, Fits, seen_after, seen_of, stood}
use Rattle.gup_spec_check.specs.Times.{Times, times_first, times_after, times_from, times_of, unnamed_since}
use Rattle.gup_check_state.specs.declared.kept.Fit.{Fit}
use Rattle.gup_check_state.specs.declared.kept.Fit.TheVariants.{Stays, Steps}
use Rattle.gup_check_state.specs.Shows.{Shows, ShowsBefore, IsFit}
use Rattle.gup_check_state.specs.declared.kept.Kept.{Kept}
use Rattle.gup_check_state.proofs.Coming.{Comes, comes, who_of}
use Rattle.gup_check_judge.specs.Knows.{Knows, MayHappen}
use Rattle.gup_check_judge.proofs.Strangers.{strangers_stand}
use Rattle.gup_check.specs.Takes.{OfActor}

-- the times behind one more note
times_along : (times : Times) (notes : List NoteValue) (note : NoteValue) → times_from times (notes ++ note ∷ []) ≡ times_after (times_from times notes) note
times_along times [] note = refl
times_along times (first ∷ notes) note = times_along (times_after times first) notes note

pub times_grow : (notes : List NoteValue) (note : NoteValue) → times_of (notes ++ note ∷ []) ≡ times_after (times_of notes) note
times_grow notes note = times_along times_first notes note

-- what the laws say of accepted notes
pub known : (script : ScriptValue) (notes : List NoteValue) → Accepted script notes →
    ((a : ℕ) (standing : Standing) → (seen_of script notes).standings a ≡ Some standing → (standing.answered ≡ ((seen_of script notes).judged.places a).answered) × (((seen_of script notes).judged.places a).had ≡ is_under_way standing.course)) →
    ((a page : ℕ) → IsPlain script notes → ((seen_of script notes).goings a).unnamed page ≡ unnamed_since (seen_of script notes).judged.plain (times_of notes).mapped ((times_of notes).since a) (process_of script a) page) →
    Knows script (seen_of script notes) (times_of notes)
known script notes accepted places timed =
    record {
      answered = λ a standing is. (places a standing is).0;
      had = λ a standing is. (places a standing is).1;
      timed = λ a page. timed a page accepted.plain;
      strangers = strangers_stand script notes accepted;
    }

-- the event of a note that fits can happen
right_happens : (s : PlainState) (references : References) (who : Doer) (place : Place) (op : Option Op) (what : What) → IsRightAt s references who place op what → MayHappen s what
right_happens s references who place None (Event event) right = absurd right
right_happens s references who place (Some op) (Event event) right = right.0
right_happens s references who place op Silent right = tt
right_happens s references who place op Idle right = tt
right_happens s references who place op (Wait waiting) right = tt
right_happens s references who place op (Done answer) right = tt

pub fits_happen : (script : ScriptValue) (seen : Seen) (note : NoteValue) → Fits script seen note → MayHappen seen.judged.plain note.what
fits_happen script seen note fits =
    right_happens seen.judged.plain seen.judged.references _ (seen.judged.places note.actor) _ note.what fits.plain

-- an actor with an operation is declared
declared_of : (script : ScriptValue) (a k : ℕ) (op : Op) (actor : Option Actor) → actor_at script a ≡ actor → slice_get (ops_in actor) k ≡ Some op → a < length script.actors
declared_of script a k op None none there = absurd (cc there)
declared_of script a k op (Some actor) some there =
    elim (slice_get_cases script.actors a).1 [ inl within ↦ within.1 | inr past ↦ absurd (cc (past.1, some)) ]

-- an event that is a step of an operation is of the actor
pub of_actor : (script : ScriptValue) (seen : Seen) (note : NoteValue) (fit : Fit) →
    ((who : Who) (op : Op) (course : Course) (event : PlainEvent) (step : Step) → next_of who op course (Event event) ≡ Some step → ((next : Course) × (step ≡ On next) × (next ≡ Start → ⊥)) × ((n : ℕ) → who.actor < n → HasActor n event)) →
    IsFit script seen note fit → OfActor (length script.actors) note.what
of_actor script seen note Stays goes_on fits = unsaid note.what fits
  where
    unsaid : (what : What) → says what ≡ false → OfActor (length script.actors) what
    unsaid (Event event) not_said = absurd (cc not_said)
    unsaid Silent not_said = tt
    unsaid Idle not_said = tt
    unsaid (Wait waiting) not_said = tt
    unsaid (Done answer) not_said = tt
of_actor script seen note (Steps step) goes_on fits = by_step step fits.1.2
  where
    by_what : (behind : Standing) (come : Comes script note fits.1.0 behind) (what : What) → note.what ≡ what → OfActor (length script.actors) what
    by_what behind come (Event event) is =
        let may : next_of (who_of script note) come.op fits.1.0.course (Event event) ≡ Some come.step = subst (λ (w : What). next_of (who_of script note) come.op fits.1.0.course w ≡ Some come.step) is come.may in
        (goes_on (who_of script note) come.op fits.1.0.course event come.step may).1 (length script.actors) (declared_of script note.actor fits.1.0.answered come.op (actor_at script note.actor) refl come.there)
    by_what behind come Silent is = tt
    by_what behind come Idle is = tt
    by_what behind come (Wait waiting) is = tt
    by_what behind come (Done answer) is = tt

    by_step : (step : Step) → stood script note (Some fits.1.0) ≡ stands fits.1.0.answered (Some step) → OfActor (length script.actors) note.what
    by_step (On course) leads = by_what _ (comes script note fits.1.0 (record { answered = fits.1.0.answered; course = course }) fits.0 leads) note.what refl
    by_step Ended leads = by_what _ (comes script note fits.1.0 (record { answered = fits.1.0.answered + 1; course = Start }) fits.0 leads) note.what refl

-- the one case of an answer, and the other
pub could : (can : Bool) (P Q : Type 0) → MatchBool can P Q → can ≡ true → P
could true P Q is so = is
could false P Q is so = absurd (cc so)

pub cannot : (can : Bool) (P Q : Type 0) → MatchBool can P Q → can ≡ false → Q
cannot true P Q is so = absurd (cc so)
cannot false P Q is so = is

-- in the state that is kept, which is the one that was seen
pub happens_kept : (script : ScriptValue) (seen : Seen) (note : NoteValue) (s : PlainState) (what : What) → s ≡ seen.judged.plain → what ≡ note.what → Fits script seen note → MayHappen s what
happens_kept script seen note s what plain same fits = rw (plain, same) (fits_happen script seen note fits)

pub happens_seen : (seen : Seen) (note : NoteValue) (s : PlainState) (what : What) → s ≡ seen.judged.plain → what ≡ note.what → MayHappen s what → MayHappen seen.judged.plain note.what
happens_seen seen note s what plain same may = rw (sym plain, sym same) may

-- what is kept, but for the plain state, where the note has happened in that
pub happened_shown : (script : ScriptValue) (note : NoteValue) (kept : Kept) (plain : Parts) (seen : Seen) (times : Times) (what : What) →
    Shows script kept seen times → state_of plain ≡ plain_after (state_of kept.plain) what → actors_of plain ≡ actors_of kept.plain → what ≡ note.what →
    ShowsBefore script note (record kept { plain = plain }) seen times
happened_shown script note kept plain seen times what shows happened actors same =
    record {
      plain = happened ∙ ap (λ (s : PlainState). plain_after s what) shows.plain ∙ ap (plain_after seen.judged.plain) same;
      actors = actors ∙ shows.actors;
      references = shows.references;
      mapped = shows.mapped;
      many = shows.many;
      progress = shows.progress;
      last = shows.last;
      count = shows.count;
    }

-- what is kept behind the note is kept of all of them
pub taken_behind : (script : ScriptValue) (kept : Kept) (notes : List NoteValue) (note : NoteValue) →
    seen_of script (notes ++ note ∷ []) ≡ seen_after script (seen_of script notes) note →
    Shows script kept (seen_after script (seen_of script notes) note) (times_after (times_of notes) note) →
    Shows script kept (seen_of script (notes ++ note ∷ [])) (times_of (notes ++ note ∷ []))
taken_behind script kept notes note grown shows =
    subst (λ (seen : Seen). Shows script kept seen (times_of (notes ++ note ∷ []))) (sym grown)
    (subst (λ (times : Times). Shows script kept (seen_after script (seen_of script notes) note) times) (sym (times_grow notes note)) shows)
