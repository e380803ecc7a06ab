-- What an operation says from a course on until it ends.
use Rattle.std.proofs.Common.{◌≡◌, ◌⊎◌, inl, inr, ◌&&◌, cond, Bool, true, false, List, [], ◌∷◌, Some, refl}
use Rattle.gup_plain.specs.declared.answer.Answer.{Answer}
use Rattle.gup_plain.specs.declared.event.PlainEvent.{PlainEvent}
use Rattle.gup_plain.specs.declared.note.What.{What}
use Rattle.gup_plain.specs.declared.note.What.TheVariants.{Event, Done}
use Rattle.gup_script.specs.declared.op.Op.{Op}
use Rattle.gup_spec_journal.specs.Follows.{Who}
use Rattle.gup_check_course.specs.declared.course.Course.{Course}
use Rattle.gup_check_course.specs.declared.course.Step.{Step}
use Rattle.gup_check_course.specs.declared.course.Step.TheVariants.{On, Ended}
use Rattle.gup_check_course.specs.Arcs.{Arc, on_event, on_answer, taken, next_of}
use Rattle.gup_check_course.specs.Same.{same_what}
use Rattle.gup_check_course.proofs.SameLemmas.{what_is, event_self, answer_self}

abbrev pub Finishes : Who → Op → Course → List What → Type 0
Finishes who op course [] = ⊥
Finishes who op course (what ∷ whats) =
    ((next_of who op course what ≡ Some Ended) × (whats ≡ []))
    ⊎ ((on : Course) × (next_of who op course what ≡ Some (On on)) × Finishes who op on whats)

-- it is one of those that may come
abbrev pub Among : What → Step → List Arc → Type 0
Among what step [] = ⊥
Among what step (here ∷ later) = ((here.allowed ≡ true) × (what ≡ here.what) × (here.step ≡ step)) ⊎ Among what step later

pub among : (what : What) (step : Step) (arcs : List Arc) → taken what arcs ≡ Some step → Among what step arcs
among what step [] is = absurd (cc is)
among what step (here ∷ later) is = chosen here.allowed (same_what what here.what) refl refl (among what step later) is
  where
    chosen : (allowed same : Bool) → here.allowed ≡ allowed → same_what what here.what ≡ same → (taken what later ≡ Some step → Among what step later) → cond (allowed && same) (Some here.step) (taken what later) ≡ Some step → Among what step (here ∷ later)
    chosen true true may alike further is = inl (may, what_is what here.what alike, cc is)
    chosen true false may alike further is = inr (further is)
    chosen false same may alike further is = inr (further is)

pub event_taken : (allowed : Bool) (event : PlainEvent) (course : Course) (later : List Arc) → allowed ≡ true → taken (Event event) (on_event allowed event course ∷ later) ≡ Some (On course)
event_taken allowed event course later may = rw (may, event_self event) refl

pub answer_taken : (allowed : Bool) (answer : Answer) (later : List Arc) → allowed ≡ true → taken (Done answer) (on_answer allowed answer ∷ later) ≡ Some Ended
answer_taken allowed answer later may = rw (may, answer_self answer) refl

pub passed_over : (what : What) (here : Arc) (later : List Arc) → same_what what here.what ≡ false → taken what (here ∷ later) ≡ taken what later
passed_over what here later unlike = rw unlike (either here.allowed)
  where
    either : (allowed : Bool) → cond (allowed && false) (Some here.step) (taken what later) ≡ taken what later
    either true = refl
    either false = refl

-- what isn't allowed is passed over, too
pub not_allowed : (what : What) (here : Arc) (later : List Arc) → here.allowed ≡ false → taken what (here ∷ later) ≡ taken what later
not_allowed what here later never = rw never refl

pub ends_with : (who : Who) (op : Op) (course : Course) (what : What) → next_of who op course what ≡ Some Ended → Finishes who op course (what ∷ [])
ends_with who op course what is = inl (is, refl)

pub goes_with : (who : Who) (op : Op) (course on : Course) (what : What) (whats : List What) → next_of who op course what ≡ Some (On on) → Finishes who op on whats → Finishes who op course (what ∷ whats)
goes_with who op course on what whats is later = inr (on, is, later)
