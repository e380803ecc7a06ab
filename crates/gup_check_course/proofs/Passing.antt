-- Whatever notes of these shapes say takes an operation from one course to another, or to its end.
use Rattle.std.proofs.Common.{◌≡◌, inl, inr, List, [], ◌∷◌, ◌++◌, Some, refl, sym, subst}
use Rattle.gup_plain.specs.Note.{NoteValue}
use Rattle.gup_plain.specs.declared.answer.Answer.{Answer}
use Rattle.gup_plain.specs.declared.event.PlainEvent.{PlainEvent}
use Rattle.gup_plain.specs.declared.note.What.{What}
use Rattle.gup_plain.specs.declared.note.What.TheVariants.{Silent, Event, Done}
use Rattle.gup_script.specs.declared.op.Op.{Op}
use Rattle.gup_spec_journal.specs.Follows.{Who, IsTurn, Then, IsThirdTurn}
use Rattle.gup_check_course.specs.declared.course.Course.{Course}
use Rattle.gup_check_course.specs.declared.course.Step.TheVariants.{On, Ended}
use Rattle.gup_check_course.specs.Arcs.{next_of}
use Rattle.gup_check_course.proofs.Finish.{Finishes}
use Rattle.gup_check_course.proofs.Speaking.{Speaks, spoken, turn_speaks, both_speak}
use Rattle.std.proofs.Common.{append_assoc}

abbrev pub Passes : Who → Op → (S : List NoteValue → Type 0) → (from to : Course) → Type 0
Passes who op S from to =
    (notes : List NoteValue) → S notes
    → (whats : List What) × Speaks who whats notes × ((rest : List What) → Finishes who op to rest → Finishes who op from (whats ++ rest))

abbrev pub Ends : Who → Op → (S : List NoteValue → Type 0) → (from : Course) → Type 0
Ends who op S from = (notes : List NoteValue) → S notes → (whats : List What) × Speaks who whats notes × Finishes who op from whats

pub then_ends : (who : Who) (op : Op) (First Second : List NoteValue → Type 0) (from to : Course) → Passes who op First from to → Ends who op Second to → Ends who op (Then First Second) from
then_ends who op First Second from to first second notes is =
    let front = first is.0 is.4 in
    let rest = second is.1 is.5 in
    (front.0 ++ rest.0, both_speak who front.0 rest.0 notes is.0 is.1 is.2 front.1 rest.1, front.2 rest.0 rest.2)

pub then_passes : (who : Who) (op : Op) (First Second : List NoteValue → Type 0) (from by to : Course) → Passes who op First from by → Passes who op Second by to → Passes who op (Then First Second) from to
then_passes who op First Second from by to first second notes is =
    let front = first is.0 is.4 in
    let rest = second is.1 is.5 in (
      front.0 ++ rest.0,
      both_speak who front.0 rest.0 notes is.0 is.1 is.2 front.1 rest.1,
      λ later ends. subst (Finishes who op from) (sym (append_assoc front.0 rest.0 later)) (front.2 (rest.0 ++ later) (rest.2 later ends)),
    )

pub turn_passes : (who : Who) (op : Op) (whats : List What) (from to : Course) → ((rest : List What) → Finishes who op to rest → Finishes who op from (spoken whats ++ rest)) → Passes who op (IsTurn who whats) from to
turn_passes who op whats from to goes notes is = (spoken whats, turn_speaks who whats notes is, goes)

pub turn_ends : (who : Who) (op : Op) (whats : List What) (from : Course) → Finishes who op from (spoken whats) → Ends who op (IsTurn who whats) from
turn_ends who op whats from ends notes is = (spoken whats, turn_speaks who whats notes is, ends)

pub silent_passes : (who : Who) (op : Op) (at : Course) → Passes who op (IsTurn who (Silent ∷ [])) at at
silent_passes who op at = turn_passes who op (Silent ∷ []) at at (λ rest ends. ends)

pub event_passes : (who : Who) (op : Op) (event : PlainEvent) (from to : Course) → next_of who op from (Event event) ≡ Some (On to) → Passes who op (IsTurn who (Event event ∷ [])) from to
event_passes who op event from to goes = turn_passes who op (Event event ∷ []) from to (λ rest ends. inr (to, goes, ends))

pub answer_ends : (who : Who) (op : Op) (answer : Answer) (from : Course) → next_of who op from (Done answer) ≡ Some Ended → Ends who op (IsTurn who (Done answer ∷ [])) from
answer_ends who op answer from ends = turn_ends who op (Done answer ∷ []) from (inl (ends, refl))

-- an event with the answer
pub both_end : (who : Who) (op : Op) (event : PlainEvent) (answer : Answer) (from by : Course) → next_of who op from (Event event) ≡ Some (On by) → next_of who op by (Done answer) ≡ Some Ended → Ends who op (IsTurn who (Event event ∷ Done answer ∷ [])) from
both_end who op event answer from by goes ends = turn_ends who op (Event event ∷ Done answer ∷ []) from (inr (by, goes, inl (ends, refl)))

-- two events with the answer
pub three_end : (who : Who) (op : Op) (first second : PlainEvent) (answer : Answer) (from by at : Course) → next_of who op from (Event first) ≡ Some (On by) → next_of who op by (Event second) ≡ Some (On at) → next_of who op at (Done answer) ≡ Some Ended → Ends who op (IsTurn who (Event first ∷ Event second ∷ Done answer ∷ [])) from
three_end who op first second answer from by at goes further ends =
    turn_ends who op (Event first ∷ Event second ∷ Done answer ∷ []) from (inr (by, goes, inr (at, further, inl (ends, refl))))

-- behind two silent turns, the same
pub third_ends : (who : Who) (op : Op) (whats : List What) (from : Course) → Ends who op (IsTurn who whats) from → Ends who op (IsThirdTurn who whats) from
third_ends who op whats from ends =
    then_ends who op (IsTurn who (Silent ∷ [])) (Then (IsTurn who (Silent ∷ [])) (IsTurn who whats)) from from (silent_passes who op from)
    (then_ends who op (IsTurn who (Silent ∷ [])) (IsTurn who whats) from from (silent_passes who op from) ends)

pub third_passes : (who : Who) (op : Op) (whats : List What) (from to : Course) → Passes who op (IsTurn who whats) from to → Passes who op (IsThirdTurn who whats) from to
third_passes who op whats from to passes =
    then_passes who op (IsTurn who (Silent ∷ [])) (Then (IsTurn who (Silent ∷ [])) (IsTurn who whats)) from from to (silent_passes who op from)
    (then_passes who op (IsTurn who (Silent ∷ [])) (IsTurn who whats) from from to (silent_passes who op from) passes)
