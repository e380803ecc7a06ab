-- Whatever finishes an operation is said by notes of its shape.
use Rattle.std.proofs.Common.{◌≡◌, ℕ, ◌+◌, ◌<◌, ◌≤◌, inl, inr, Bool, true, false, List, [], ◌∷◌, sym, subst, arith}
use Rattle.gup_base.specs.Parts.{words_of}
use Rattle.gup_base.specs.declared.entry.Want.{Want}
use Rattle.gup_plain.specs.Note.{NoteValue}
use Rattle.gup_plain.specs.declared.answer.Answer.{Answer}
use Rattle.gup_plain.specs.declared.answer.Answer.TheVariants as answers
use Rattle.gup_plain.specs.declared.event.PlainEvent.{PlainEvent}
use Rattle.gup_plain.specs.declared.event.PlainEvent.TheVariants as events
use Rattle.gup_plain.specs.declared.note.What.{What}
use Rattle.gup_plain.specs.declared.note.What.TheVariants.{Event, Done}
use Rattle.gup_script.specs.Valid.{IsOp}
use Rattle.gup_script.specs.declared.op.Op.{Op}
use Rattle.gup_script.specs.declared.op.Op.TheVariants.{Map, Unmap, Protect, Discard, Load, Store, Pin, Unpin, Give, Take, Get, Put, Transfer, Mirror, Look, Fork, Exit, Move}
use Rattle.gup_spec_journal.specs.Follows.{Who, IsTurn, refuses, RefusesMove, RefusesIn, TakesDownWhole, Forks, PinsPages, Completes, Shape}
use Rattle.gup_check_course.specs.declared.course.Course.TheVariants.{Start, Closing}
use Rattle.gup_check_course.specs.Arcs.{arcs, begins, value_in, answer_in}
use Rattle.gup_check_course.proofs.Finish.{Finishes}
use Rattle.gup_check_course.proofs.Writing.{Written, written_as, written_turn, written_third}
use Rattle.gup_check_course.proofs.Through.{Through, through, closing_said}
use Rattle.gup_check_course.proofs.PageWritten.{unmap_written, discard_written, exit_written, transfer_written}
use Rattle.gup_check_course.proofs.ForkWritten.{fork_written}
use Rattle.gup_check_course.proofs.PinWritten.{slow_pin_written, fast_pin_written, pin_refused}

-- an event and its answer, in one turn
single_written : (who : Who) (op : Op) (event : PlainEvent) (answer : Answer) (what : What) (whats : List What) → what ≡ Event event → Finishes who op (Closing answer) whats → Written who (IsTurn who (Event event ∷ Done answer ∷ [])) (what ∷ whats)
single_written who op event answer what whats is ends =
    let last : whats ≡ Done answer ∷ [] = closing_said who op answer whats ends in
    subst (Written who (IsTurn who (Event event ∷ Done answer ∷ []))) (let whole : Event event ∷ Done answer ∷ [] ≡ what ∷ whats = cc (is, last) in whole)
    (written_turn who (Event event ∷ Done answer ∷ []))

-- an answer alone
answer_written : (who : Who) (answer : Answer) (what : What) (whats : List What) → what ≡ Done answer → whats ≡ [] → (S : List NoteValue → Type 0) → Written who S (Done answer ∷ []) → Written who S (what ∷ whats)
answer_written who answer what whats is empty S written = subst (Written who S) (let whole : Done answer ∷ [] ≡ what ∷ whats = cc (is, empty) in whole) written

-- a refusal
abbrev Refused : Who → Op → Type 0
Refused who op = (answer : Answer) → refuses op answer ≡ true → Written who (RefusesIn who op (Done answer ∷ [])) (Done answer ∷ [])

refused_written : (who : Who) (op : Op) (what : What) (whats : List What) → Refused who op → refuses op (answer_in what) ≡ true → what ≡ Done (answer_in what) → whats ≡ [] → Written who (Shape who op) (what ∷ whats)
refused_written who op what whats refused may is empty =
    let answer : Answer = answer_in what in
    answer_written who answer what whats is empty (Shape who op)
    (written_as who (RefusesIn who op (Done answer ∷ [])) (Shape who op) (Done answer ∷ []) (λ notes these. inr (answer, may, these)) (refused answer may))

-- what begins an operation is a refusal, or one of these
abbrev Begins : Who → Op → Type 0
Begins who op =
    (what : What) (whats : List What) → Through who op what whats (begins who op what) → Written who (Shape who op) (what ∷ whats)

shape_by : (who : Who) (op : Op) → Refused who op → Begins who op → (whats : List What) → Finishes who op Start whats → Written who (Shape who op) whats
shape_by who op refused completes [] ends = absurd ends
shape_by who op refused completes (what ∷ whats) ends = by_first (through who op Start what whats ends)
  where
    by_first : Through who op what whats (arcs who op Start what) → Written who (Shape who op) (what ∷ whats)
    by_first (inl is) = refused_written who op what whats refused is.0 is.1 is.2
    by_first (inr is) = completes what whats is

move_refused : (who : Who) (answer : Answer) → Written who (RefusesMove who answer) (Done answer ∷ [])
move_refused who (answers.Busy count) = written_third who (Done (answers.Busy count) ∷ [])
move_refused who answers.NoFrame = written_third who (Done answers.NoFrame ∷ [])
move_refused who answer = written_turn who (Done answer ∷ [])

refused : (who : Who) (op : Op) → Refused who op
refused who (Pin handle page n want fast) answer may = pin_refused who handle page n want fast answer may
refused who (Move proc page zone) answer may = move_refused who answer
refused who op answer may = written_turn who (Done answer ∷ [])

-- what completes it is of its shape
abbrev CompletesBy : Who → Op → Type 0
CompletesBy who op =
    (what : What) (whats : List What) → Through who op what whats (begins who op what) → Written who (Completes who op) (what ∷ whats)

of_shape : (who : Who) (op : Op) → CompletesBy who op → Begins who op
of_shape who op completes what whats is = written_as who (Completes who op) (Shape who op) (what ∷ whats) (λ notes these. inl these) (completes what whats is)

abbrev IsNoPin : Op → Type 0
IsNoPin (Pin handle page n want fast) = ⊥
IsNoPin op = Unit {0}

completes : (who : Who) (op : Op) → IsNoPin op → IsOp op → CompletesBy who op
completes who (Load page word) other valid what whats (inl is) =
    let value : ℕ = value_in what in
    let turn : List What = Event (events.Load who.actor who.proc page word value) ∷ Done (answers.Value value) ∷ [] in
    written_as who (IsTurn who turn) (Completes who (Load page word)) (what ∷ whats) (λ notes these. (value, these))
    (single_written who (Load page word) (events.Load who.actor who.proc page word value) (answers.Value value) what whats is.1 is.2)
completes who (Store page word value) other valid what whats (inl is) =
    single_written who (Store page word value) (events.Store who.actor who.proc page word value) answers.Plain what whats is.1 is.2
completes who (Map page n rights) other valid what whats (inl is) =
    single_written who (Map page n rights) (events.Map who.actor who.proc page n rights) answers.Plain what whats is.1 is.2
completes who (Protect page n rights) other valid what whats (inl is) =
    single_written who (Protect page n rights) (events.Protect who.actor who.proc page n rights) answers.Plain what whats is.1 is.2
completes who (Unmap page n) other valid what whats is =
    let some : 1 ≤ n = valid.0 in unmap_written who page n (omega arith) what whats is
completes who (Discard page n) other valid what whats is =
    let some : 1 ≤ n = valid.0 in discard_written who page n (omega arith) what whats is
completes who (Unpin handle) other valid what whats (inl is) =
    let turn : List What = Event (events.Unpin who.actor handle) ∷ Done answers.Plain ∷ [] in
    written_as who (IsTurn who turn) (Completes who (Unpin handle)) (what ∷ whats) (λ notes these. (0, these))
    (single_written who (Unpin handle) (events.Unpin who.actor handle) answers.Plain what whats is.1 is.2)
completes who (Give handle to) other valid what whats (inl is) =
    single_written who (Give handle to) (events.Give who.actor handle to) answers.Plain what whats is.1 is.2
completes who (Take handle) other valid what whats (inl is) =
    single_written who (Take handle) (events.Take who.actor handle) answers.Plain what whats is.1 is.2
completes who (Get handle page) other valid what whats (inl is) =
    answer_written who answers.Plain what whats is.1 is.2 (Completes who (Get handle page)) (written_turn who (Done answers.Plain ∷ []))
completes who (Put handle) other valid what whats (inl is) =
    answer_written who answers.Plain what whats is.1 is.2 (Completes who (Put handle)) (written_turn who (Done answers.Plain ∷ []))
completes who (Transfer handle outward slot parts) other valid what whats is =
    let some : 1 ≤ words_of parts = valid.0.1 in transfer_written who handle outward slot parts (omega arith) what whats is
completes who (Mirror mirror proc page) other valid what whats (inl is) =
    single_written who (Mirror mirror proc page) (events.MirrorFill who.actor mirror proc page) answers.Plain what whats is.1 is.2
completes who (Look mirror word) other valid what whats (inl is) =
    let value : ℕ = value_in what in
    let turn : List What = Event (events.Look who.actor mirror word value) ∷ Done (answers.Value value) ∷ [] in
    written_as who (IsTurn who turn) (Completes who (Look mirror word)) (what ∷ whats) (λ notes these. (value, these))
    (single_written who (Look mirror word) (events.Look who.actor mirror word value) (answers.Value value) what whats is.1 is.2)
completes who (Move proc page zone) other valid what whats (inl is) =
    answer_written who answers.Plain what whats is.1 is.2 (Completes who (Move proc page zone)) (written_third who (Done answers.Plain ∷ []))
completes who (Fork child) other valid what whats (inl is) =
    subst (λ (w : What). Written who (Completes who (Fork child)) (w ∷ whats)) (sym is.1)
    (written_as who (Forks who child) (Completes who (Fork child)) (Event (events.ForkBegin who.proc child) ∷ whats) (λ notes these. inl these) (fork_written who child whats is.2))
completes who (Fork child) other valid what whats (inr (inl is)) =
    written_as who (IsTurn who (Event (events.ForkFail child) ∷ Done answers.Unborn ∷ [])) (Completes who (Fork child)) (what ∷ whats) (λ notes these. inr these)
    (single_written who (Fork child) (events.ForkFail child) answers.Unborn what whats is.1 is.2)
completes who (Fork child) other valid what whats (inr (inr is)) = absurd is
completes who Exit other valid what whats is =
    let whole = exit_written who what whats is in
    written_as who (TakesDownWhole who whole.0) (Completes who Exit) (what ∷ whats) (λ notes these. (whole.0, these)) whole.1
completes who (Pin handle page n want fast) other valid what whats is = absurd other
completes who op other valid what whats (inr is) = absurd is

-- a pin begins slowly, or with a walk
pin_begins : (who : Who) (handle page n : ℕ) (want : Want) (fast : Bool) → 0 < n → Begins who (Pin handle page n want fast)
pin_begins who handle page n want false pages what whats (inl is) =
    subst (λ (w : What). Written who (Shape who (Pin handle page n want false)) (w ∷ whats)) (sym is.1)
    (written_as who (PinsPages who handle page n want 0 n) (Shape who (Pin handle page n want false)) (Event (events.PinTry who.actor who.proc (page + 0) want.write) ∷ whats) (λ notes these. inl these)
    (slow_pin_written who handle page n want pages whats is.2))
pin_begins who handle page n want true pages what whats (inl is) =
    subst (λ (w : What). Written who (Shape who (Pin handle page n want true)) (w ∷ whats)) (sym is.1) (fast_pin_written who handle page n want pages whats is.2)
pin_begins who handle page n want fast pages what whats (inr is) = absurd is

begins_shape : (who : Who) (op : Op) → IsOp op → Begins who op
begins_shape who (Pin handle page n want fast) valid =
    let some : 1 ≤ n = valid.0 in pin_begins who handle page n want fast (omega arith)
begins_shape who op valid = of_shape who op (completes who op tt valid)

pub shape_written : (who : Who) (op : Op) (whats : List What) → IsOp op → Finishes who op Start whats → Written who (Shape who op) whats
shape_written who op whats valid ends = shape_by who op (refused who op) (begins_shape who op valid) whats ends
