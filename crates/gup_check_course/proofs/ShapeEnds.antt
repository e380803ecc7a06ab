-- Whatever notes of an operation's shape say takes it from its beginning to its end.
use Rattle.std.proofs.Common.{◌≡◌, ◌≤◌, inl, inr, true, false, [], ◌∷◌, Some, refl, arith}
use Rattle.gup_base.specs.Parts.{words_of}
use Rattle.gup_plain.specs.declared.answer.Answer.{Answer}
use Rattle.gup_plain.specs.declared.answer.Answer.TheVariants as answers
use Rattle.gup_plain.specs.declared.event.PlainEvent.{PlainEvent}
use Rattle.gup_plain.specs.declared.event.PlainEvent.TheVariants as events
use Rattle.gup_plain.specs.declared.note.What.TheVariants.{Event, Done}
use Rattle.gup_script.specs.Valid.{IsOp}
use Rattle.gup_script.specs.declared.op.Op.{Op}
use Rattle.gup_script.specs.declared.op.Op.TheVariants.{Map, Unmap, Protect, Discard, Load, Store, Pin, Unpin, Give, Take, Get, Put, Transfer, Mirror, Look, Fork, Exit, Move}
use Rattle.gup_spec_journal.specs.Follows.{Who, IsTurn, refuses, RefusesMove, IsRefused, Completes, Shape}
use Rattle.gup_check_course.specs.declared.course.Course.TheVariants.{Start, Closing}
use Rattle.gup_check_course.specs.declared.course.Step.TheVariants.{On}
use Rattle.gup_check_course.specs.Arcs.{begins, next_of}
use Rattle.gup_check_course.proofs.Finish.{event_taken, answer_taken}
use Rattle.gup_check_course.proofs.Passing.{Ends, answer_ends, both_end, third_ends}
use Rattle.gup_check_course.proofs.PageEnds.{unmap_ends, discard_ends, exit_ends, unpin_ends, transfer_ends}
use Rattle.gup_check_course.proofs.ForkEnds.{fork_ends, unborn_ends}
use Rattle.gup_check_course.proofs.PinEnds.{slow_end, fast_end, pin_refused}

-- an event and its answer, in one turn
single_ends : (who : Who) (op : Op) (event : PlainEvent) (answer : Answer) → next_of who op Start (Event event) ≡ Some (On (Closing answer)) → Ends who op (IsTurn who (Event event ∷ Done answer ∷ [])) Start
single_ends who op event answer goes = both_end who op event answer Start (Closing answer) goes (answer_taken true answer [] refl)

completes : (who : Who) (op : Op) → IsOp op → Ends who op (Completes who op) Start
completes who (Load page word) valid notes is =
    let event : PlainEvent = events.Load who.actor who.proc page word is.0 in
    single_ends who (Load page word) event (answers.Value is.0) (event_taken true event (Closing (answers.Value is.0)) [] refl) notes is.1
completes who (Store page word value) valid notes is =
    let event : PlainEvent = events.Store who.actor who.proc page word value in
    single_ends who (Store page word value) event answers.Plain (event_taken true event (Closing answers.Plain) [] refl) notes is
completes who (Map page n rights) valid notes is =
    let event : PlainEvent = events.Map who.actor who.proc page n rights in
    single_ends who (Map page n rights) event answers.Plain (event_taken true event (Closing answers.Plain) [] refl) notes is
completes who (Protect page n rights) valid notes is =
    let event : PlainEvent = events.Protect who.actor who.proc page n rights in
    single_ends who (Protect page n rights) event answers.Plain (event_taken true event (Closing answers.Plain) [] refl) notes is
completes who (Unmap page n) valid notes is = unmap_ends who page n notes is
completes who (Discard page n) valid notes is = discard_ends who page n notes is
completes who (Pin handle page n want false) valid notes is = slow_end who handle page n want notes is
completes who (Pin handle page n want true) valid notes is =
    let some : 1 ≤ n = valid.0 in
    fast_end who handle page n want (omega arith) notes is
completes who (Unpin handle) valid notes is = unpin_ends who handle is.0 notes is.1
completes who (Give handle to) valid notes is =
    let event : PlainEvent = events.Give who.actor handle to in
    single_ends who (Give handle to) event answers.Plain (event_taken true event (Closing answers.Plain) [] refl) notes is
completes who (Take handle) valid notes is =
    let event : PlainEvent = events.Take who.actor handle in
    single_ends who (Take handle) event answers.Plain (event_taken true event (Closing answers.Plain) [] refl) notes is
completes who (Get handle page) valid notes is = answer_ends who (Get handle page) answers.Plain Start refl notes is
completes who (Put handle) valid notes is = answer_ends who (Put handle) answers.Plain Start refl notes is
completes who (Transfer handle outward slot parts) valid notes is =
    let some : 1 ≤ words_of parts = valid.0.1 in
    transfer_ends who handle outward slot parts (omega arith) valid.0.2 notes is
completes who (Mirror mirror proc page) valid notes is =
    let event : PlainEvent = events.MirrorFill who.actor mirror proc page in
    single_ends who (Mirror mirror proc page) event answers.Plain (event_taken true event (Closing answers.Plain) [] refl) notes is
completes who (Look mirror word) valid notes is =
    let event : PlainEvent = events.Look who.actor mirror word is.0 in
    single_ends who (Look mirror word) event (answers.Value is.0) (event_taken true event (Closing (answers.Value is.0)) [] refl) notes is.1
completes who (Move proc page zone) valid notes is =
    third_ends who (Move proc page zone) (Done answers.Plain ∷ []) Start (answer_ends who (Move proc page zone) answers.Plain Start refl) notes is
completes who (Fork child) valid notes (inl is) = fork_ends who child notes is
completes who (Fork child) valid notes (inr is) = unborn_ends who child notes is
completes who Exit valid notes is = exit_ends who is.0 notes is.1

refusal_ends : (who : Who) (op : Op) (answer : Answer) → refuses op answer ≡ true → Ends who op (IsTurn who (Done answer ∷ [])) Start
refusal_ends who op answer may = answer_ends who op answer Start (answer_taken (refuses op answer) answer (begins who op (Done answer)) may)

move_refused : (who : Who) (op : Op) (answer : Answer) → Ends who op (IsTurn who (Done answer ∷ [])) Start → Ends who op (RefusesMove who answer) Start
move_refused who op (answers.Busy count) ends notes is = third_ends who op (Done (answers.Busy count) ∷ []) Start ends notes is
move_refused who op answers.NoFrame ends notes is = third_ends who op (Done answers.NoFrame ∷ []) Start ends notes is
move_refused who op answer ends notes is = ends notes is

refused_ends : (who : Who) (op : Op) → IsOp op → Ends who op (IsRefused who op) Start
refused_ends who (Pin handle page n want fast) valid notes is =
    let some : 1 ≤ n = valid.0 in
    pin_refused who handle page n want fast (omega arith) is.0 is.1 notes is.2
refused_ends who (Move proc page zone) valid notes is =
    move_refused who (Move proc page zone) is.0 (refusal_ends who (Move proc page zone) is.0 is.1) notes is.2
refused_ends who op valid notes is = refusal_ends who op is.0 is.1 notes is.2

pub shape_ends : (who : Who) (op : Op) → IsOp op → Ends who op (Shape who op) Start
shape_ends who op valid notes (inl is) = completes who op valid notes is
shape_ends who op valid notes (inr is) = refused_ends who op valid notes is
