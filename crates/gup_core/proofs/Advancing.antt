-- What comes of asking an actor for its turn.
use Rattle.std.proofs.Common.{◌≡◌, ℕ, ◌+◌, ◌≤◌, ◌++◌, Bool, true, List, [], ◌∷◌, length, slice_get, Option, Some, None, refl, sym, ap, ◌∙◌, arith}
use Rattle.std.proofs.lemmas.Bool.Decides.{nat_tests}
use Rattle.std.proofs.lemmas.Option.{slice_get_past}
use Rattle.std.proofs.lemmas.List.{length-append, length-map}
use Rattle.gup_plain.specs.Note.{NoteValue, JournalValue}
use Rattle.gup_plain.specs.declared.note.Waiting.{Waiting}
use Rattle.gup_plain.specs.declared.note.What.{What}
use Rattle.gup_plain.specs.declared.note.What.TheVariants.{Idle, Wait}
use Rattle.gup_script.specs.declared.op.Op.{Op}
use Rattle.gup_script.specs.Script.{ScriptValue}
use Rattle.gup_spec_events.specs.State.{CoreState}
use Rattle.gup_spec_journal.specs.Place.{Doer, Place, doer_of, has_finished, ops_of}
use Rattle.gup_spec_journal.specs.Follows.{note_of, notes_of_turn}
use Rattle.gup_spec_turns.specs.Run.{RunState, is_ready, op_in, waiting_in, waiting_with, core_turn_by, run_after}
use Rattle.gup_op_waits.specs.declared.seats.Seat.{Seat}
use Rattle.gup_core.specs.Machine.{MachineValue, machine_of, counted, Shows, TakesTurns}
use Rattle.gup_core.specs.Going.{CanGo, WaitsFor, HasFinished, HasMore, IsStill, MayWakeOf}
use Rattle.gup_op_base.specs.Said.{Said, whats_by, whats_of}
use Rattle.gup_plain.specs.declared.answer.Answer.{Answer}
use Rattle.gup_plain.specs.declared.event.PlainEvent.{PlainEvent}
use Rattle.gup_core.specs.Rest.{op_of_seat}
use Rattle.gup_core.proofs.Resting.{op_there}
use Rattle.gup_core.proofs.Taking.{stays, says_so, job_of_seat}
use Rattle.gup_op_waits.specs.Seats.{seat_behind}
use Rattle.gup_core.specs.Waking.{woken_of}
use Rattle.gup_core.specs.declared.outcome.Woken.{Woken}
use Rattle.gup_law_waits.specs.Woken.{wakes}
use Rattle.gup_op_base.specs.declared.jobs.JobPlace.{JobPlace}
use Rattle.gup_op_base.specs.Jobs.{place_of}
use Rattle.gup_spec_turns.specs.JobPlace.{place_in}

-- the actor has an operation, and doesn't wait
pub goes_so : (m : MachineValue) (a : ℕ) (seat : Seat) (op : Op) → slice_get m.seats a ≡ Some seat → op_of_seat m a seat ≡ Some op → ((r : RunState) → Shows m r → None ≡ waiting_in m.script r a) → CanGo m a
goes_so m a seat op here present ready r h =
    ap (λ o. is_ready o (waiting_in m.script r a)) (op_there m r a seat (Some op) h here present) ∙ ap (λ w. is_ready (Some op) w) (sym (ready r h))

-- a turn that changes nothing
pub still_taken : (m : MachineValue) (a : ℕ) (seat : Seat) (turns : ℕ) (what : What) → slice_get m.seats a ≡ Some seat → turns ≡ counted m.turns → IsStill m a what
    → TakesTurns m (machine_of m.script m.parts m.mirrors m.seats m.pool turns) a (notes_of_turn turns a (seat.answered + 1) (what ∷ []))
still_taken m a seat turns what here count still r h =
    let is = still r h in
    record {
      said = says_so m r a seat turns (record { events = []; whats = what ∷ [] }) (what ∷ []) h here count is.0 refl;
      shown = stays m r a seat turns what h here is.0 is.1;
      counts = count;
    }

-- the turn of an actor that waits changes nothing
waits_turn : (s : CoreState) (who : Doer) (far : ℕ) (op : Option Op) (waiting : Waiting) → waiting_with s who far op ≡ Some waiting → core_turn_by s who far op (waiting_with s who far op) ≡ record { events = []; whats = Wait waiting ∷ [] }
waits_turn s who far None waiting is = absurd (cc is)
waits_turn s who far (Some op) waiting is = ap (λ w. core_turn_by s who far (Some op) w) is

pub waits_still : (m : MachineValue) (a : ℕ) (waiting : Waiting) → WaitsFor m a waiting → IsStill m a (Wait waiting)
waits_still m a waiting waits r h = (waits_turn r.core (doer_of m.script a (op_in m.script r a)) (r.places a).far (op_in m.script r a) waiting (waits r h), refl)

-- nor does that of an actor that has finished
finished_at : (script : ScriptValue) (a : ℕ) (place : Place) → has_finished script a place ≡ true → length (ops_of script a) ≤ place.answered
finished_at script a place is = grind (arith, nat_tests)

pub finished_still : (m : MachineValue) (a : ℕ) → HasFinished m a → IsStill m a Idle
finished_still m a finished r h =
    let none : op_in m.script r a ≡ None = slice_get_past (ops_of m.script a) (r.places a).answered (finished_at m.script a (r.places a) (finished r h)) in
    (ap (λ o. core_turn_by r.core (doer_of m.script a o) (r.places a).far o (waiting_in m.script r a)) none, refl)

-- ---- whom it wakes

pub wakes_so : (m n : MachineValue) (a : ℕ) (seat next : Seat) (op : Op) (over : Bool) (job : JobPlace) (notes : List NoteValue) (woken : Woken)
    → slice_get m.seats a ≡ Some seat → op_of_seat m a seat ≡ Some op → next ≡ seat_behind seat op over job → slice_get n.seats a ≡ Some next
    → TakesTurns m n a notes → woken_of woken ≡ wakes (Some op) (place_of job) → MayWakeOf m a woken
wakes_so m n a seat next op over job notes woken here present next_is seated taken is r h =
    let stands : place_of job ≡ place_in (run_after m.script r a).core a =
    ap place_of (sym (job_of_seat seat op over job)) ∙ ap (λ (x : Seat). place_of x.job) (sym next_is) ∙ (taken r h).shown.jobs a next seated in
    is ∙ ap (λ o. wakes o (place_of job)) (sym (op_there m r a seat (Some op) h here present)) ∙ ap (λ p. wakes (op_in m.script r a) p) stands

-- ---- how many notes there are

whats_few : (event next : Option PlainEvent) (answer : Option Answer) → (1 ≤ length (whats_by event next answer)) × (length (whats_by event next answer) ≤ 3)
whats_few None None None = (omega arith, omega arith)
whats_few None None (Some answer) = (omega arith, omega arith)
whats_few None (Some next) None = (omega arith, omega arith)
whats_few None (Some next) (Some answer) = (omega arith, omega arith)
whats_few (Some event) None None = (omega arith, omega arith)
whats_few (Some event) None (Some answer) = (omega arith, omega arith)
whats_few (Some event) (Some next) None = (omega arith, omega arith)
whats_few (Some event) (Some next) (Some answer) = (omega arith, omega arith)

more_by : (was now : JournalValue) (turn actor number : ℕ) (whats : List What) → (1 ≤ length whats) × (length whats ≤ 3)
    → now.notes ≡ was.notes ++ notes_of_turn turn actor number whats → HasMore was now
more_by was now turn actor number whats few put =
    let many : length now.notes ≡ length was.notes + length whats =
    ap length put ∙ length-append was.notes (notes_of_turn turn actor number whats) ∙ ap (λ n. length was.notes + n) (length-map whats (note_of turn actor number)) in
    (omega (arith, many, few.0), omega (arith, many, few.1))

pub few_more : (was now : JournalValue) (turn actor number : ℕ) (said : Said) → now.notes ≡ was.notes ++ notes_of_turn turn actor number (whats_of said) → HasMore was now
few_more was now turn actor number said put = more_by was now turn actor number (whats_of said) (whats_few said.event said.next said.answer) put

pub one_more : (was now : JournalValue) (turn actor number : ℕ) (what : What) → now.notes ≡ was.notes ++ notes_of_turn turn actor number (what ∷ []) → HasMore was now
one_more was now turn actor number what put = more_by was now turn actor number (what ∷ []) (omega arith, omega arith) put
