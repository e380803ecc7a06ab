-- The turns of a run are in the script's order.
use Rattle.std.proofs.Common.{◌≡◌, ℕ, ◌<◌, ◌⊎◌, inl, inr, Bool, true, false, List, [], ◌∷◌, length, Option, Some, None, is_none, slice_get, nat_le, refl, sym, ap, ◌∙◌, subst, zero, suc, arith, rules}
use Rattle.std.proofs.Math.Dec.{leb-zero, leb-suc-zero, leb-suc-suc}
use Rattle.gup_script.specs.Valid.{IsScript}
use Rattle.gup_plain.specs.State.{PlainState, Birth, born}
use Rattle.gup_plain.specs.declared.answer.Answer.TheVariants as answers
use Rattle.gup_plain.specs.declared.event.PlainEvent.TheVariants as events
use Rattle.gup_plain.specs.declared.note.What.{What}
use Rattle.gup_plain.specs.declared.note.What.TheVariants.{Wait, Event, Done}
use Rattle.gup_plain.specs.declared.note.Waiting.{Waiting}
use Rattle.gup_plain.specs.declared.note.Waiting.TheVariants as waitings
use Rattle.gup_script.specs.Script.{ScriptValue}
use Rattle.gup_script.specs.declared.op.Op.{Op}
use Rattle.gup_script.specs.declared.op.Op.TheVariants.{Fork}
use Rattle.gup_spec_events.specs.State.{plain_of}
use Rattle.gup_spec_journal.specs.Denial.{References}
use Rattle.gup_spec_journal.specs.Order.{Turn, Ordered, Moves, IsWrittenTurn, IsOverAt, IsOver, IsPassed, MayHold, MayNeedLock, IsPointedTurn, IsNextTurn, AreInOrder, behind_by, written_turn, waiting_at, waiting_of, finished_in, handle_waits}
use Rattle.gup_spec_journal.specs.Place.{Place, Doer, birth_for, ops_of, doer_of}
use Rattle.gup_spec_turns.specs.JobPlace.{JobPlace}
use Rattle.gup_spec_turns.proofs.TurnParts.{waits_at}
use Rattle.gup_spec_turns.specs.Waits.{waits_born, first_waiting}
use Rattle.gup_spec_turns.specs.Run.{RunState, Runs, next_actor, next_by, written_in, turn_in, run_after, op_in, waiting_with, waiting_in, core_turn_in, is_ready, can_go}
use Rattle.gup_law_journal.proofs.LockHolders.{IsKeeper, locks_of, needs_lock, waits_for_keeper, no_keeper}
use Rattle.gup_law_turns.proofs.ScriptLemmas.{has_ops_declared}
use Rattle.gup_law_journal.proofs.Pointer.{PointerFits, IsFirstToGo, pointed_some, none_can_go, pointer_fits}
use Rattle.gup_law_turns.proofs.Puts.{some_same}
use Rattle.gup_law_turns.proofs.TurnShapes.{TurnOf, refused, walked, refused_slowly, WalksTo, found_fork, TurnAt, idles, waits, goes, unborn_refused, unborn_fork}
use Rattle.gup_spec_events.specs.State.{WalkStep}
use Rattle.gup_law_turns.proofs.StandingTurns.{stands_on, same_plain}
use Rattle.gup_law_turns.proofs.StandingStates.{Stands}
use Rattle.gup_law_turns.proofs.TurnSteps.{taken}
use Rattle.gup_law_turns.proofs.EventLists.{Law}

-- an actor has finished where it has no operation after those that it has answered
pub finished_is : (ops : List Op) (k : ℕ) → nat_le (length ops) k ≡ is_none (slice_get ops k)
finished_is [] k = leb-zero k
finished_is (op ∷ ops) zero = leb-suc-zero (length ops)
finished_is (op ∷ ops) (suc k) = leb-suc-suc (length ops) k ∙ finished_is ops k

-- a turn of a walk has one note
walk_moves : {s : PlainState} {who : Doer} {page n got : ℕ} {write : Bool} {sequence : ℕ} {step : WalkStep} {whats : List What} {to : JobPlace} → WalksTo s who page n got write sequence step whats to → Moves whats
walk_moves found_fork = (omega arith, omega arith, (refl, tt))
walk_moves turn = (omega arith, omega arith, search rules)

-- a turn of an operation has one to three notes of it
pub op_moves : {s : PlainState} {references : References} {who : Doer} {place : Place} {op : Op} {from to : JobPlace} {whats : List What} → TurnOf s references who place op from whats to → Moves whats
op_moves (refused op answer first refusal at_once slow right passes) = (omega arith, omega arith, (refl, tt))
op_moves (walked handle page n want sequence step whats to walks room free) = walk_moves walks
op_moves (refused_slowly handle page n want answer begun none refusal living at_once right) = (omega arith, omega arith, (refl, tt))
op_moves turn = (omega arith, omega arith, search rules)

-- so has one of an operation whose process failed
pub refusal_moves : Moves (Done answers.Unborn ∷ [])
refusal_moves = (omega arith, omega arith, (refl, tt))

pub failure_moves : (child : ℕ) → Moves (Event (events.ForkFail child) ∷ Done answers.Unborn ∷ [])
failure_moves child = (omega arith, omega arith, (refl, (refl, tt)))

-- The order sees what an actor waits for, unless it waits for one that may hold a lock.
abbrev pub SeesWaiting : (holder : ℕ → Type 0) (seen waiting : Option Waiting) → Type 0
SeesWaiting holder seen waiting =
    (seen ≡ waiting) ⊎ ((seen ≡ None) × (b : ℕ) × holder b × (waiting ≡ Some (waitings.Holder b)))

-- what the order sees of an actor: that it has no operation left, and what it waits for if it has one
pub record Sees (finished : Bool) (holder : ℕ → Type 0) (seen : Option Waiting) (op : Option Op) (waiting : Option Waiting) : Type 0 where
  pub finishes : finished ≡ is_none op
  pub waits_so : (o : Op) → op ≡ Some o → SeesWaiting holder seen waiting

wait_written : (holder : ℕ → Type 0) (seen : Option Waiting) (waiting : Waiting) → SeesWaiting holder seen (Some waiting) → IsWrittenTurn false seen holder (Wait waiting ∷ [])
wait_written holder seen waiting (inl same) = rw same refl
wait_written holder seen waiting (inr (none, b, holds, is)) =
    rw none (inr (b, holds, ap (λ (w : Waiting). Wait w ∷ []) (some_same is)))

free_written : (holder : ℕ → Type 0) (seen : Option Waiting) (whats : List What) → SeesWaiting holder seen None → Moves whats → IsWrittenTurn false seen holder whats
free_written holder seen whats (inl same) moves = rw same (inl moves)
free_written holder seen whats (inr (none, b, holds, is)) moves = absurd (cc is)

written_right : {s : PlainState} {references : References} {who : Doer} {place : Place} {op : Option Op} {waiting : Option Waiting} {from to : JobPlace} {whats : List What} {finished : Bool} {holder : ℕ → Type 0} {seen : Option Waiting} → TurnAt s references who place op waiting from whats to → Sees finished holder seen op waiting → IsWrittenTurn finished seen holder whats
written_right (idles waiting at) h = rw h.finishes refl
written_right {holder = holder} {seen = seen} (waits op waiting at) h = rw h.finishes (wait_written holder seen waiting (h.waits_so op refl))
written_right {holder = holder} {seen = seen} (goes op whats from to birth own turn) h = rw h.finishes (free_written holder seen whats (h.waits_so op refl) (op_moves turn))
written_right {holder = holder} {seen = seen} (unborn_refused op birth first refusal) h =
    rw h.finishes (free_written holder seen (Done answers.Unborn ∷ []) (h.waits_so op refl) refusal_moves)
written_right {holder = holder} {seen = seen} (unborn_fork child birth fails first) h =
    rw h.finishes (free_written holder seen (Event (events.ForkFail child) ∷ Done answers.Unborn ∷ []) (h.waits_so (Fork child) refl) (failure_moves child))

-- the turn of an actor that can go moves it on
goes_moves : {s : PlainState} {references : References} {who : Doer} {place : Place} {op : Option Op} {waiting : Option Waiting} {from to : JobPlace} {whats : List What} → TurnAt s references who place op waiting from whats to → is_ready op waiting ≡ true → Moves whats
goes_moves (idles waiting at) is = absurd (cc is)
goes_moves (waits op waiting at) is = absurd (cc is)
goes_moves (goes op whats from to birth own turn) is = op_moves turn
goes_moves (unborn_refused op birth first refusal) is = refusal_moves
goes_moves (unborn_fork child birth fails first) is = failure_moves child

-- an actor that can't go has finished or waits for its process or for a pin, or waits for one that may hold a lock
passed_over : (op : Option Op) (waiting : Option Waiting) {finished : Bool} {holder : ℕ → Type 0} {seen : Option Waiting} → Sees finished holder seen op waiting → is_ready op waiting ≡ false → IsOverAt finished seen ⊎ ((b : ℕ) × holder b × (waiting ≡ Some (waitings.Holder b)))
passed_over None waiting h is = inl (rw h.finishes tt)
passed_over (Some op) (Some w) {finished = finished} {holder = holder} {seen = seen} h is = go (h.waits_so op refl)
  where
    go : SeesWaiting holder seen (Some w) → IsOverAt finished seen ⊎ ((b : ℕ) × holder b × (Some w ≡ Some (waitings.Holder b)))
    go (inl same) = inl (rw (h.finishes, same) tt)
    go (inr (none, b, holds, is)) = inr (b, holds, is)
passed_over (Some op) None h is = absurd (cc is)

-- one that can go has not finished, and waits for nothing
goes_on : (op : Option Op) (waiting : Option Waiting) {finished : Bool} {holder : ℕ → Type 0} {seen : Option Waiting} → Sees finished holder seen op waiting → is_ready op waiting ≡ true → (finished ≡ false) × (seen ≡ None)
goes_on None waiting h is = absurd (cc is)
goes_on (Some op) (Some w) h is = absurd (cc is)
goes_on (Some op) None {holder = holder} {seen = seen} h is = (h.finishes, go (h.waits_so op refl))
  where
    go : SeesWaiting holder seen None → seen ≡ None
    go (inl same) = same
    go (inr (none, b, holds, is)) = none

-- what a run has led to, as the judge of the order sees it
abbrev pub ordered_of : RunState → Ordered
ordered_of r = record { plain = plain_of r.core; places = r.places; pointer = r.pointer; turns = r.turns }

module _ (script : ScriptValue) (valid : IsScript script) (r : RunState) (h : Stands script r) where
  -- one that is in the middle of an operation which keeps a lock of this actor's process may hold one of it
  may_hold : (a b : ℕ) → MayNeedLock (op_in script r a) → (a ≡ b → ⊥) → IsKeeper script r b (doer_of script a (op_in script r a)).proc → MayHold script (ordered_of r) a b
  may_hold a b needs apart keeper = (apart, keeper.of, keeper.begun, keeper.keeps, needs)

  -- once its process is born, and its pin given to it, an actor waits only for such a one
  sees_locks : (a : ℕ) (op : Op) → op_in script r a ≡ Some op → (locks : Option Waiting) → locks_of script r h a op ≡ locks → SeesWaiting (MayHold script (ordered_of r) a) None locks
  sees_locks a op present None is = inl refl
  sees_locks a op present (Some waiting) is =
      let keeper = waits_for_keeper script r h a op waiting is in
      let p = (doer_of script a (Some op)).proc in
      let needs : MayNeedLock (op_in script r a) = subst MayNeedLock (sym present) (needs_lock r.core a p (r.places a).far op (r.core.structure p) (r.core.table p) waiting is) in
      let here : IsKeeper script r keeper.0 (doer_of script a (op_in script r a)).proc = subst (λ (o : Option Op). IsKeeper script r keeper.0 (doer_of script a o).proc) (sym present) keeper.3 in
      inr (refl, keeper.0, may_hold a keeper.0 needs keeper.2 here, ap (λ (w : Waiting). Some w) keeper.1)

  sees_born : (a : ℕ) (op : Op) → op_in script r a ≡ Some op → (given : Option Waiting) → SeesWaiting (MayHold script (ordered_of r) a) given (first_waiting given (locks_of script r h a op))
  sees_born a op present (Some waiting) = inl refl
  sees_born a op present None = sees_locks a op present (locks_of script r h a op) refl

  sees_waiting : (a : ℕ) (op : Op) → op_in script r a ≡ Some op → (b : Birth) → SeesWaiting (MayHold script (ordered_of r) a) (waiting_at (doer_of script a (Some op)).proc b (handle_waits r.core.handle a (Some op))) (waits_at b (doer_of script a (Some op)).proc (waits_born r.core a (doer_of script a (Some op)).proc (r.places a).far op))
  sees_waiting a op present born = sees_born a op present (handle_waits r.core.handle a (Some op))
  sees_waiting a op present birth = inl refl

  pub sees : (a : ℕ) → Sees (finished_in script (ordered_of r) a) (MayHold script (ordered_of r) a) (waiting_of script (ordered_of r) a) (op_in script r a) (waiting_in script r a)
  sees a =
      let seen : Option Op → Option Waiting = λ o. waiting_at (doer_of script a o).proc (birth_for r.core.birth (doer_of script a o)) (handle_waits r.core.handle a o) in
      record {
        finishes = finished_is (ops_of script a) (r.places a).answered;
        waits_so = λ o is. subst (λ (x : Option Op). SeesWaiting (MayHold script (ordered_of r) a) (seen x) (waiting_with r.core (doer_of script a x) (r.places a).far x)) (sym is) (sees_waiting a o is (birth_for r.core.birth (doer_of script a (Some o))));
      }

  turn_written : (a : ℕ) → IsWrittenTurn (finished_in script (ordered_of r) a) (waiting_of script (ordered_of r) a) (MayHold script (ordered_of r) a) (core_turn_in script r a).whats
  turn_written a = written_right (taken script valid r h a).shape (sees a)

  pub is_passed : (a : ℕ) → can_go script r a ≡ false → IsPassed script (ordered_of r) a
  is_passed a is = elim (passed_over (op_in script r a) (waiting_in script r a) (sees a) is) [ inl over ↦ inl over | inr held ↦ inr (held.0, held.1) ]

  is_pointed : (a : ℕ) → IsFirstToGo script r (length script.actors) r.pointer a → IsPointedTurn script (ordered_of r) (turn_in script r a)
  is_pointed a found =
      let free = goes_on (op_in script r a) (waiting_in script r a) (sees a) found.4 in
      record {
        steps = found.0;
        fewer = found.1;
        actor = found.2;
        passed = λ k less. is_passed (behind_by (length script.actors) k r.pointer) (found.3 k less);
        unfinished = free.0;
        unwaiting = free.1;
        moves = goes_moves (taken script valid r h a).shape found.4;
      }

  -- where no actor can go, none is in the middle of an operation that keeps a lock: a move could, and a fork waits at most for one
  no_holder : ((b : ℕ) → b < length script.actors → can_go script r b ≡ false) → (a b : ℕ) → MayHold script (ordered_of r) a b → ⊥
  no_holder over a b holds = no_keeper script r h (λ k op is. over k (has_ops_declared script k (r.places k).answered op is)) b holds.3 holds.2

  -- so none waits for another one
  pub is_over : ((b : ℕ) → b < length script.actors → can_go script r b ≡ false) → (a : ℕ) → can_go script r a ≡ false → IsOver script (ordered_of r) a
  is_over none a is = elim (passed_over (op_in script r a) (waiting_in script r a) (sees a) is) [ inl over ↦ over | inr held ↦ absurd (no_holder none a held.0 held.1) ]

  next_by_right : (written : Option ℕ) (a : ℕ) → next_by script r written ≡ Some a → IsNextTurn script (ordered_of r) written (turn_in script r a)
  next_by_right (Some w) a is = (sym (some_same is), turn_written a)
  next_by_right None a is = is_pointed a (pointed_some script r (length script.actors) r.pointer a is)

  pub next_right : (a : ℕ) → next_actor script r ≡ Some a → IsNextTurn script (ordered_of r) (written_turn script (ordered_of r)) (turn_in script r a)
  next_right a is = next_by_right (written_in script r) a is

-- the turns of a run are in order
pub order_run : Law → (script : ScriptValue) → IsScript script → (turns : List Turn) (r end : RunState) → Stands script r → PointerFits script r → Runs script r turns end → AreInOrder script (ordered_of r) turns
order_run law script valid [] r end h fits run =
    let over = none_can_go script r fits run.0 in
    (over.0, λ a below. is_over script valid r h over.1 a (over.1 a below))
order_run law script valid (turn ∷ turns) r end h fits run =
    let a = turn.actor in
    let next = run_after script r a in
    let later = order_run law script valid turns next end (stands_on law script valid r h a) (pointer_fits script r a fits run.0) run.2 in
    let after = subst (λ (s : PlainState). AreInOrder script (record { plain = s; places = next.places; pointer = next.pointer; turns = next.turns }) turns) (same_plain law script valid r h a) later in
    subst (λ (t : Turn). AreInOrder script (ordered_of r) (t ∷ turns)) (sym run.1) (next_right script valid r h a run.0, after)
