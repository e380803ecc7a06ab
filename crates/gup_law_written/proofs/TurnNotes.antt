-- The notes of turns that are in order: their actor is declared, and so is what it waits for.
use Rattle.std.proofs.Common.{◌≡◌, ℕ, ◌+◌, ◌<◌, inl, inr, Bool, true, false, List, [], ◌∷◌, length, Option, Some, None, slice_get, refl, sym, ◌∙◌, subst, arith}
use Rattle.std.specs.List.{AllByRecursion}
use Rattle.gup_plain.specs.Note.{NoteValue}
use Rattle.gup_plain.specs.State.{Birth, born, failed, Handle}
use Rattle.gup_plain.specs.declared.note.What.{What}
use Rattle.gup_plain.specs.declared.note.What.TheVariants.{Wait}
use Rattle.gup_plain.specs.declared.note.Waiting.{Waiting}
use Rattle.gup_script.specs.Script.{ScriptValue, actor_at, ops_of}
use Rattle.gup_script.specs.Valid.{IsScript, AreDeclared}
use Rattle.gup_script.specs.declared.op.Op.{Op}
use Rattle.gup_script.specs.declared.op.Op.TheVariants.{Take}
use Rattle.gup_spec_journal.specs.Follows.{notes_of_turn}
use Rattle.gup_spec_journal.specs.Order.{Turn, Ordered, places_behind, journal_of, is_given_to, taking_waits, handle_waits, waiting_at, waiting_of, finished_in, KeepsLock, MayHold, AreOfOperation, IsWrittenTurn, IsNextTurn, pointer_after, written_turn, ordered_after, AreInOrder, ordered_first, InOrder}
use Rattle.gup_spec_journal.specs.Place.{Doer, doer_of, birth_by, birth_for, present_op}
use Rattle.gup_spec_trace.specs.Written.{IsActor, IsWaiting}
use Rattle.gup_law_journal.proofs.Pointer.{behind_below, behind_by_below}
use Rattle.gup_law_turns.proofs.Puts.{some_same}
use Rattle.gup_law_turns.proofs.ScriptLemmas.{all_at, ops_at, has_ops_declared, has_process, op_has_process}
use Rattle.gup_law_written.proofs.EachNote.{each_append}

-- what is waited for is declared
abbrev pub WaitsFor : ScriptValue → What → Type 0
WaitsFor s (Wait waiting) = IsWaiting s waiting
WaitsFor s what = Unit {0}

abbrev pub IsTold : ScriptValue → NoteValue → Type 0
IsTold s note = IsActor s note.actor × WaitsFor s note.what

turn_told : (s : ScriptValue) (number a op : ℕ) (whats : List What) → IsActor s a → AllByRecursion (WaitsFor s) whats → AllByRecursion (IsTold s) (notes_of_turn number a op whats)
turn_told s number a op [] there wait = tt
turn_told s number a op (what ∷ whats) there wait = ((there, wait.0), turn_told s number a op whats there wait.1)

-- whoever goes on waits for nothing
no_wait : (s : ScriptValue) (whats : List What) → AreOfOperation whats → AllByRecursion (WaitsFor s) whats
no_wait s [] of = tt
no_wait s (Wait waiting ∷ whats) of = absurd (cc of.0)
no_wait s (what ∷ whats) of = (tt, no_wait s whats of.1)

-- the handle of a take is declared
handle_declared : (s : ScriptValue) → IsScript s → (handle : ℕ → Handle) (a k : ℕ) (op : Option Op) (waiting : Waiting) → slice_get (ops_of s a) k ≡ op → handle_waits handle a op ≡ Some waiting → IsWaiting s waiting
handle_declared s valid handle a k (Some (Take h)) waiting there is =
    of_take (is_given_to (handle h) a) (ops_at (AreDeclared s) s valid.declared a k (Take h) (actor_at s a) refl there) is
  where
    of_take : (given : Bool) → h < length s.handles → taking_waits given h ≡ Some waiting → IsWaiting s waiting
    of_take true within is = absurd (cc is)
    of_take false within is = subst (IsWaiting s) (some_same is) within
handle_declared s valid handle a k op waiting there is = absurd (cc is)

-- the process that an operation is of is declared
process_declared : (s : ScriptValue) → IsScript s → (a k : ℕ) (op : Option Op) → slice_get (ops_of s a) k ≡ op → (doer_of s a op).of_process ≡ true → (doer_of s a op).proc < length s.processes
process_declared s valid a k None there of = has_process s valid a of
process_declared s valid a k (Some op) there of = op_has_process s valid a k op there of

-- who waits for the birth of a process is of one
of_process : (test : Bool) (birth : Birth) → (birth_by test birth ≡ born → ⊥) → test ≡ true
of_process true birth unlike = refl
of_process false birth unlike = absurd (unlike refl)

waiting_declared : (s : ScriptValue) → IsScript s → (births : ℕ → Birth) (handle : ℕ → Handle) (a k : ℕ) (op : Option Op) (waiting : Waiting) (birth : Birth) → slice_get (ops_of s a) k ≡ op → birth_for births (doer_of s a op) ≡ birth → waiting_at (doer_of s a op).proc birth (handle_waits handle a op) ≡ Some waiting → IsWaiting s waiting
waiting_declared s valid births handle a k op waiting born there now is = handle_declared s valid handle a k op waiting there is
waiting_declared s valid births handle a k op waiting failed there now is = absurd (cc is)
waiting_declared s valid births handle a k op waiting birth there now is =
    let who : Doer = doer_of s a op in
    subst (IsWaiting s) (some_same is) (process_declared s valid a k op there (of_process who.of_process (births who.proc) (λ yes. absurd (cc (sym now ∙ yes)))))

-- so is an actor that keeps a lock
holder_declared : (s : ScriptValue) (b k : ℕ) (op : Option Op) → slice_get (ops_of s b) k ≡ op → KeepsLock op → IsActor s b
holder_declared s b k None there keeps = absurd keeps
holder_declared s b k (Some op) there keeps = has_ops_declared s b k op there

-- a written turn

written_waits : (s : ScriptValue) (finished : Bool) (waiting : Option Waiting) (Holder : ℕ → Type 0) (whats : List What) → ((w : Waiting) → waiting ≡ Some w → IsWaiting s w) → ((b : ℕ) → Holder b → IsActor s b) → IsWrittenTurn finished waiting Holder whats → AllByRecursion (WaitsFor s) whats
written_waits s true waiting Holder whats waits holds is = subst (AllByRecursion (WaitsFor s)) (sym is) (tt, tt)
written_waits s false (Some w) Holder whats waits holds is = subst (AllByRecursion (WaitsFor s)) (sym is) (waits w refl, tt)
written_waits s false None Holder whats waits holds (inl moves) = no_wait s whats moves.2
written_waits s false None Holder whats waits holds (inr held) = subst (AllByRecursion (WaitsFor s)) (sym held.2) (holds held.0 held.1, tt)

-- the pointer is an actor, where there are any
abbrev Points : ScriptValue → (pointer : ℕ) → Type 0
Points s pointer = 0 < length s.actors → pointer < length s.actors

abbrev TurnTold : ScriptValue → Turn → Type 0
TurnTold s turn = IsActor s turn.actor × AllByRecursion (WaitsFor s) turn.whats

next_told : (s : ScriptValue) → IsScript s → (o : Ordered) (turn : Turn) (written : Option ℕ) → Points s o.pointer → written_turn s o ≡ written → IsNextTurn s o written turn → TurnTold s turn
next_told s valid o turn (Some written) points there is =
    let a : ℕ = turn.actor in
    let op : Option Op = present_op s a (o.places a) in
    let waits : (w : Waiting) → waiting_of s o a ≡ Some w → IsWaiting s w =
    λ w waiting. waiting_declared s valid o.plain.birth o.plain.handle a (o.places a).answered op w (birth_for o.plain.birth (doer_of s a op)) refl refl waiting in
    let holds : (b : ℕ) → MayHold s o a b → IsActor s b =
    λ b may. holder_declared s b (o.places b).answered (present_op s b (o.places b)) refl may.3 in
    (subst (IsActor s) (sym is.0) (all_at (IsActor s) s.turns o.turns written valid.turns there), written_waits s (finished_in s o a) (waiting_of s o a) (MayHold s o a) turn.whats waits holds is.1)
next_told s valid o turn None points there is =
    let some : 0 < length s.actors = (let fewer : is.steps < length s.actors = is.fewer in omega arith) in
    (subst (IsActor s) (sym is.actor) (behind_by_below (length s.actors) is.steps o.pointer (points some)), no_wait s turn.whats is.moves.2)

points_on : (s : ScriptValue) (pointer : ℕ) (written : Option ℕ) (a : ℕ) → IsActor s a → Points s pointer → Points s (pointer_after (length s.actors) pointer written a)
points_on s pointer (Some written) a there points = points
points_on s pointer None a there points = λ some. behind_below (length s.actors) a there

journal_told : (s : ScriptValue) → IsScript s → (o : Ordered) (number : ℕ) (turns : List Turn) → Points s o.pointer → AreInOrder s o turns → AllByRecursion (IsTold s) (journal_of number o.places turns)
journal_told s valid o number [] points are = tt
journal_told s valid o number (turn ∷ turns) points are =
    let now : TurnTold s turn = next_told s valid o turn (written_turn s o) points refl are.0 in
    each_append (IsTold s) (notes_of_turn number turn.actor ((o.places turn.actor).answered + 1) turn.whats) (journal_of (number + 1) (places_behind o.places turn) turns)
    (turn_told s number turn.actor ((o.places turn.actor).answered + 1) turn.whats now.0 now.1)
    (journal_told s valid (ordered_after s o turn) (number + 1) turns (points_on s o.pointer (written_turn s o) turn.actor now.0 points) are.1)

pub notes_told : (s : ScriptValue) → IsScript s → (notes : List NoteValue) → InOrder s notes → AllByRecursion (IsTold s) notes
notes_told s valid notes order =
    subst (AllByRecursion (IsTold s)) (sym order.1) (journal_told s valid (ordered_first s) 1 order.0 (λ some. some) order.2)
