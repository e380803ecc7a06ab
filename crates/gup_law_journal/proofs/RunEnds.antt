-- The end of a run: nobody can go, and who waits, waits for a process or for a pin.
use Rattle.std.proofs.Common.{◌≡◌, ℕ, ◌+◌, ◌<◌, Bool, true, false, is_some, List, [], ◌∷◌, length, slice_get, Option, Some, None, inl, inr, refl, sym, ap, subst, ◌∙◌, not, ◌&&◌, ◌==◌}
use Rattle.std.specs.Prelude.{◌⊎◌}
use Rattle.gup_base.specs.declared.entry.Want.{Want}
use Rattle.gup_base.specs.declared.entry.Zone.{Zone}
use Rattle.gup_spec_turns.specs.PinPlace.{StandsAtPage}
use Rattle.gup_law_journal.proofs.LockHolders.{Keeps, keeps_none, keeps_idle, own_locks}
use Rattle.gup_plain.specs.State.{Birth, born, unborn, growing, failed, Handle}
use Rattle.gup_plain.specs.declared.note.Waiting.{Waiting}
use Rattle.gup_plain.specs.declared.note.Waiting.TheVariants as waitings
use Rattle.gup_script.specs.declared.op.Op.{Op}
use Rattle.gup_script.specs.declared.op.Op.TheVariants.{Pin, Take, Move, Fork}
use Rattle.gup_script.specs.Script.{ScriptValue, actor_at}
use Rattle.gup_script.specs.Valid.{IsScript, AreDeclared}
use Rattle.gup_spec_events.specs.State.{Job, idle, moving, walking, forking, ForkStep, between, counted, copying}
use Rattle.gup_law_base.specs.Sound.{Forking, forking_of, keeps_table, keeps_structure}
use Rattle.gup_spec_journal.specs.Order.{Turn, is_given_to, taking_waits, handle_waits}
use Rattle.gup_spec_journal.specs.Place.{Doer, doer, doer_of, birth_by, birth_for, ops_of, process_of}
use Rattle.gup_spec_turns.specs.Cause.{WaitsForBirthOrPin}
use Rattle.gup_law_turns.specs.Standing.{IsStanding}
use Rattle.gup_spec_turns.specs.JobPlace.{KeepsNoJob, StandsMove, StandsFork}
use Rattle.gup_spec_turns.specs.Run.{RunState, Runs, run_after, op_in, waiting_with, waiting_in, is_ready, can_go}
use Rattle.gup_spec_turns.specs.Waits.{Locks, move_locks, fork_locks, pin_locks, locks_needed, held_by_other, waits_for_lock, first_waiting, waits_for_locks, waits_born, waiting_for}
use Rattle.gup_spec_turns.proofs.TurnParts.{waits_at}
use Rattle.gup_spec_turns.specs.ForkTurns.{next_page}
use Rattle.gup_law_journal.proofs.Pointer.{PointerFits, none_can_go, pointer_fits}
use Rattle.gup_law_turns.proofs.ScriptLemmas.{has_ops_declared, ops_at, op_has_process}

pub end_turns : (script : ScriptValue) (turns : List Turn) (r end : RunState) → PointerFits script r → Runs script r turns end → (a : ℕ) → a < length script.actors → can_go script end a ≡ false
end_turns script [] r end fits run a below =
    subst (λ (s : RunState). can_go script s a ≡ false) run.1 ((none_can_go script r fits run.0).1 a below)
end_turns script (turn ∷ turns) r end fits run a below =
    end_turns script turns (run_after script r turn.actor) end (λ some. pointer_fits script r turn.actor fits run.0 some) run.2 a below

same_waiting : {x y : Waiting} → Some x ≡ Some y → x ≡ y
same_waiting is = cc

-- whoever waits for a lock, waits for the actor that holds it
abbrev IsHolder : (structure table : Option ℕ) → (b : ℕ) → Type 0
IsHolder structure table b = (structure ≡ Some b) ⊎ (table ≡ Some b)

held_waits : (a : ℕ) (holder : Option ℕ) (w : Waiting) → held_by_other a holder ≡ Some w → (b : ℕ) × (holder ≡ Some b)
held_waits a None w is = absurd (cc is)
held_waits a (Some b) w is = (b, refl)

lock_waits : (needed : Bool) (a : ℕ) (holder : Option ℕ) (w : Waiting) → waits_for_lock needed a holder ≡ Some w → (b : ℕ) × (holder ≡ Some b)
lock_waits true a holder w is = held_waits a holder w is
lock_waits false a holder w is = absurd (cc is)

locks_wait : (locks : Locks) (a : ℕ) (structure table : Option ℕ) (w : Waiting) → waits_for_locks locks a structure table ≡ Some w → (b : ℕ) × IsHolder structure table b
locks_wait locks a structure table w is = go (waits_for_lock locks.structure a structure) refl is
  where
    go : (first : Option Waiting) → waits_for_lock locks.structure a structure ≡ first → first_waiting first (waits_for_lock locks.table a table) ≡ Some w → (b : ℕ) × IsHolder structure table b
    go None none second =
        let holds = lock_waits locks.table a table w second in
        (holds.0, inr holds.1)
    go (Some v) first same =
        let holds = lock_waits locks.structure a structure v first in
        (holds.0, inl holds.1)

-- whoever is of a born process waits for no birth
born_for : (who : Doer) (births : ℕ → Birth) → births who.proc ≡ born → birth_for births who ≡ born
born_for who births is = go who.of_process
  where
    go : (t : Bool) → birth_by t (births who.proc) ≡ born
    go true = is
    go false = refl

-- and whatever waits for one is of a process
waits_as_thread : (who : Doer) (births : ℕ → Birth) → (birth_for births who ≡ born → ⊥) → who.of_process ≡ true
waits_as_thread who births never = go who.of_process never
  where
    go : (t : Bool) → (birth_by t (births who.proc) ≡ born → ⊥) → t ≡ true
    go true never = refl
    go false never = absurd (never refl)

-- only a take waits for a pin
taking_waits_for : (given : Bool) (handle : ℕ) (w : Waiting) → taking_waits given handle ≡ Some w → w ≡ waitings.Handle handle
taking_waits_for true handle w is = absurd (cc is)
taking_waits_for false handle w is = sym (same_waiting is)

waits_to_take : (handle : ℕ → Handle) (a : ℕ) (op : Op) (w : Waiting) → handle_waits handle a (Some op) ≡ Some w → (h : ℕ) × (op ≡ Take h) × (w ≡ waitings.Handle h)
waits_to_take handle a (Take h) w is = (h, refl, taking_waits_for (is_given_to (handle h) a) h w is)
waits_to_take handle a op w is = absurd (cc is)

-- and of a pin of the script
handle_declared : (script : ScriptValue) → IsScript script → (a k h : ℕ) → slice_get (ops_of script a) k ≡ Some (Take h) → h < length script.handles
handle_declared script valid a k h there = ops_at (AreDeclared script) script valid.declared a k (Take h) (actor_at script a) refl there

-- the operations that keep a lock
data IsKeeping : Op → Type 0 where
  forks : (child : ℕ) → IsKeeping (Fork child)
  moves : (proc page : ℕ) (zone : Zone) → IsKeeping (Move proc page zone)
  pins : (handle page n : ℕ) (want : Want) (fast : Bool) → IsKeeping (Pin handle page n want fast)

module _ (script : ScriptValue) (r : RunState) (h : IsStanding script r) (stuck : (a : ℕ) → a < length script.actors → can_go script r a ≡ false) where
  -- an actor that keeps a lock forks, moves or pins
  keeper_op : (b : ℕ) → (r.core.job b ≡ idle → ⊥) → (op : Op) × (op_in script r b ≡ Some op) × IsKeeping op
  keeper_op b busy = go (op_in script r b) refl
    where
      jobless : (o : Option Op) → op_in script r b ≡ o → KeepsNoJob o → ⊥
      jobless o is none = busy (h.idle_jobs b (subst KeepsNoJob (sym is) none))

      go : (o : Option Op) → op_in script r b ≡ o → (op : Op) × (op_in script r b ≡ Some op) × IsKeeping op
      go (Some (Fork child)) is = (Fork child, is, forks child)
      go (Some (Move proc page zone)) is = (Move proc page zone, is, moves proc page zone)
      go (Some (Pin handle page n want fast)) is = (Pin handle page n want fast, is, pins handle page n want fast)
      go o is = absurd (jobless o is tt)

  -- none that waits for nothing is stuck
  free_goes : (b : ℕ) (op : Op) → op_in script r b ≡ Some op → waiting_for r.core (doer_of script b (Some op)) (r.places b).far op ≡ None → ⊥
  free_goes b op is free =
      let waiting : waiting_in script r b ≡ None = ap (λ (o : Option Op). waiting_with r.core (doer_of script b o) (r.places b).far o) is ∙ free in
      let ready : can_go script r b ≡ true = ap (λ (o : Option Op). is_ready o (waiting_in script r b)) is ∙ ap (is_ready (Some op)) waiting in
      cc (sym (stuck b (has_ops_declared script b (r.places b).answered op is)) ∙ ready)

  -- a move in the middle waits for nobody
  move_goes : (b proc page : ℕ) (zone : Zone) (job : Job) → op_in script r b ≡ Some (Move proc page zone) → r.core.job b ≡ job → StandsMove r.core b proc page zone job → (job ≡ idle → ⊥) → ⊥
  move_goes b proc page zone idle there is stands busy = busy refl
  move_goes b proc page zone (moving q g e allowed count) there is stands busy =
      let birth : r.core.birth proc ≡ born = stands.4.birth in
      free_goes b (Move proc page zone) there
      (ap (λ (x : Birth). waits_at x proc (waits_for_locks (move_locks (r.core.job b)) b (r.core.structure proc) (r.core.table proc))) birth
      ∙ ap (λ (j : Job). waits_for_locks (move_locks j) b (r.core.structure proc) (r.core.table proc)) is)
  move_goes b proc page zone job there is stands busy = stands

  -- nor does a pin in the middle of a page
  pin_goes : (b handle page n : ℕ) (want : Want) (fast : Bool) (job : Job) → op_in script r b ≡ Some (Pin handle page n want fast) → r.core.job b ≡ job → StandsAtPage r.core b (process_of script b) (page + length (r.core.taken b)) n (length (r.core.taken b)) want fast job → (q : ℕ) → Keeps job q → ⊥
  pin_goes b handle page n want fast idle there is stands k keeps = keeps_none keeps
  pin_goes b handle page n want fast (walking q write long sequence step) there is stands k keeps = keeps_none keeps
  pin_goes b handle page n want fast (moving q g e allowed count) there is stands k keeps =
      let p : ℕ = process_of script b in
      let far : ℕ = (r.places b).far in
      let at = stands.4 in
      free_goes b (Pin handle page n want fast) there
      (ap (λ (x : Birth). waits_at x p (waits_for_locks (pin_locks fast far (r.core.job b)) b (r.core.structure p) (r.core.table p))) (born_for (doer script b) r.core.birth at.moving.birth)
      ∙ ap (λ (j : Job). waits_for_locks (pin_locks fast far j) b (r.core.structure p) (r.core.table p)) is
      ∙ own_locks b (not (fast && far == 0)) (r.core.structure p) (r.core.table p) at.unforked at.moving.locked)
  pin_goes b handle page n want fast job there is stands k keeps = stands

  -- nor does a fork that needs no table lock, or finds it free
  module _ (b child : ℕ) (there : op_in script r b ≡ Some (Fork child)) where
    abbrev p : ℕ
    p = process_of script b

    is_born : (q c : ℕ) (done : List ℕ) (step : ForkStep) → r.core.job b ≡ forking q c done step → q ≡ p → birth_for r.core.birth (doer script b) ≡ born
    is_born q c done step is own =
        let k : Forking = record { proc = q; child = c; done = done; step = step } in
        born_for (doer script b) r.core.birth (subst (λ (n : ℕ). r.core.birth n ≡ born) own (h.sound.1.fork_parent b k (h.sound.1.forks_are b ∙ ap forking_of is)))

    fork_free : (job : Job) → r.core.job b ≡ job → birth_for r.core.birth (doer script b) ≡ born → waits_for_locks (fork_locks (r.core.right child) job) b (r.core.structure p) (r.core.table p) ≡ None → ⊥
    fork_free job is birth free =
        free_goes b (Fork child) there
        (ap (λ (x : Birth). waits_at x p (waits_for_locks (fork_locks (r.core.right child) (r.core.job b)) b (r.core.structure p) (r.core.table p))) birth
        ∙ ap (λ (j : Job). waits_for_locks (fork_locks (r.core.right child) j) b (r.core.structure p) (r.core.table p)) is ∙ free)

    unlocked : (needed : Bool) → r.core.table p ≡ None → waits_for_lock needed b (r.core.table p) ≡ None
    unlocked true free = ap (held_by_other b) free
    unlocked false free = refl

    fork_goes : (job : Job) → r.core.job b ≡ job → StandsFork r.core b p child job (r.core.prepared b) → (job ≡ idle → ⊥) → (keeps_table job ≡ None → r.core.table p ≡ None) → ⊥
    fork_goes idle is stands busy table = busy refl
    fork_goes (forking q c done between) is stands busy table =
        fork_free (forking q c done between) is (is_born q c done between is stands.parent) (unlocked (is_some (next_page (r.core.right child) done)) (table refl))
    fork_goes (forking q c done (counted page)) is stands busy table = fork_free (forking q c done (counted page)) is (is_born q c done (counted page) is stands.0.parent) refl
    fork_goes (forking q c done (copying page word)) is stands busy table = fork_free (forking q c done (copying page word)) is (is_born q c done (copying page word) is stands.0.parent) refl
    fork_goes (forking q c done step) is stands busy table = absurd stands
    fork_goes job is stands busy table = stands

  -- so where nobody can go nobody is in the middle of a fork, a move or a pin's page whose process's table lock is free, or its own
  keeper_goes : (b q : ℕ) → Keeps (r.core.job b) q → (keeps_table (r.core.job b) ≡ None → (p : ℕ) → r.core.table p ≡ None) → ⊥
  keeper_goes b q keeps table =
      let busy : r.core.job b ≡ idle → ⊥ = λ rests. keeps_idle rests keeps in
      let keeper = keeper_op b busy in
      go busy keeper.0 keeper.1 keeper.2
    where
      go : (r.core.job b ≡ idle → ⊥) → (op : Op) → op_in script r b ≡ Some op → IsKeeping op → ⊥
      go busy op is (forks child) = fork_goes b child is (r.core.job b) refl (h.forks b child is) busy (λ none. table none (process_of script b))
      go busy op is (pins handle page n want fast) = pin_goes b handle page n want fast (r.core.job b) is refl (h.pins b handle page n want fast is).at q keeps
      go busy op is (moves proc page zone) = move_goes b proc page zone (r.core.job b) is refl (h.moves b proc page zone is) busy

  -- nobody holds a table lock
  table_free : (p : ℕ) (o : Option ℕ) → r.core.table p ≡ o → r.core.table p ≡ None
  table_free p None is = is
  table_free p (Some d) is =
      let keeps : keeps_table (r.core.job d) ≡ Some p = h.sound.1.table_held p d is in
      absurd (keeper_goes d p (inr keeps) (λ none. absurd (cc (sym keeps ∙ none))))

  -- and so nobody a structure lock
  no_holder : (p b : ℕ) → IsHolder (r.core.structure p) (r.core.table p) b → ⊥
  no_holder p b (inl structure) =
      let keeps : keeps_structure (r.core.job b) ≡ Some p = h.sound.1.structure_held p b structure in
      keeper_goes b p (inl keeps) (λ none q. table_free q (r.core.table q) refl)
  no_holder p b (inr table) = cc (sym (table_free p (r.core.table p) refl) ∙ table)

  -- where nobody can go, nobody waits for a lock
  no_lock_waits : (a p : ℕ) (locks : Locks) (w : Waiting) → waits_for_locks locks a (r.core.structure p) (r.core.table p) ≡ Some w → ⊥
  no_lock_waits a p locks w waits =
      let holds = locks_wait locks a (r.core.structure p) (r.core.table p) w waits in
      no_holder p holds.0 holds.1

  -- once it waits for no birth, it waits for a pin of the script
  waits_born_by : IsScript script → (a p : ℕ) (op : Op) (w : Waiting) → op_in script r a ≡ Some op → waits_born r.core a p (r.places a).far op ≡ Some w → WaitsForBirthOrPin script w
  waits_born_by valid a p op w is waits = go (handle_waits r.core.handle a (Some op)) refl waits
    where
      go : (given : Option Waiting) → handle_waits r.core.handle a (Some op) ≡ given → first_waiting given (waits_for_locks (locks_needed r.core a p (r.places a).far op) a (r.core.structure p) (r.core.table p)) ≡ Some w → WaitsForBirthOrPin script w
      go None none locks = absurd (no_lock_waits a p (locks_needed r.core a p (r.places a).far op) w locks)
      go (Some v) some now =
          let take = waits_to_take r.core.handle a op v some in
          let there = is ∙ ap (λ (o : Op). Some o) take.1 in
          inr (take.0, handle_declared script valid a (r.places a).answered take.0 there, sym (same_waiting now) ∙ take.2)

  waits_by : IsScript script → (a : ℕ) (o : Option Op) (w : Waiting) → op_in script r a ≡ o → waiting_with r.core (doer_of script a o) (r.places a).far o ≡ Some w → WaitsForBirthOrPin script w
  waits_by valid a None w is waits = absurd (cc waits)
  waits_by valid a (Some op) w is waits = go (birth_for r.core.birth who) refl waits
    where
      who : Doer
      who = doer_of script a (Some op)

      process : (birth_for r.core.birth who ≡ born → ⊥) → Some (waitings.Process who.proc) ≡ Some w → WaitsForBirthOrPin script w
      process unborn_yet now =
          inl (who.proc, op_has_process script valid a (r.places a).answered op is (waits_as_thread who r.core.birth unborn_yet), sym (same_waiting now))

      go : (b : Birth) → birth_for r.core.birth who ≡ b → waits_at b who.proc (waits_born r.core a who.proc (r.places a).far op) ≡ Some w → WaitsForBirthOrPin script w
      go unborn birth now = process (λ e. cc (sym birth ∙ e)) now
      go (growing parent) birth now = process (λ e. cc (sym birth ∙ e)) now
      go failed birth now = absurd (cc now)
      go born birth now = waits_born_by valid a who.proc op w is now

-- where nobody can go, whoever waits, waits for a process or for a pin of the script
pub waits_for_birth_or_pin : (script : ScriptValue) → IsScript script → (r : RunState) → IsStanding script r → ((a : ℕ) → a < length script.actors → can_go script r a ≡ false) → (a : ℕ) (w : Waiting) → waiting_in script r a ≡ Some w → WaitsForBirthOrPin script w
waits_for_birth_or_pin script valid r h stuck a w waits = waits_by script r h stuck valid a (op_in script r a) w refl waits
