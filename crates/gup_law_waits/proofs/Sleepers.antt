-- Whoever can't go, can't go after the turn of another actor, unless this wakes it.
use Rattle.std.proofs.Common.{◌≡◌, ℕ, ◌⊎◌, inl, inr, Bool, true, false, not, List, [], ◌∷◌, Option, Some, None, is_some, is_none, refl, sym, ap, ◌∙◌, subst}
use Rattle.gup_base.specs.declared.entry.Entry.{Entry}
use Rattle.gup_base.specs.declared.entry.Rights.{Rights}
use Rattle.gup_law_base.specs.Sound.{keeps_structure}
use Rattle.gup_plain.specs.Event.{IsUnbornOrGrowing}
use Rattle.gup_plain.specs.State.{PlainState, Birth, unborn, growing, born, failed, Handle}
use Rattle.gup_plain.specs.declared.note.Waiting.{Waiting}
use Rattle.gup_script.specs.Script.{ScriptValue}
use Rattle.gup_script.specs.Valid.{IsScript}
use Rattle.gup_script.specs.declared.op.Op.{Op}
use Rattle.gup_script.specs.declared.op.Op.TheVariants.{Map, Unmap, Protect, Discard, Load, Store, Pin, Take, Get, Mirror, Fork, Exit, Move}
use Rattle.gup_spec_events.specs.State.{CoreState, Job, idle, plain_of, forking, between}
use Rattle.gup_spec_journal.specs.Order.{handle_waits, taking_waits, is_given_to, plain_behind}
use Rattle.gup_spec_journal.specs.Place.{Place, Doer, doer_of, place_behind, birth_by, birth_for, present_op, process_of}
use Rattle.gup_spec_turns.specs.CoreTurn.{allows_store}
use Rattle.gup_spec_turns.specs.JobPlace.{place_in}
use Rattle.gup_spec_turns.specs.Run.{RunState, run_start, run_after, op_in, waiting_with, waiting_in, core_turn_in, is_ready, can_go, turned}
use Rattle.gup_spec_turns.specs.Waits.{Locks, both_if, move_locks, pin_locks, fork_locks, locks_needed, first_waiting, waits_for_lock, waits_for_locks, waits_born, waiting_for}
use Rattle.gup_spec_turns.proofs.TurnParts.{waits_at}
use Rattle.gup_law_turns.proofs.EventLists.{Law}
use Rattle.gup_law_turns.proofs.KeptParts.{OfProcess, KeepsPages, apart, same_or_apart, put_apart, leaves, stays_born}
use Rattle.gup_law_turns.proofs.ScriptLemmas.{thread_birth}
use Rattle.gup_law_turns.proofs.StandingStates.{Stands, IsTaken}
use Rattle.gup_law_turns.proofs.StandingTurns.{Starts, child_kept, pages_kept, stands_first, stands_on, same_plain}
use Rattle.gup_law_turns.proofs.TurnShapes.{FitsFork, FitsAt, child_of, strand_of}
use Rattle.gup_law_turns.proofs.TurnSteps.{taken}
use Rattle.gup_law_journal.proofs.LockHolders.{held_lock}
use Rattle.gup_law_waits.specs.Woken.{Woken, one, everybody, wakes, MayWake}
use Rattle.gup_law_waits.proofs.PlainWaits.{answers_it, still_to_come, still_ungiven, over_unbegun}
use Rattle.gup_law_waits.proofs.LocksKept.{KeepsOut, structure_born, forks_by, others_keep, own_keeps, table_keeps}

-- waiting

asleep_waits : (op : Op) (waiting : Option Waiting) → is_ready (Some op) waiting ≡ false → is_some waiting ≡ true
asleep_waits op None is = absurd (cc is)
asleep_waits op (Some w) is = refl

waits_asleep : (op : Op) (waiting : Option Waiting) → is_some waiting ≡ true → is_ready (Some op) waiting ≡ false
waits_asleep op None is = absurd (cc is)
waits_asleep op (Some w) is = refl

value_of : (waiting : Option Waiting) → is_some waiting ≡ true → (w : Waiting) × (waiting ≡ Some w)
value_of None is = absurd (cc is)
value_of (Some w) is = (w, refl)

-- a lock that another actor holds is needed
abbrev pub IsNeeded : (b : ℕ) (needed : Bool) (holder : Option ℕ) → Type 0
IsNeeded b needed holder = (needed ≡ true) × (d : ℕ) × (b ≡ d → ⊥) × (holder ≡ Some d)

lock_needed : (needed : Bool) (b : ℕ) (holder : Option ℕ) (w : Waiting) → waits_for_lock needed b holder ≡ Some w → IsNeeded b needed holder
lock_needed true b holder w is = let held = held_lock true b holder w is in (refl, held.0, held.2, held.3)
lock_needed false b holder w is = absurd (cc is)

-- whoever waits for locks needs one that another holds
locks_needed_of : (locks : Locks) (b : ℕ) (structure table : Option ℕ) (w : Waiting) → waits_for_locks locks b structure table ≡ Some w → IsNeeded b locks.structure structure ⊎ IsNeeded b locks.table table
locks_needed_of locks b structure table w is = go (waits_for_lock locks.structure b structure) refl is
  where
    go : (first : Option Waiting) → waits_for_lock locks.structure b structure ≡ first → first_waiting first (waits_for_lock locks.table b table) ≡ Some w → IsNeeded b locks.structure structure ⊎ IsNeeded b locks.table table
    go None none second = inr (lock_needed locks.table b table w second)
    go (Some v) first same = inl (lock_needed locks.structure b structure v first)

-- and whoever does waits
held_waits : (needed : Bool) (b : ℕ) (holder : Option ℕ) → IsNeeded b needed holder → is_some (waits_for_lock needed b holder) ≡ true
held_waits needed b holder is = rw (is.0, is.3, apart b is.1 is.2) refl

-- which locks the next turn of a fork needs, by the rights of its child
fork_structure : (f g : ℕ → Option Rights) (job : Job) → (fork_locks f job).structure ≡ (fork_locks g job).structure
fork_structure f g (forking q c done between) = refl
fork_structure f g idle = refl
fork_structure f g job = refl

move_structure : (job : Job) → (move_locks job).structure ≡ true → ⊥
move_structure idle is = cc is
move_structure job is = cc is

-- An operation that needs the structure lock of another's fork needs it while that keeps others out.
module _ (s t : CoreState) (b q d far : ℕ) (kept : KeepsOut s t q d) where
  absent_still : (page : ℕ) (entry : Option Entry) → s.entry q page ≡ entry → is_none entry ≡ true → is_none (t.entry q page) ≡ true
  absent_still page None is none = ap is_none (kept.absent page is)
  absent_still page (Some e) is none = absurd (cc none)

  denied : (allowed : Bool) → not allowed ≡ true → allowed ≡ false
  denied true is = absurd (cc is)
  denied false is = refl

  needs_still : (op : Op) → t.job b ≡ s.job b → (locks_needed s b q far op).structure ≡ true → (locks_needed t b q far op).structure ≡ true
  needs_still (Load page word) job is = absent_still page (s.entry q page) refl is
  needs_still (Store page word value) job is = ap not (kept.barred page (denied (allows_store (s.entry q page)) is))
  needs_still (Fork child) job is =
      ap (λ (j : Job). (fork_locks (t.right child) j).structure) job ∙ fork_structure (t.right child) (s.right child) (s.job b) ∙ is
  needs_still (Move proc page zone) job is = absurd (move_structure (s.job b) is)
  needs_still (Map page n rights) job is = refl
  needs_still (Unmap page n) job is = refl
  needs_still (Protect page n rights) job is = refl
  needs_still (Discard page n) job is = refl
  needs_still (Pin handle page n want fast) job is = ap (λ (j : Job). (pin_locks fast far j).structure) job ∙ is
  needs_still (Get handle page) job is = refl
  needs_still (Mirror mirror proc page) job is = refl
  needs_still Exit job is = refl
  needs_still op job is = absurd (cc is)

-- The locks that an operation needs stay, if the entries of its process do, the job, and the rights of the child that it brings.
same_locks : (s t : CoreState) (b q far : ℕ) (op : Op) → t.entry q ≡ s.entry q → t.job b ≡ s.job b → ((child : ℕ) → op ≡ Fork child → fork_locks (t.right child) (s.job b) ≡ fork_locks (s.right child) (s.job b)) → locks_needed t b q far op ≡ locks_needed s b q far op
same_locks s t b q far (Load page word) entry job rights = ap (λ (f : ℕ → Option Entry). both_if (is_none (f page))) entry
same_locks s t b q far (Store page word value) entry job rights = ap (λ (f : ℕ → Option Entry). both_if (not (allows_store (f page)))) entry
same_locks s t b q far (Move proc page zone) entry job rights = ap move_locks job
same_locks s t b q far (Fork child) entry job rights = ap (fork_locks (t.right child)) job ∙ rights child refl
same_locks s t b q far (Pin handle page n want fast) entry job rights = ap (pin_locks fast far) job
same_locks s t b q far op entry job rights = refl

-- whoever is to take a pin that isn't given to it waits
ungiven_waits : (given : Bool) (handle : ℕ) → is_some (taking_waits given handle) ≡ true → given ≡ false
ungiven_waits true handle is = absurd (cc is)
ungiven_waits false handle is = refl

handles_wait : (before behind : ℕ → Handle) (b : ℕ) (op : Op) → ((h : ℕ) → is_given_to (before h) b ≡ false → is_given_to (behind h) b ≡ false) → is_some (handle_waits before b (Some op)) ≡ true → is_some (handle_waits behind b (Some op)) ≡ true
handles_wait before behind b (Take h) still is =
    ap (λ (given : Bool). is_some (taking_waits given h)) (still h (ungiven_waits (is_given_to (before h) b) h is))
handles_wait before behind b op still is = absurd (cc is)

either_waits : (first second : Option Waiting) → (is_some first ≡ true) ⊎ (is_some second ≡ true) → is_some (first_waiting first second) ≡ true
either_waits (Some w) second is = refl
either_waits None second (inl is) = absurd (cc is)
either_waits None second (inr is) = is

waits_either : (first second : Option Waiting) → is_some (first_waiting first second) ≡ true → (is_some first ≡ true) ⊎ (is_some second ≡ true)
waits_either (Some w) second is = inl refl
waits_either None second is = inr is

-- births

coming_waits : (birth : Birth) (p : ℕ) (others : Option Waiting) → IsUnbornOrGrowing birth → is_some (waits_at birth p others) ≡ true
coming_waits unborn p others coming = refl
coming_waits (growing parent) p others coming = refl
coming_waits born p others coming = absurd coming
coming_waits failed p others coming = absurd coming

-- one that waits for a birth, waits for that of its process
coming_for : (of_process : Bool) (birth : Birth) → IsUnbornOrGrowing (birth_by of_process birth) → (of_process ≡ true) × IsUnbornOrGrowing birth
coming_for true birth coming = (refl, coming)
coming_for false birth coming = absurd coming

born_by : (of_process : Bool) (before behind : Birth) → (before ≡ born → behind ≡ born) → birth_by of_process before ≡ born → birth_by of_process behind ≡ born
born_by true before behind stays is = stays is
born_by false before behind stays is = refl

module _ (law : Law) (script : ScriptValue) (valid : IsScript script) (r : RunState) (h : Stands script r) (a b : ℕ) (other : b ≡ a → ⊥) where
  abbrev s : CoreState
  s = r.core

  abbrev t : CoreState
  t = (run_after script r a).core

  abbrev p : ℕ
  p = (doer_of script a (op_in script r a)).proc

  abbrev woken : Woken
  woken = wakes (op_in script r a) (place_in t a)

  turns : IsTaken s (doer_of script a (op_in script r a)) (r.places a) (op_in script r a) (waiting_in script r a) (core_turn_in script r a)
  turns = taken script valid r h a

  plain : plain_of t ≡ plain_behind (plain_of s) (core_turn_in script r a).whats
  plain = same_plain law script valid r h a

  still_born : (k : ℕ) → s.birth k ≡ born → t.birth k ≡ born
  still_born k lives = stays_born law s a p (child_of p (op_in script r a)) (strand_of (op_in script r a)) (core_turn_in script r a).events turns.done.kinds h.sound turns.done.can k lives

  job_kept : t.job b ≡ s.job b
  job_kept = (leaves s a p (child_of p (op_in script r a)) (strand_of (op_in script r a)) (core_turn_in script r a).events turns.done.kinds).job b (apart b a other)

  module _ (sleeps : MayWake woken b → ⊥) where
    never_all : woken ≡ everybody → ⊥
    never_all is = sleeps (subst (λ (w : Woken). MayWake w b) (sym is) tt)

    never_it : woken ≡ one b → ⊥
    never_it is = sleeps (subst (λ (w : Woken). MayWake w b) (sym is) refl)

    coming_on : (q : ℕ) → IsUnbornOrGrowing (s.birth q) → IsUnbornOrGrowing (t.birth q)
    coming_on q coming =
        subst (λ (x : PlainState). IsUnbornOrGrowing (x.birth q)) (sym plain) (still_to_come q turns.shape never_all coming)

    ungiven_on : (k : ℕ) → is_given_to (s.handle k) b ≡ false → is_given_to (t.handle k) b ≡ false
    ungiven_on k yet =
        subst (λ (x : PlainState). is_given_to (x.handle k) b ≡ false) (sym plain) (still_ungiven k b turns.shape never_it yet)

    -- where the actor does this operation
    module _ (op : Op) (has : op_in script r b ≡ Some op) where
      abbrev who : Doer
      who = doer_of script b (Some op)

      abbrev q : ℕ
      q = who.proc

      abbrev far : ℕ
      far = (r.places b).far

      abbrev IsWaiting : CoreState → Type 0
      IsWaiting u = is_some (waits_for_locks (locks_needed u b q far op) b (u.structure q) (u.table q)) ≡ true

      -- the structure lock stays with the fork that has it, and lets in nobody
      out_kept : (d : ℕ) → s.structure q ≡ Some d → KeepsOut s t q d
      out_kept d locked = by_actor (same_or_apart d a)
        where
          keeps : keeps_structure (s.job d) ≡ Some q
          keeps = h.sound.1.structure_held q d locked

          own : s.structure q ≡ Some a → keeps_structure (s.job a) ≡ Some q → KeepsOut s t q a
          own here mine =
              let forks = forks_by s (doer_of script a (op_in script r a)) q (op_in script r a) (r.places a) (h.fits a) mine in
              let same : process_of script a ≡ q = ap (λ (o : Option Op). (doer_of script a o).proc) (sym forks.1) ∙ forks.2 in
              let over : answers_it (core_turn_in script r a).whats ≡ true → ⊥ =
              λ answers. never_all (ap (λ (o : Option Op). wakes o (place_in t a)) forks.1 ∙ ap (wakes (Some (Fork forks.0))) (over_unbegun turns.shape answers)) in
              subst (λ (k : ℕ). KeepsOut s t k a) same
              (own_keeps law script valid r h a forks.0 forks.1 forks.3 (structure_born s (process_of script a) a h.sound (ap s.structure same ∙ here)) (ap s.structure same ∙ here) over)

          by_actor : (d ≡ a) ⊎ (d ≡ a → ⊥) → KeepsOut s t q d
          by_actor (inl same) =
              subst (λ (k : ℕ). KeepsOut s t q k) (sym same)
              (own (locked ∙ ap (λ (k : ℕ). Some k) same) (ap (λ (k : ℕ). keeps_structure (s.job k)) (sym same) ∙ keeps))
          by_actor (inr away) = others_keep law script valid r h a never_all d q away locked

      -- the table lock stays with whoever has it, and the process has its pages
      table_kept : (d : ℕ) → s.table q ≡ Some d → KeepsPages q s t
      table_kept d locked = by_actor (same_or_apart d a)
        where
          by_actor : (d ≡ a) ⊎ (d ≡ a → ⊥) → KeepsPages q s t
          by_actor (inl same) = table_keeps law script valid r h a never_all q (locked ∙ ap (λ (k : ℕ). Some k) same)
          by_actor (inr away) = pages_kept script valid r h a d away law q locked

      -- the rights of a child that the operation brings stay too
      fork_same : (child : ℕ) → op ≡ Fork child → fork_locks (t.right child) (s.job b) ≡ fork_locks (s.right child) (s.job b)
      fork_same child is = go (s.job b) refl (fits is)
        where
          there : Op → Type 0
          there o = op_in script r b ≡ Some o

          here : op ≡ Fork child → op_in script r b ≡ Some (Fork child)
          here same = has ∙ ap (λ (o : Op). Some o) same

          fits : op ≡ Fork child → FitsFork s b (process_of script b) child (r.places b) (s.job b) (s.prepared b)
          fits same = (subst (λ (o : Option Op). FitsAt s (doer_of script b o) o (r.places b)) (here same) (h.fits b)).1

          go : (job : Job) → s.job b ≡ job → FitsFork s b (process_of script b) child (r.places b) job (s.prepared b) → fork_locks (t.right child) job ≡ fork_locks (s.right child) job
          go (forking u v done between) is_forking fits =
              let same = child_kept script valid r h a b other (r.places b).answered child (here is) fits.1.birth in
              ap (λ (o : OfProcess). fork_locks o.right (forking u v done between)) same
          go idle is_idle fits = refl
          go job is_job fits = refl

      locks_wait : IsWaiting s → IsWaiting t
      locks_wait waits =
          let held = value_of (waits_for_locks (locks_needed s b q far op) b (s.structure q) (s.table q)) waits in
          elim (locks_needed_of (locks_needed s b q far op) b (s.structure q) (s.table q) held.0 held.1) [
            | inl structure ↦ by_structure structure
            | inr table ↦ by_table table
          ]
        where
          by_structure : IsNeeded b (locks_needed s b q far op).structure (s.structure q) → IsWaiting t
          by_structure needs =
              let kept = out_kept needs.1 needs.3 in
              either_waits (waits_for_lock (locks_needed t b q far op).structure b (t.structure q)) (waits_for_lock (locks_needed t b q far op).table b (t.table q))
              (inl (held_waits (locks_needed t b q far op).structure b (t.structure q) (needs_still s t b q needs.1 far kept op job_kept needs.0, needs.1, needs.2, kept.locked)))

          by_table : IsNeeded b (locks_needed s b q far op).table (s.table q) → IsWaiting t
          by_table needs =
              let kept = table_kept needs.1 needs.3 in
              let same = same_locks s t b q far op kept.entry job_kept fork_same in
              either_waits (waits_for_lock (locks_needed t b q far op).structure b (t.structure q)) (waits_for_lock (locks_needed t b q far op).table b (t.table q))
              (inr (held_waits (locks_needed t b q far op).table b (t.table q) (ap (λ (x : Locks). x.table) same ∙ needs.0, needs.1, needs.2, kept.table ∙ needs.3)))

      -- once it waits for no birth
      born_wait : is_some (waits_born s b q far op) ≡ true → is_some (waits_born t b q far op) ≡ true
      born_wait is =
          either_waits (handle_waits t.handle b (Some op)) (waits_for_locks (locks_needed t b q far op) b (t.structure q) (t.table q))
          (elim (waits_either (handle_waits s.handle b (Some op)) (waits_for_locks (locks_needed s b q far op) b (s.structure q) (s.table q)) is) [
            | inl pin ↦ inl (handles_wait s.handle t.handle b op ungiven_on pin)
            | inr locks ↦ inr (locks_wait locks)
          ])

      -- while it waits for one
      wait_coming : IsUnbornOrGrowing (birth_for s.birth who) → is_some (waiting_for t who far op) ≡ true
      wait_coming coming =
          let thread = coming_for who.of_process (s.birth q) coming in
          let grows : IsUnbornOrGrowing (birth_for t.birth who) = subst IsUnbornOrGrowing (sym (thread_birth who t.birth thread.0)) (coming_on q thread.1) in
          coming_waits (birth_for t.birth who) q (waits_born t b q far op) grows

      wait_by : (birth : Birth) → birth_for s.birth who ≡ birth → is_some (waits_at birth q (waits_born s b q far op)) ≡ true → is_some (waiting_for t who far op) ≡ true
      wait_by born is waits =
          ap (λ (x : Birth). is_some (waits_at x q (waits_born t b q far op))) (born_by who.of_process (s.birth q) (t.birth q) (still_born q) is) ∙ born_wait waits
      wait_by failed is waits = absurd (cc waits)
      wait_by unborn is waits = wait_coming (subst IsUnbornOrGrowing (sym is) tt)
      wait_by (growing parent) is waits = wait_coming (subst IsUnbornOrGrowing (sym is) tt)

    go_by : (o : Option Op) → op_in script r b ≡ o → is_ready o (waiting_with s (doer_of script b o) (r.places b).far o) ≡ false → is_ready o (waiting_with t (doer_of script b o) (r.places b).far o) ≡ false
    go_by None has is = refl
    go_by (Some op) has is =
        let who : Doer = doer_of script b (Some op) in
        let far : ℕ = (r.places b).far in
        waits_asleep op (waiting_for t who far op) (wait_by op has (birth_for s.birth who) refl (asleep_waits op (waiting_for s who far op) is))

    asleep : can_go script r b ≡ false → can_go script (run_after script r a) b ≡ false
    asleep is =
        subst (λ (k : Place). is_ready (present_op script b k) (waiting_with t (doer_of script b (present_op script b k)) k.far (present_op script b k)) ≡ false)
        (sym (put_apart a b (place_behind (r.places a) (core_turn_in script r a).whats) r.places other)) (go_by (op_in script r b) refl is)

-- it holds of each state that turns lead to
stands_turned : Law → (script : ScriptValue) → IsScript script → (actors : List ℕ) (r : RunState) → Stands script r → Stands script (turned script r actors)
stands_turned law script valid [] r h = h
stands_turned law script valid (a ∷ actors) r h = stands_turned law script valid actors (run_after script r a) (stands_on law script valid r h a)

pub wakes_no_others : Law → Starts → (script : ScriptValue) (actors : List ℕ) (a b : ℕ) → IsScript script → (a ≡ b → ⊥) → (MayWake (wakes (op_in script (turned script (run_start script) actors) a) (place_in (run_after script (turned script (run_start script) actors) a).core a)) b → ⊥) → can_go script (turned script (run_start script) actors) b ≡ false → can_go script (run_after script (turned script (run_start script) actors) a) b ≡ false
wakes_no_others law starts script actors a b valid other sleeps is =
    asleep law script valid (turned script (run_start script) actors) (stands_turned law script valid actors (run_start script) (stands_first starts script valid)) a b (λ same. other (sym same)) sleeps is
