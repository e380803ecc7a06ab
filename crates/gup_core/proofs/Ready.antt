-- What is true before a turn of an operation.
use Rattle.std.proofs.Common.{◌≡◌, ℕ, ◌+◌, ◌*◌, ◌^◌, ◌<◌, ◌≤◌, ◌==◌, ◌&&◌, not, Bool, true, false, List, refl, length, slice_get, Option, Some, None, IsSome, IfSome, sym, ap, ◌∙◌, subst, arith}
use Rattle.std.proofs.lemmas.Option.{slice_get_within}
use Rattle.gup_plain.specs.Event.{page_numbers}
use Rattle.gup_plain.specs.State.{born}
use Rattle.gup_plain.specs.declared.note.Waiting.{Waiting}
use Rattle.gup_script.specs.declared.op.Op.{Op}
use Rattle.gup_script.specs.declared.op.Op.TheVariants.{Fork, Move}
use Rattle.gup_script.specs.Limits.{most_handles}
use Rattle.gup_script.specs.Script.{ScriptValue}
use Rattle.gup_spec_journal.specs.Place.{Doer, doer_of, process_of, birth_for}
use Rattle.gup_frames.specs.Frames.{frames_of}
use Rattle.gup_space.specs.Space.{space_of}
use Rattle.gup_space.specs.Shows.{ShowsSpace}
use Rattle.gup_handles.specs.Handles.{handles_of}
use Rattle.gup_spec_events.specs.Event.{bias}
use Rattle.gup_spec_events.specs.State.{CoreState, Job, idle, forking, between, counted as counted_page, copying}
use Rattle.gup_spec_turns.specs.Waits.{Locks, waits_for_locks, locks_needed, waits_born, waiting_for, both_if}
use Rattle.gup_spec_turns.specs.Run.{RunState, op_in, waiting_in, waiting_with}
use Rattle.gup_law_turns.specs.Standing.{IsStanding}
use Rattle.gup_spec_turns.specs.JobPlace.{KeepsNoJob, StandsFork}
use Rattle.gup_law_turns.proofs.ScriptLemmas.{op_is_op, child_declared, op_has_process, thread_birth, has_ops_declared}
use Rattle.gup_op_base.specs.Tidy.{needs_table}
use Rattle.gup_op_waits.specs.declared.seats.Seat.{Seat}
use Rattle.gup_op_waits.specs.Locks.{pin_needs}
use Rattle.gup_op_waits.specs.Seats.{IsSeat}
use Rattle.gup_op_waits.specs.Births.{HasFailed}
use Rattle.gup_op_waits.specs.Doers.{HasProcess, IsProcessOf}
use Rattle.gup_op_waits.specs.declared.parts.Parts.{Parts}
use Rattle.gup_op_waits.specs.Stands.{StandsAt}
use Rattle.gup_op_turns.specs.Goes.{IsForkReady, IsReady, KeepsSlots}
use Rattle.gup_core.specs.Machine.{MachineValue, Shows, IsMachine}
use Rattle.gup_op_waits.specs.Parts.{AreParts}
use Rattle.gup_core.specs.Rest.{IsAtRest, HoldsNoLock, IsReadyPin, op_of_seat}
use Rattle.gup_core.proofs.Resting.{Stand, standing, op_there, stands_at}
use Rattle.gup_op_turns.proofs.Scripts.{thread_there, own_process, found_there, has_process, few_answered}
use Rattle.gup_op_turns.proofs.Singles.{table_process, single_keeps}
use Rattle.gup_op_turns.proofs.Refusing.{birth_unfailed}
use Rattle.gup_op_turns.proofs.Turning.{there}
use Rattle.gup_base.specs.declared.entry.Want.{Want}
use Rattle.gup_frames.specs.Frames.{FramesValue}
use Rattle.gup_space.specs.Space.{SpaceValue}
use Rattle.gup_op_base.specs.Jobs.{place_of}
use Rattle.gup_op_pins.specs.Pins.{IsReadyToPin}
use Rattle.gup_spec_turns.specs.JobPlace.{JobPlace as Place, unbegun, moving_page, in_walk}
use Rattle.gup_op_waits.proofs.Waits.{single_needs, pinned_needs, born_and_free, locks_free, given_free, keeps_given, table_free}

-- a process that is born is none that a fork brings
unborn_child : (s : CoreState) (a p child : ℕ) (job : Job) (prepared : Option ℕ) → StandsFork s a p child job prepared → s.birth child ≡ born → ⊥
unborn_child s a p child idle prepared h is = absurd (cc (sym h ∙ is))
unborn_child s a p child (forking q c done between) prepared h is = absurd (cc (sym h.birth ∙ is))
unborn_child s a p child (forking q c done (counted_page page)) prepared h is = absurd (cc (sym h.0.birth ∙ is))
unborn_child s a p child (forking q c done (copying page word)) prepared h is = absurd (cc (sym h.0.birth ∙ is))
unborn_child s a p child (forking q c done step) prepared h is = absurd h
unborn_child s a p child job prepared h is = absurd h

few_references : (n : ℕ) → n ≤ 16 * page_numbers + most_handles + 81 + bias * 17761 → n < 2 ^ 40
unfolding page_numbers
few_references n within = omega arith

fork_ready : (m : MachineValue) (r : RunState) (a p child : ℕ) (seat : Seat) → IsStanding m.script r → Shows m r → IsAtRest m → process_of m.script a ≡ p → slice_get m.seats a ≡ Some seat → op_of_seat m a seat ≡ Some (Fork child) → r.core.birth (process_of m.script a) ≡ born
    → IsForkReady (frames_of m.parts.frames) m.parts.spaces.items m.parts.births.items a p child seat.job
fork_ready m r a p child seat stands h rest own here present is_born =
    let declared : child < length m.script.processes = child_declared m.script rest.valid a seat.answered child present in
    let at : StandsFork r.core a (process_of m.script a) child (r.core.job a) (r.core.prepared a) = stands.forks a child (op_there m r a seat (Some (Fork child)) h here present) in
    record {
      apart = λ same. unborn_child r.core a (process_of m.script a) child (r.core.job a) (r.core.prepared a) at (ap r.core.birth (sym (own ∙ same)) ∙ is_born);
      there = omega (arith, declared, rest.parts.spaces);
      declared = omega (arith, declared, rest.parts.births);
      few_forks = λ q space there. let forks = rest.few_forks q space there in omega arith;
      stands = λ parent kid parent_is kid_is. rest.forks a child seat parent kid here present (ap (λ k. slice_get m.parts.spaces.items k) own ∙ parent_is) kid_is;
    }

-- a pin that is in the middle of nothing finds the table lock free
to_pin : (F : FramesValue) (taken : List ℕ) (page n : ℕ) (want : Want) (begins : Bool) (a : ℕ) (place : Place) (S : SpaceValue) → (place ≡ unbegun → begins ≡ false → HoldsNoLock S a → S.table ≡ None) → IsReadyPin F taken page n want a place S
    → IsReadyToPin F taken page n want begins place S
to_pin F taken page n want begins a unbegun S free h = λ slow. free refl slow h
to_pin F taken page n want begins a (moving_page g e count) S free h = h
to_pin F taken page n want begins a (in_walk sequence step) S free h = h
to_pin F taken page n want begins a place S free h = absurd h

pub is_ready : (m : MachineValue) (a : ℕ) (proc : Option ℕ) (seat : Seat) (op : Op) → Stand → IsMachine m → IsAtRest m → IsProcessOf (doer_of m.script a (Some op)) proc → slice_get m.seats a ≡ Some seat → op_of_seat m a seat ≡ Some op → ((r : RunState) → Shows m r → None ≡ waiting_in m.script r a)
    → (HasFailed m.parts.births.items proc → ⊥) → (p : ℕ) → IfSome proc (λ q. q ≡ p) → IsReady m.parts a p op seat.far seat.job
is_ready m a proc seat op stand machine rest of_a here present ready unfailed p of_p =
    let who : Doer = doer_of m.script a (Some op) in
    let own : ℕ = who.proc in
    let r : RunState = machine.shown.0 in
    let h : Shows m r = machine.shown.1 in
    let stands : IsStanding m.script r = standing m r stand rest.valid h in
    let now : op_in m.script r a ≡ Some op = op_there m r a seat (Some op) h here present in
    let at : StandsAt r.core a own (r.places a).far op = stands_at m.script r a op stands now in
    let far : ℕ = (r.places a).far in
    let sits : IsSeat (Some op) (r.places a) seat = subst (λ (o : Option Op). IsSeat o (r.places a) seat) now (h.seats a seat here) in
    let free : waiting_for r.core who far op ≡ None = ap (λ o. waiting_with r.core (doer_of m.script a o) far o) (sym now) ∙ sym (ready r h) in
    let locks : Option Waiting = waits_for_locks (locks_needed r.core a own far op) a (r.core.structure own) (r.core.table own) in
    let born_free : (birth_for r.core.birth who ≡ born) × (waits_born r.core a own far op ≡ None) =
    born_and_free (birth_for r.core.birth who) own (waits_born r.core a own far op) (birth_unfailed m.parts.births.items proc who r.core unfailed (found_there m.script rest.valid a (length m.parts.births.items) seat.answered op proc rest.parts.births present of_a) of_a h.parts.births) free in
    let thread : HasProcess op → who.of_process ≡ true = thread_there m.script rest.valid a seat.answered op present in
    let same : HasProcess op → own ≡ p = λ has. own_process who proc p of_a (thread has) of_p in
    let actor : a < length m.script.actors = has_ops_declared m.script a seat.answered op present in
    record {
      there = λ has. let within = op_has_process m.script rest.valid a seat.answered op present (thread has) in let is = same has in omega (arith, within, is, rest.parts.spaces);
      tidy = rest.tidy;
      few_counts = λ f. few_references ((frames_of m.parts.frames).count f) (rest.few_counts f);
      table = λ space there single needed.
          let found : slice_get m.parts.spaces.items own ≡ Some space = ap (λ k. slice_get m.parts.spaces.items k) (same (table_process (space_of space) op needed)) ∙ there in
          let shown : ShowsSpace own (space_of space) r.core = h.parts.spaces own space found in
          let kept : waits_for_locks (both_if (needs_table (space_of space) op)) a (space_of space).structure (space_of space).table ≡ locks =
          ap (λ o. waits_for_locks (both_if (needs_table (space_of space) op)) a o (space_of space).table) (sym shown.structure)
          ∙ ap (λ o. waits_for_locks (both_if (needs_table (space_of space) op)) a (r.core.structure own) o) (sym shown.table)
          ∙ ap (λ l. waits_for_locks l a (r.core.structure own) (r.core.table own)) (single_needs (space_of space) r.core a own far op shown single) in
          let none : KeepsNoJob (op_of_seat m a seat) = subst KeepsNoJob (sym present) (single_keeps op single) in
          table_free (needs_table (space_of space) op) a (space_of space).structure (space_of space).table (rest.unlocked own a space seat found here none).1 (kept ∙ locks_free r.core a own far op born_free.1) needed;
      in_range = op_is_op m.script rest.valid a seat.answered op present;
      far = rest.far a seat op here present;
      fork = λ child is.
          let forks : op_of_seat m a seat ≡ Some (Fork child) = present ∙ ap (λ (x : Op). Some x) is in
          let has : HasProcess op = subst HasProcess (sym is) tt in
          let mine : process_of m.script a ≡ own = ap (λ (x : Op). (doer_of m.script a (Some x)).proc) (sym is) in
          fork_ready m r a p child seat stands h rest (mine ∙ same has) here forks (ap r.core.birth mine ∙ sym (thread_birth who r.core.birth (thread has)) ∙ born_free.0);
      move = λ q page zone space is there.
          let moves : op_of_seat m a seat ≡ Some (Move q page zone) = present ∙ ap (λ (x : Op). Some x) is in
          let named : p ≡ q = sym (same (subst HasProcess (sym is) tt)) ∙ ap (λ (x : Op). (doer_of m.script a (Some x)).proc) is in
          rest.moves a q page zone seat space here moves (ap (λ k. slice_get m.parts.spaces.items k) (sym named) ∙ there);
      pin = λ space pages handle page n want fast is there taken.
          let has : HasProcess op = subst HasProcess (sym is) tt in
          let mine : process_of m.script a ≡ own = ap (λ (x : Op). (doer_of m.script a (Some x)).proc) (sym is) in
          let found : slice_get m.parts.spaces.items own ≡ Some space = ap (λ k. slice_get m.parts.spaces.items k) (same has) ∙ there in
          let shown : ShowsSpace own (space_of space) r.core = h.parts.spaces own space found in
          let needs : place_of seat.job ≡ unbegun → (fast && seat.far == 0) ≡ false → both_if true ≡ locks_needed r.core a own far op =
          λ place slow.
          ap (λ (b : Bool). both_if (not b)) (sym slow)
          ∙ ap (λ (k : Place). pin_needs fast seat.far k) (sym place)
          ∙ pinned_needs r.core a own far seat.far handle page n want fast (place_of seat.job) op is sits.1 (h.jobs a seat here) in
          let kept : place_of seat.job ≡ unbegun → (fast && seat.far == 0) ≡ false → waits_for_locks (both_if true) a (space_of space).structure (space_of space).table ≡ locks =
          λ place slow.
          ap (λ o. waits_for_locks (both_if true) a o (space_of space).table) (sym shown.structure)
          ∙ ap (λ o. waits_for_locks (both_if true) a (r.core.structure own) o) (sym shown.table)
          ∙ ap (λ (l : Locks). waits_for_locks l a (r.core.structure own) (r.core.table own)) (needs place slow) in
          to_pin (frames_of m.parts.frames) pages.items (page + length pages.items) n want (fast && seat.far == 0) a (place_of seat.job) (space_of space)
          (λ place slow unheld. table_free true a (space_of space).structure (space_of space).table unheld.1 (kept place slow ∙ locks_free r.core a own far op born_free.1) refl)
          (rest.pins a handle page n want fast seat space pages here (present ∙ ap (λ (x : Op). Some x) is) (ap (λ k. slice_get m.parts.spaces.items k) mine ∙ found) taken);
      few_walks = λ q space there. let walks = rest.few_walks q space there in omega arith;
      walk = λ space handle page n want fast is there.
          let mine : process_of m.script a ≡ own = ap (λ (x : Op). (doer_of m.script a (Some x)).proc) (sym is) in
          rest.walks a handle page n want fast seat space here (present ∙ ap (λ (x : Op). Some x) is)
          (ap (λ k. slice_get m.parts.spaces.items k) (mine ∙ same (subst HasProcess (sym is) tt)) ∙ there);
      weighed = rest.weighed;
      referred = rest.referred;
      yet = λ handle makes. rest.yet a handle op seat here present makes;
      taken = λ pages handle page n want fast there is. rest.taken a handle page n want fast seat pages here there (present ∙ ap (λ (x : Op). Some x) is);
      given = λ handle is. keeps_given (handles_of m.parts.handles handle) (r.core.handle handle) (r.core.pinned handle) (r.core.got handle) a (h.parts.pins handle) (given_free r.core a own far handle op is born_free.1);
      actor_taken = omega (arith, actor, rest.parts.taken);
      actor_store = omega (arith, actor, rest.parts.stores);
    }

-- the parts are as many after a turn, and stores have as many slots
pub still_parts : (script : ScriptValue) (old new : Parts) → AreParts script old → length new.spaces.items ≡ length old.spaces.items → length new.births.items ≡ length old.births.items
    → length new.taken.items ≡ length old.taken.items → length new.stores.items ≡ length old.stores.items → KeepsSlots old.stores.items new.stores.items → AreParts script new
still_parts script old new are spaces births taken stores slots =
    record {
      spaces = spaces ∙ are.spaces;
      births = births ∙ are.births;
      taken = taken ∙ are.taken;
      stores = stores ∙ are.stores;
      slots = λ a store here.
          let was = there old.stores.items a (omega (arith, slice_get_within new.stores.items a store here, stores)) in
          slots a was.0 store was.1 here ∙ are.slots a was.0 was.1;
    }

-- the children that forks bring have spaces and births
pub child_within : (m : MachineValue) (a child : ℕ) (seat : Seat) (op : Op) → IsAtRest m → op_of_seat m a seat ≡ Some op → op ≡ Fork child → (child < length m.parts.spaces.items) × (child < length m.parts.births.items)
child_within m a child seat op rest present same =
    let declared : child < length m.script.processes = child_declared m.script rest.valid a seat.answered child (present ∙ ap (λ (x : Op). Some x) same) in
    (omega (arith, declared, rest.parts.spaces), omega (arith, declared, rest.parts.births))

-- the process of an operation has a space and a birth
pub process_found_so : (m : MachineValue) (a : ℕ) (proc : Option ℕ) (seat : Seat) (op : Op) → IsAtRest m → IsProcessOf (doer_of m.script a (Some op)) proc → op_of_seat m a seat ≡ Some op → HasProcess op → IsSome proc
process_found_so m a proc seat op rest of_a present has = has_process (doer_of m.script a (Some op)) proc of_a (thread_there m.script rest.valid a seat.answered op present has)

pub process_within : (m : MachineValue) (a : ℕ) (proc : Option ℕ) (seat : Seat) (op : Op) → IsAtRest m → IsProcessOf (doer_of m.script a (Some op)) proc → op_of_seat m a seat ≡ Some op → IfSome proc (λ p. p < length m.parts.spaces.items) × IfSome proc (λ p. p < length m.parts.births.items)
process_within m a proc seat op rest of_a present = (
  found_there m.script rest.valid a (length m.parts.spaces.items) seat.answered op proc rest.parts.spaces present of_a,
  found_there m.script rest.valid a (length m.parts.births.items) seat.answered op proc rest.parts.births present of_a,
)

-- the number of an operation fits
pub few : (m : MachineValue) (a : ℕ) (seat : Seat) → IsAtRest m → slice_get m.seats a ≡ Some seat → seat.answered + 1 < 2 ^ 32
few m a seat rest here =
    let answered : seat.answered ≤ 16384 = few_answered m.script rest.valid a seat.answered (rest.answered a seat here) in
    omega arith
