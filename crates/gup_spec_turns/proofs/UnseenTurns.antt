-- The turn of an operation, but for a look, and what an actor waits for are the same whatever mirror slots are filled.
use Rattle.std.proofs.Common.{◌≡◌, ℕ, ◌+◌, ◌==◌, ◌&&◌, nat_lt, if◌then◌else◌, Bool, true, false, List, ◌++◌, length, Option, Some, None, Ok, Err, refl, ap, ◌∙◌}
use Rattle.gup_base.specs.declared.entry.Allowed.{Allowed}
use Rattle.gup_base.specs.declared.entry.Allowed.TheVariants.{Any, Only}
use Rattle.gup_base.specs.declared.entry.Entry.{Entry}
use Rattle.gup_base.specs.declared.entry.Want.{Want}
use Rattle.gup_base.specs.declared.entry.Zone.{Zone}
use Rattle.gup_base.specs.declared.entry.Zone.TheVariants.{Movable, Normal}
use Rattle.gup_script.specs.declared.op.Op.{Op}
use Rattle.gup_script.specs.declared.op.Op.TheVariants.{Load, Store, Pin, Get, Transfer, Mirror, Look, Fork, Exit, Move}
use Rattle.gup_spec_events.specs.State.{CoreState, Job, moving, forking, walking, Counted, unread, one, more, between, counted, copying, WalkStep, ready}
use Rattle.gup_spec_events.specs.Event.{CoreEvent, run, has_tables}
use Rattle.gup_spec_events.specs.Fault.{Fault}
use Rattle.gup_base.specs.Parts.{words_of, word_at}
use Rattle.gup_plain.specs.Denial.{transfer_denial}
use Rattle.gup_plain.specs.Event.{words}
use Rattle.gup_spec_journal.specs.Order.{handle_waits}
use Rattle.gup_spec_turns.specs.CoreTurn.{CoreTurn, after_fault, denied_or, entry_in, frame_in, free_in, frame_for, zones_of}
use Rattle.gup_spec_turns.specs.PageTurns.{loads, loads_in, stores, stores_to, load_fault, store_fault, exit_turn_by, lowest_page}
use Rattle.gup_spec_turns.specs.PinTurns.{pins, pins_in, pin_fault, pin_turn_by, pin_turn_in, begins_or_pins, raises, gets, gets_by, moved_turn, pins_moved}
use Rattle.gup_spec_turns.specs.ForkTurns.{fork_turn, copy_turn, copying_turn, frame_turn, share_turn, next_page, next_turn, page_turn}
use Rattle.gup_spec_turns.specs.MirrorTurns.{fills, fills_by}
use Rattle.gup_spec_turns.specs.MoveTurns.{counted_turn, move_turn, place_turn}
use Rattle.gup_spec_turns.specs.DeviceTurns.{frame_at, moves_from}
use Rattle.gup_spec_turns.specs.WalkTurns.{ready_turn, walk_turn}
use Rattle.gup_spec_turns.specs.Turn.{op_turn}
use Rattle.gup_spec_turns.specs.Waits.{Locks, first_waiting, locks_needed, waits_born, waits_for_locks}
use Rattle.gup_spec_turns.proofs.Unseen.{mirroring, run_unseen}

-- a look reads which slots are filled, and no other operation does
abbrev pub IsNoLook : Op → Type 0
IsNoLook (Look mirror word) = ⊥
IsNoLook op = Unit {0}

module _ (filled : ℕ → Option ℕ) (s : CoreState) where
  abbrev with_slots : CoreState
  with_slots = mirroring filled s

  -- what is read of the state after some events, but for its slots
  after_unseen : {X : Type 0} (read_in : CoreState → X) → ((f : ℕ → Option ℕ) (t : CoreState) → read_in (mirroring f t) ≡ read_in t) → (before : List CoreEvent) → read_in (run with_slots before) ≡ read_in (run s before)
  after_unseen read_in unseen before =
      let t = run with_slots before in
      ap read_in (run_unseen filled s before) ∙ unseen t.mirrored (run s before)

  loads_unseen : (a p page word : ℕ) (before : List CoreEvent) → loads with_slots before a p page word ≡ loads s before a p page word
  loads_unseen a p page word before =
      after_unseen (λ t. loads_in t before a p page word (frame_in (t.entry p page))) (λ f t. refl) before

  stores_unseen : (a p page word value : ℕ) (before : List CoreEvent) → stores with_slots before a p page word value ≡ stores s before a p page word value
  stores_unseen a p page word value before =
      after_unseen (λ t. stores_to before a p page word value (frame_in (t.entry p page))) (λ f t. refl) before

  gets_unseen : (a p handle page : ℕ) (before : List CoreEvent) → gets with_slots before a p handle page ≡ gets s before a p handle page
  gets_unseen a p handle page before =
      after_unseen (λ t. gets_by before a p handle page (entry_in (t.entry p page))) (λ f t. refl) before

  fills_unseen : (a p mirror page : ℕ) (before : List CoreEvent) → fills with_slots before a p mirror page ≡ fills s before a p mirror page
  fills_unseen a p mirror page before =
      after_unseen (λ t. fills_by before a p mirror page (entry_in (t.entry p page))) (λ f t. refl) before

  pins_unseen : (a p handle page n : ℕ) (want : Want) (last : Bool) (before : List CoreEvent) → pins with_slots before a p handle page n want last ≡ pins s before a p handle page n want last
  pins_unseen a p handle page n want last before =
      after_unseen (λ t. pins_in t before a p handle page n want last (entry_in (t.entry p page))) (λ f t. refl) before

  faulted : (fault : Fault) (turn other : List CoreEvent → CoreTurn) → ((before : List CoreEvent) → turn before ≡ other before) → after_fault fault turn ≡ after_fault fault other
  faulted (Ok before) turn other same = same before
  faulted (Err answer) turn other same = refl

  pinned_by : (fault : Fault) (a p handle page n got : ℕ) (want : Want) (fast : Bool) → pin_turn_by fault with_slots a p handle page n got want fast ≡ pin_turn_by fault s a p handle page n got want fast
  pinned_by (Ok before) a p handle page n got want fast =
      pins_unseen a p handle page n want (got + 1 == n) (raises a p got fast ++ before)
  pinned_by (Err answer) a p handle page n got want fast = refl

  fault_unseen : (a p page : ℕ) (write : Bool) (free : Option ℕ) → pin_fault with_slots a p page write free ≡ pin_fault s a p page write free
  fault_unseen a p page true free = refl
  fault_unseen a p page false free = refl

  free_unseen : (allowed : Allowed) → free_in with_slots allowed ≡ free_in s allowed
  free_unseen Any = refl
  free_unseen (Only Movable) = refl
  free_unseen (Only Normal) = refl

  frame_unseen_for : (p page : ℕ) (allowed : Allowed) → frame_for with_slots p page allowed ≡ frame_for s p page allowed
  frame_unseen_for p page allowed =
      ap (λ (free : Option ℕ). if has_tables s p page then free else None) (free_unseen allowed)

  begins_unseen : (begins : Bool) (a p handle page n got : ℕ) (want : Want) (fast : Bool) → begins_or_pins begins with_slots a p handle page n got want fast ≡ begins_or_pins begins s a p handle page n got want fast
  begins_unseen true a p handle page n got want fast = refl
  begins_unseen false a p handle page n got want fast =
      let free = frame_unseen_for p (page + got) (zones_of want) in
      pinned_by (pin_fault with_slots a p (page + got) want.write (frame_for with_slots p (page + got) (zones_of want))) a p handle (page + got) n got want fast
      ∙ ap (λ (fault : Fault). pin_turn_by fault s a p handle (page + got) n got want fast)
      (fault_unseen a p (page + got) want.write (frame_for with_slots p (page + got) (zones_of want)) ∙ ap (pin_fault s a p (page + got) want.write) free)

  ready_unseen : (a p handle page n : ℕ) (want : Want) (sequence : ℕ) (more : Bool) → ready_turn with_slots a p handle page n want sequence more ≡ ready_turn s a p handle page n want sequence more
  ready_unseen a p handle page n want sequence true = refl
  ready_unseen a p handle page n want sequence false = refl

  walk_unseen : (a p handle page n : ℕ) (want : Want) (sequence : ℕ) (step : WalkStep) → walk_turn with_slots a p handle page n want sequence step ≡ walk_turn s a p handle page n want sequence step
  walk_unseen a p handle page n want sequence ready =
      ready_unseen a p handle (page + length (s.taken a)) n want sequence (nat_lt (length (s.taken a)) n)
  walk_unseen a p handle page n want sequence step = refl

  moved_unseen : (a p handle page n got : ℕ) (want : Want) (e : Entry) (count : Counted) → moved_turn with_slots a p handle page n got want e count ≡ moved_turn s a p handle page n got want e count
  moved_unseen a p handle page n got want e unread = refl
  moved_unseen a p handle page n got want e one = ap (pins_moved a p handle page n got want e) (free_unseen (zones_of want))
  moved_unseen a p handle page n got want e (more count) = refl

  pin_unseen : (a p handle page n got : ℕ) (want : Want) (fast : Bool) (far : ℕ) (job : Job) → pin_turn_in with_slots a p handle page n got want fast far job ≡ pin_turn_in s a p handle page n got want fast far job
  pin_unseen a p handle page n got want fast far (moving q g e allowed count) = moved_unseen a p handle (page + got) n got want e count
  pin_unseen a p handle page n got want fast far (walking q write long sequence step) = walk_unseen a p handle page n want sequence step
  pin_unseen a p handle page n got want fast far job = begins_unseen (fast && far == 0) a p handle page n got want fast

  counted_unseen : (a p page : ℕ) (e : Entry) (allowed : Allowed) (count : Counted) → counted_turn with_slots a p page e allowed count ≡ counted_turn s a p page e allowed count
  counted_unseen a p page e allowed unread = refl
  counted_unseen a p page e allowed one = ap (place_turn a p page e allowed) (free_unseen allowed)
  counted_unseen a p page e allowed (more count) = refl

  move_unseen : (a p page : ℕ) (zone : Zone) (job : Job) → move_turn with_slots a p page zone job ≡ move_turn s a p page zone job
  move_unseen a p page zone (moving q g e allowed count) = counted_unseen a p page e (Only zone) count
  move_unseen a p page zone job = refl

  next_unseen : (a p c : ℕ) (done : List ℕ) (page : Option ℕ) → next_turn with_slots a p c done page ≡ next_turn s a p c done page
  next_unseen a p c done None = refl
  next_unseen a p c done (Some page) = by_entry (s.entry p page)
    where
      by_entry : (entry : Option Entry) → page_turn with_slots a p c done page entry ≡ page_turn s a p c done page entry
      by_entry None = refl
      by_entry (Some e) = refl

  copy_unseen : (a p c : ℕ) (done : List ℕ) (page word to : ℕ) (more : Bool) → copy_turn with_slots a p c done page word to more ≡ copy_turn s a p c done page word to more
  copy_unseen a p c done page word to true = refl
  copy_unseen a p c done page word to false = refl

  frame_unseen : (a p c : ℕ) (done : List ℕ) (page word : ℕ) (free : Option ℕ) → frame_turn with_slots a p c done page word free ≡ frame_turn s a p c done page word free
  frame_unseen a p c done page word None = refl
  frame_unseen a p c done page word (Some f) = refl

  copying_unseen : (a p c : ℕ) (done : List ℕ) (page word : ℕ) (prepared : Option ℕ) → copying_turn with_slots a p c done page word prepared ≡ copying_turn s a p c done page word prepared
  copying_unseen a p c done page word None = frame_unseen a p c done page word (frame_for s c page Any)
  copying_unseen a p c done page word (Some to) = copy_unseen a p c done page word to (nat_lt word words)

  share_unseen : (a p c : ℕ) (done : List ℕ) (page : ℕ) (entry : Option Entry) (may : Bool) → share_turn with_slots a p c done page entry may ≡ share_turn s a p c done page entry may
  share_unseen a p c done page entry true = refl
  share_unseen a p c done page entry false = refl

  fork_unseen : (a p child : ℕ) (job : Job) → fork_turn with_slots a p child job ≡ fork_turn s a p child job
  fork_unseen a p child (forking q c done between) = next_unseen a p child done (next_page (s.right child) done)
  fork_unseen a p child (forking q c done (counted page)) = share_unseen a p child done page (s.entry p page) (has_tables s child page)
  fork_unseen a p child (forking q c done (copying page word)) = copying_unseen a p child done page word (s.prepared a)
  fork_unseen a p child (forking q c done step) = refl
  fork_unseen a p child job = refl

  transfer_unseen : (a handle : ℕ) (outward last : Bool) (index slot f : ℕ) → moves_from with_slots a handle outward last index slot f ≡ moves_from s a handle outward last index slot f
  transfer_unseen a handle true last index slot f = refl
  transfer_unseen a handle false last index slot f = refl

  load_unseen : (a p page : ℕ) (entry : Option Entry) → load_fault with_slots a p page entry ≡ load_fault s a p page entry
  load_unseen a p page None = refl
  load_unseen a p page (Some e) = refl

  pub turn_unseen : (a p slots far : ℕ) (op : Op) → IsNoLook op → op_turn with_slots a p slots far op ≡ op_turn s a p slots far op
  turn_unseen a p slots far (Load page word) no_look =
      ap (λ (fault : Fault). after_fault fault (λ before. loads with_slots before a p page word)) (load_unseen a p page (s.entry p page))
      ∙ faulted (load_fault s a p page (s.entry p page)) (λ before. loads with_slots before a p page word) (λ before. loads s before a p page word) (loads_unseen a p page word)
  turn_unseen a p slots far (Store page word value) no_look =
      faulted (store_fault s a p page (s.entry p page)) (λ before. stores with_slots before a p page word value) (λ before. stores s before a p page word value) (stores_unseen a p page word value)
  turn_unseen a p slots far (Get handle page) no_look =
      ap (λ (fault : Fault). after_fault fault (λ before. gets with_slots before a p handle page)) (load_unseen a p page (s.entry p page))
      ∙ faulted (load_fault s a p page (s.entry p page)) (λ before. gets with_slots before a p handle page) (λ before. gets s before a p handle page) (gets_unseen a p handle page)
  turn_unseen a p slots far (Mirror mirror proc page) no_look =
      ap (λ (fault : Fault). after_fault fault (λ before. fills with_slots before a p mirror page)) (load_unseen a p page (s.entry p page))
      ∙ faulted (load_fault s a p page (s.entry p page)) (λ before. fills with_slots before a p mirror page) (λ before. fills s before a p mirror page) (fills_unseen a p mirror page)
  turn_unseen a p slots far (Pin handle page n want fast) no_look = pin_unseen a p handle page n (length (s.taken a)) want fast far (s.job a)
  turn_unseen a p slots far (Transfer handle outward slot parts) no_look =
      ap (denied_or (transfer_denial (s.handle handle) a outward slots slot parts))
      (transfer_unseen a handle outward (far + 1 == words_of parts) (word_at parts far) (slot + far) (frame_at (s.pinned handle) (word_at parts far)))
  turn_unseen a p slots far (Move proc page zone) no_look = move_unseen a p page zone (s.job a)
  turn_unseen a p slots far (Fork child) no_look = fork_unseen a p child (s.job a)
  turn_unseen a p slots far Exit no_look = exit_unseen (lowest_page (s.right p))
    where
      exit_unseen : (page : Option ℕ) → exit_turn_by with_slots a p page ≡ exit_turn_by s a p page
      exit_unseen None = refl
      exit_unseen (Some page) = refl
  turn_unseen a p slots far (Look mirror word) no_look = absurd no_look
  turn_unseen a p slots far op no_look = refl

  locks_unseen : (a p far : ℕ) (op : Op) → locks_needed with_slots a p far op ≡ locks_needed s a p far op
  locks_unseen a p far op = refl

  pub waits_unseen : (a p far : ℕ) (op : Op) → waits_born with_slots a p far op ≡ waits_born s a p far op
  waits_unseen a p far op =
      ap (λ (locks : Locks). first_waiting (handle_waits s.handle a (Some op)) (waits_for_locks locks a (s.structure p) (s.table p))) (locks_unseen a p far op)
