-- A turn answers that there is no frame, or ends a short pin so, exactly where it looks for one and finds none.
use Rattle.std.proofs.Common.{◌≡◌, ℕ, ◌+◌, ◌<◌, ◌==◌, nat_lt, Bool, true, false, if◌then◌else◌, IsTrue, List, [], ◌∷◌, ◌++◌, length, slice_index_or, Option, Some, None, IsSome, ◌⊎◌, refl, sym, ap, subst, inl, inr, ◌&&◌, zero, suc, arith}
use Rattle.std.specs.Prelude.{Ok, Err}
use Rattle.std.proofs.lemmas.Bool.Decides.{nat_tests}
use Rattle.gup_base.specs.Parts.{Part, words_of, word_at}
use Rattle.gup_base.specs.declared.entry.Allowed.TheVariants.{Any, Only}
use Rattle.gup_base.specs.declared.entry.Entry.{Entry}
use Rattle.gup_base.specs.declared.entry.Rights.{Rights}
use Rattle.gup_base.specs.declared.entry.Rights.TheVariants.{R, RW}
use Rattle.gup_base.specs.declared.entry.Want.{Want}
use Rattle.gup_base.specs.declared.entry.Zone.{Zone}
use Rattle.gup_plain.specs.State.{objects_of}
use Rattle.gup_plain.specs.declared.answer.Answer.{Answer}
use Rattle.gup_plain.specs.declared.answer.Answer.TheVariants as answers
use Rattle.gup_plain.specs.declared.note.What.{What}
use Rattle.gup_plain.specs.declared.answer.Cause.{Cause}
use Rattle.gup_plain.specs.declared.answer.Cause.TheVariants as causes
use Rattle.gup_plain.specs.declared.note.What.TheVariants.{Done}
use Rattle.gup_plain.specs.Denial.{any_mapped, any_unmapped, map_denial, protect_denial, is_held_by, has_words, has_slots, range_denial, transfer_denial_by, transfer_denial}
use Rattle.gup_plain.specs.Event.{may_write, words}
use Rattle.gup_script.specs.declared.op.Op.{Op}
use Rattle.gup_script.specs.declared.op.Op.TheVariants.{Map, Unmap, Protect, Discard, Load, Store, Pin, Unpin, Give, Take, Get, Put, Transfer, Mirror, Look, Fork, Exit, Move}
use Rattle.gup_spec_events.specs.State.{CoreState, Job, idle, moving, Counted, unread, one as counted_one, more as counted_more, forking, between, counted, copying, walking, Taken, WalkStep, ready, read, grabbed, refused as refused_step, dropping}
use Rattle.gup_spec_tables.specs.Paths.{entry_at, leads_still}
use Rattle.gup_spec_events.specs.Event.{CoreEvent, tree_in, has_tables, upgrade, restore_entry, run}
use Rattle.gup_spec_events.specs.Fault.{Fault, fills, unshares, unshare_fault, read_fault, write_fault, fills_writable, breaks, makes_writable, marks}
use Rattle.gup_spec_journal.specs.Denial.{has_reference}
use Rattle.gup_spec_journal.specs.Follows.{refuses}
use Rattle.gup_spec_turns.specs.Cause.{MayBeShared, NeedsOwn, NeedsWritable, NeedsForPin, NeedsAtPage, NeedsIfSlow, NeedsFor, LacksFrame}
use Rattle.gup_spec_turns.specs.JobPlace.{JobPlace, copying_place, job_place, place_in, unbegun, from_page, at_page, wants_frame, at_word, moving_page, in_walk}
use Rattle.gup_spec_turns.specs.CoreTurn.{CoreTurn, answers_with, free_in, frame_for, zones_of, entry_in, allows_store, silent_or_done, after_fault}
use Rattle.gup_spec_turns.specs.ForkTurns.{first_behind, next_page, page_turn, next_turn, share_turn, frame_turn, copy_turn, copying_turn, fork_turn}
use Rattle.gup_spec_turns.specs.MoveTurns.{place_turn, counted_turn, move_turn}
use Rattle.gup_spec_turns.proofs.TurnParts.{loads_after, stores_after, store_fault_by, map_turn_by, unmap_turn_by, protect_turn_by, discard_turn_by, unpin_turn_by, give_turn_by, gets_after, put_turn_by, transfer_turn_by, clear_turn_by}
use Rattle.gup_spec_turns.specs.PageTurns.{load_turn, store_turn, lowest_page, exit_turn_by}
use Rattle.gup_spec_turns.specs.Turn.{op_turn, failed_turn}
use Rattle.gup_spec_turns.specs.MirrorTurns.{fills as fills_slot, mirror_turn, look_turn}
use Rattle.gup_spec_turns.specs.PinTurns.{pin_fault, pinned_if, cause_of, ends_pin, pin_turn_by, but_last, unpinned, get_turn, got_by, got_frame, raises, moves_first, clears_or_pins, pins_moved, moved_turn, pin_turn_at, begins_or_pins, pin_turn_in}
use Rattle.gup_spec_turns.specs.WalkTurns.{begin_turn, is_same, all_turn, ready_turn, grab_turn, recheck_turn, split_last, last_turn, first_turn, walk_turn}
use Rattle.gup_law_turns.proofs.Puts.{some_same}
use Rattle.gup_law_turns.proofs.NoteRightness.{unrefused_short, not_both}
use Rattle.gup_law_turns.proofs.PageSearches.{denied_map, denied_protect}

-- the answer is one for want of a frame, or of a short pin that ended so
abbrev IsWantIn : Cause → Type 0
IsWantIn causes.NoFrame = Unit {0}
IsWantIn cause = ⊥

abbrev IsWant : Answer → Type 0
IsWant answers.NoFrame = Unit {0}
IsWant (answers.Short got wanted cause) = IsWantIn cause
IsWant answer = ⊥

abbrev IsWantNote : What → Type 0
IsWantNote (Done answer) = IsWant answer
IsWantNote what = ⊥

-- each of the notes that answers so has this cause
abbrev pub HaveCause : Type 0 → List What → Type 0
HaveCause cause [] = Unit {0}
HaveCause cause (what ∷ whats) = (IsWantNote what → cause) × HaveCause cause whats

cause_at : (cause : Type 0) (whats : List What) (what : What) (k : ℕ) → IsWantNote what → HaveCause cause whats → k < length whats → slice_index_or whats k what ≡ what → cause
cause_at cause [] what k wants have less is = absurd (omega arith)
cause_at cause (first ∷ whats) what zero wants have less is = have.0 (subst IsWantNote (sym is) wants)
cause_at cause (first ∷ whats) what (suc k) wants have less is = cause_at cause whats what k wants have.1 (omega arith) is

pub lacking : (cause : Type 0) (whats : List What) → HaveCause cause whats → LacksFrame whats → cause
lacking cause whats have (inl (k, less, is)) = cause_at cause whats (Done answers.NoFrame) k tt have less is
lacking cause whats have (inr (got, wanted, (k, less, is))) = cause_at cause whats (Done (answers.Short got wanted causes.NoFrame)) k tt have less is

-- A turn answers so exactly where it looks for a frame and finds none.
abbrev pub Finds : (frame : Option ℕ) → (needs : Type 0) → Type 0
Finds frame needs = needs × (frame ≡ None)

pub record IsExact (frame : Option ℕ) (needs : Type 0) (turn : CoreTurn) : Type 0 where
  pub only : HaveCause (Finds frame needs) turn.whats
  pub always : needs → frame ≡ None → LacksFrame turn.whats

-- a turn that never answers so, and needs none

abbrev NeverWants : CoreTurn → Type 0
NeverWants turn = HaveCause ⊥ turn.whats

have_any : (cause : Type 0) (whats : List What) → HaveCause ⊥ whats → HaveCause cause whats
have_any cause [] never = tt
have_any cause (what ∷ whats) never = ((λ want. absurd (never.0 want)), have_any cause whats never.1)

exact_never : (frame : Option ℕ) (needs : Type 0) (turn : CoreTurn) → (needs → ⊥) → NeverWants turn → IsExact frame needs turn
exact_never frame needs turn none never = record { only = have_any (Finds frame needs) turn.whats never; always = λ need free. absurd (none need) }

-- the turn of an operation that takes no frames
never : (turn : CoreTurn) → NeverWants turn → IsExact None ⊥ turn
never turn wants = exact_never None ⊥ turn (λ e. e) wants

-- an answer that is a refusal of an operation that never wants a frame
answered_so : (op : Op) (answer : Answer) → refuses op answers.NoFrame ≡ false → IsTrue (refuses op answer) → IsWant answer → ⊥
answered_so op answers.NoFrame never refusal wants = absurd (not_both (refuses op answers.NoFrame) never refusal)
answered_so op (answers.Short got wanted cause) never refusal wants = absurd (not_both (refuses op (answers.Short got wanted cause)) (unrefused_short op got wanted cause) refusal)
answered_so op answer never refusal wants = absurd wants

-- a short pin ends for want of a frame where its page was refused so
ends_so : (answer : Answer) → IsWantIn (cause_of answer) → IsWant answer
ends_so (answers.Short got wanted cause) wants = absurd wants
ends_so answer wants = wants

-- no transfer is denied for want of a frame
denied_range : (fits : Bool) (answer : Answer) → range_denial fits ≡ Some answer → IsWant answer → ⊥
denied_range true answer is = absurd (cc is)
denied_range false answer is = subst (λ (x : Answer). IsWant x → ⊥) (some_same is) (λ e. e)

denied_transfer : (holds outward may fits : Bool) (answer : Answer) → transfer_denial_by holds outward may fits ≡ Some answer → IsWant answer → ⊥
denied_transfer false outward may fits answer is = subst (λ (x : Answer). IsWant x → ⊥) (some_same is) (λ e. e)
denied_transfer true true may fits answer is = denied_range fits answer is
denied_transfer true false true fits answer is = denied_range fits answer is
denied_transfer true false false fits answer is = subst (λ (x : Answer). IsWant x → ⊥) (some_same is) (λ e. e)

-- a fault is refused so exactly where it needs a frame and none is found
abbrev IsExactFault : (frame : Option ℕ) → (needs : Type 0) → Fault → Type 0
IsExactFault frame needs (Ok events) = needs → frame ≡ None → ⊥
IsExactFault frame needs (Err answer) = (IsWant answer → Finds frame needs) × (needs → frame ≡ None → answer ≡ answers.NoFrame)

-- a frame that is found, where none is
found_and_none : (frame : Option ℕ) (f : ℕ) → frame ≡ Some f → frame ≡ None → ⊥
found_and_none frame f is none = cc

abbrev IsAbsent : Option Entry → Type 0
IsAbsent entry = entry ≡ None

-- an unmarked frame of one reference is not shared
unshared : (count : ℕ) → (count == 1) ≡ true → (count ≡ 1 → ⊥) → ⊥
unshared count is more = more (grind (arith, nat_tests))

shared : (count : ℕ) → (count == 1) ≡ false → count ≡ 1 → ⊥
shared count is one = absurd (let no : ⊥ = grind (arith, nat_tests) in no)

-- of a fault for which this frame is found
module _ (s : CoreState) (a p : ℕ) (frame : Option ℕ) where
  refused_exact : (needs : Type 0) (answer : Answer) → (IsWant answer → Finds frame needs) × (needs → frame ≡ None → answer ≡ answers.NoFrame) → IsExact frame needs (answers_with answer)
  refused_exact needs answer exact =
      record {
        only = (exact.0, tt);
        always = λ need none. inl (0, omega arith, ap Done (exact.1 need none));
      }

  loads_exact : (needs : Type 0) (page word : ℕ) (fault : Fault) → IsExactFault frame needs fault → IsExact frame needs (loads_after s fault a p page word)
  loads_exact needs page word (Ok events) exact =
      record { only = ((λ e. absurd e), ((λ e. absurd e), tt)); always = λ need none. absurd (exact need none) }
  loads_exact needs page word (Err answer) exact = refused_exact needs answer exact

  stores_exact : (needs : Type 0) (page word value : ℕ) (fault : Fault) → IsExactFault frame needs fault → IsExact frame needs (stores_after s fault a p page word value)
  stores_exact needs page word value (Ok events) exact =
      record { only = ((λ e. absurd e), ((λ e. absurd e), tt)); always = λ need none. absurd (exact need none) }
  stores_exact needs page word value (Err answer) exact = refused_exact needs answer exact

  mirrors_exact : (needs : Type 0) (mirror page : ℕ) (fault : Fault) → IsExactFault frame needs fault → IsExact frame needs (after_fault fault (λ before. fills_slot s before a p mirror page))
  mirrors_exact needs mirror page (Ok events) exact =
      record { only = ((λ e. absurd e), ((λ e. absurd e), tt)); always = λ need none. absurd (exact need none) }
  mirrors_exact needs mirror page (Err answer) exact = refused_exact needs answer exact

  gets_exact : (needs : Type 0) (handle page : ℕ) (fault : Fault) → IsExactFault frame needs fault → IsExact frame needs (gets_after s fault a p handle page)
  gets_exact needs handle page (Ok events) exact = record { only = ((λ e. absurd e), tt); always = λ need none. absurd (exact need none) }
  gets_exact needs handle page (Err answer) exact = refused_exact needs answer exact

  -- loads

  read_exact : (page : ℕ) (rights : Option Rights) (free : Option ℕ) → frame ≡ free → IsExactFault frame (IsSome rights × IsAbsent None) (read_fault a p page rights None free)
  read_exact page None free is = ((λ e. absurd e), λ need none. absurd (cc need.0))
  read_exact page (Some rights) None is = ((λ e. ((refl, refl), is)), λ need none. refl)
  read_exact page (Some rights) (Some f) is = λ need none. found_and_none frame f is none

  -- a page with an entry gets a copy where its frame may be shared

  breaks_exact : (needs : Type 0) (page : ℕ) (e : Entry) (writable : Bool) (free : Option ℕ) → needs → frame ≡ free → IsExactFault frame needs (breaks a p page e writable free)
  breaks_exact needs page e writable None need is = ((λ e. (need, is)), λ again none. refl)
  breaks_exact needs page e writable (Some f) need is = λ again none. found_and_none frame f is none

  writable_exact : (page : ℕ) (e : Entry) (mark : Bool) (count : ℕ) (one : Bool) → (count == 1) ≡ one → IsExactFault frame ((mark ≡ false) × (count ≡ 1 → ⊥)) (makes_writable a p page e mark count (frame))
  writable_exact page e true count one test = λ need none. absurd (cc need.0)
  writable_exact page e false count one test = rw test (go one test)
    where
      go : (b : Bool) → (count == 1) ≡ b → IsExactFault frame ((false ≡ false) × (count ≡ 1 → ⊥)) (if b then Ok (marks a p page e ++ upgrade a p page e.frame ∷ []) else breaks a p page e true (frame))
      go true is = λ need none. unshared count is need.1
      go false is = breaks_exact ((false ≡ false) × (count ≡ 1 → ⊥)) page e true (frame) (refl, shared count is) refl

  fills_exact : (needs : Type 0) (page : ℕ) (free : Option ℕ) → needs → frame ≡ free → IsExactFault frame needs (fills a p page free)
  fills_exact needs page None need is = ((λ e. (need, is)), λ again none. refl)
  fills_exact needs page (Some f) need is = λ again none. found_and_none frame f is none

  fills_writable_exact : (needs : Type 0) (page : ℕ) (free : Option ℕ) → needs → frame ≡ free → IsExactFault frame needs (fills_writable a p page free)
  fills_writable_exact needs page None need is = ((λ e. (need, is)), λ again none. refl)
  fills_writable_exact needs page (Some f) need is = λ again none. found_and_none frame f is none

  -- what is needed for more reasons is needed for these
  needs_too : (needs more : Type 0) (fault : Fault) → (more → needs) → (needs → more) → IsExactFault frame needs fault → IsExactFault frame more fault
  needs_too needs more (Ok events) into from exact = λ need none. exact (into need) none
  needs_too needs more (Err answer) into from exact =
      ((λ want. let finds = exact.0 want in (from finds.0, finds.1)), λ need none. exact.1 (into need) none)

  write_exact : (page : ℕ) (rights : Option Rights) (entry : Option Entry) → IsExactFault frame ((rights ≡ Some RW) × NeedsWritable s entry) (write_fault a p page rights entry s.mark s.count (frame))
  write_exact page None entry = ((λ e. absurd e), λ need none. absurd (cc need.0))
  write_exact page (Some R) entry = ((λ e. absurd e), λ need none. absurd (cc need.0))
  write_exact page (Some RW) None = fills_writable_exact ((Some RW ≡ Some RW) × NeedsWritable s None) page (frame) (refl, tt) refl
  write_exact page (Some RW) (Some e) = go e.writable refl
    where
      go : (writable : Bool) → e.writable ≡ writable → IsExactFault frame ((Some RW ≡ Some RW) × NeedsWritable s (Some e)) (if writable then Ok [] else makes_writable a p page e (s.mark e.frame) (s.count e.frame) (frame))
      go true is = λ need none. absurd (cc (is, need.1.0))
      go false is =
          needs_too (MayBeShared s e.frame) ((Some RW ≡ Some RW) × NeedsWritable s (Some e)) (makes_writable a p page e (s.mark e.frame) (s.count e.frame) (frame))
          (λ need. need.1.1) (λ shares. (refl, (is, shares)))
          (writable_exact page e (s.mark e.frame) (s.count e.frame) (s.count e.frame == 1) refl)

  -- a page of a pin

  unshare_exact : (page : ℕ) (rights : Option Rights) (entry : Option Entry) → IsExactFault frame (IsSome rights × NeedsOwn s entry) (unshare_fault a p page rights entry s.mark s.count (frame))
  unshare_exact page None entry = ((λ e. absurd e), λ need none. absurd (cc need.0))
  unshare_exact page (Some rights) None = fills_exact (IsSome (Some rights) × NeedsOwn s None) page (frame) (refl, tt) refl
  unshare_exact page (Some rights) (Some e) =
      needs_too (MayBeShared s e.frame) (IsSome (Some rights) × NeedsOwn s (Some e)) (unshares a p page e (s.mark e.frame) (s.count e.frame) (frame))
      (λ need. need.1) (λ shares. (refl, shares)) (by_mark (s.mark e.frame) (s.count e.frame) (s.count e.frame == 1) refl)
    where
      by_count : (count : ℕ) (b : Bool) → (count == 1) ≡ b → IsExactFault frame ((false ≡ false) × (count ≡ 1 → ⊥)) (if b then Ok (marks a p page e) else breaks a p page e false (frame))
      by_count count true is = λ need none. unshared count is need.1
      by_count count false is = breaks_exact ((false ≡ false) × (count ≡ 1 → ⊥)) page e false (frame) (refl, shared count is) refl

      by_mark : (mark : Bool) (count : ℕ) (one : Bool) → (count == 1) ≡ one → IsExactFault frame ((mark ≡ false) × (count ≡ 1 → ⊥)) (unshares a p page e mark count (frame))
      by_mark true count one test = λ need none. absurd (cc need.0)
      by_mark false count one test = rw test (by_count count one test)

  pin_fault_exact : (page : ℕ) (write : Bool) → IsExactFault frame (NeedsForPin s p page write) (pin_fault s a p page write (frame))
  pin_fault_exact page true = write_exact page (s.right p page) (s.entry p page)
  pin_fault_exact page false = unshare_exact page (s.right p page) (s.entry p page)

  ends_exact : (needs : Type 0) (handle n got : ℕ) (before : List CoreEvent) (answer : Answer) → (IsWant answer → Finds frame needs) × (needs → frame ≡ None → answer ≡ answers.NoFrame) → IsExact frame needs (ends_pin before a handle n got answer)
  ends_exact needs handle n zero before answer exact =
      record {
        only = (exact.0, tt);
        always = λ need none. inl (0, omega arith, ap Done (exact.1 need none));
      }
  ends_exact needs handle n (suc got) before answer exact =
      record {
        only = ((λ e. absurd e), ((λ e. exact.0 (ends_so answer e)), tt));
        always = λ need none. inr (suc got, n, (1, omega arith, ap (λ (x : Answer). Done (answers.Short (suc got) n (cause_of x))) (exact.1 need none)));
      }

  pinned_cause : (cause : Type 0) (last : Bool) (handle n : ℕ) → HaveCause cause (pinned_if last a handle n)
  pinned_cause cause true handle n = ((λ e. absurd e), ((λ e. absurd e), tt))
  pinned_cause cause false handle n = tt

  pins_cause : (cause : Type 0) (handle page n : ℕ) (want : Want) (before : List CoreEvent) (last : Bool) (e : Entry) (moves : Bool) → HaveCause cause (clears_or_pins moves before a p handle page n want last e).whats
  pins_cause cause handle page n want before last e true = ((λ e. absurd e), tt)
  pins_cause cause handle page n want before last e false = ((λ e. absurd e), pinned_cause cause last handle n)

  pin_exact : (needs : Type 0) (handle page n got : ℕ) (want : Want) (fast : Bool) (fault : Fault) → IsExactFault frame needs fault → IsExact frame needs (pin_turn_by fault s a p handle page n got want fast)
  pin_exact needs handle page n got want fast (Err answer) exact = ends_exact needs handle n got (raises a p got fast) answer exact
  pin_exact needs handle page n got want fast (Ok before) exact =
      record {
        only = pins_cause (Finds frame needs) handle page n want (raises a p got fast ++ before) (got + 1 == n)
            (entry_in ((run s (raises a p got fast ++ before)).entry p page)) (moves_first (run s (raises a p got fast ++ before)) want (entry_in ((run s (raises a p got fast ++ before)).entry p page)));
        always = λ need none. absurd (exact need none);
      }

-- ---- which frame the next turn of an operation looks for

-- a page, where that may be
abbrev pub page_if : (may : Bool) → (page : ℕ) → Option ℕ
page_if true page = Some page
page_if false page = None

-- a fork looks for the frame of a copy, and for the tables of its child's page
abbrev pub copy_frame : CoreState → (c page : ℕ) → (prepared : Option ℕ) → Option ℕ
copy_frame s c page None = frame_for s c page Any
copy_frame s c page (Some to) = None

abbrev pub fork_frame : CoreState → (c : ℕ) → Job → (prepared : Option ℕ) → Option ℕ
fork_frame s c (forking q d done (counted page)) prepared = page_if (has_tables s c page) page
fork_frame s c (forking q d done (copying page word)) prepared = copy_frame s c page prepared
fork_frame s c job prepared = None

abbrev pub ForkWants : JobPlace → Type 0
ForkWants place = (page : ℕ) × ((place ≡ wants_frame page) ⊎ (place ≡ at_page page))

-- a pin that has cleared a page has its tables
abbrev pub pin_frame : CoreState → (p page : ℕ) → Want → Job → Option ℕ
pin_frame s p page want (moving q g e allowed count) = free_in s (zones_of want)
pin_frame s p page want job = frame_for s p page (zones_of want)

abbrev pub turn_frame : CoreState → (a p : ℕ) → Op → Option ℕ
turn_frame s a p (Load page word) = frame_for s p page Any
turn_frame s a p (Store page word value) = frame_for s p page Any
turn_frame s a p (Get handle page) = frame_for s p page Any
turn_frame s a p (Mirror mirror proc page) = frame_for s p page Any
turn_frame s a p (Pin handle page n want fast) = pin_frame s p (page + length (s.taken a)) want (s.job a)
turn_frame s a p (Move proc page zone) = free_in s (Only zone)
turn_frame s a p (Fork child) = fork_frame s child (s.job a) (s.prepared a)
turn_frame s a p op = None

-- whether it looks for one
abbrev pub Wants : CoreState → (a p far : ℕ) → Op → Type 0
Wants s a p far (Fork child) = ForkWants (place_in s a)
Wants s a p far op = NeedsFor s a p far op

module _ (s : CoreState) (a p : ℕ) where
  load_exact : (page word : ℕ) (entry : Option Entry) → IsExact (frame_for s p page Any) (IsSome (s.right p page) × (entry ≡ None)) (load_turn s a p page word entry)
  load_exact page word (Some e) = loads_exact s a p (frame_for s p page Any) (IsSome (s.right p page) × (Some e ≡ None)) page word (Ok []) (λ need none. absurd (cc need.1))
  load_exact page word None =
      loads_exact s a p (frame_for s p page Any) (IsSome (s.right p page) × IsAbsent None) page word (read_fault a p page (s.right p page) None (frame_for s p page Any)) (read_exact s a p (frame_for s p page Any) page (s.right p page) (frame_for s p page Any) refl)

  get_exact : (handle page : ℕ) (entry : Option Entry) → IsExact (frame_for s p page Any) (IsSome (s.right p page) × (entry ≡ None)) (get_turn s a p handle page entry)
  get_exact handle page (Some e) = gets_exact s a p (frame_for s p page Any) (IsSome (s.right p page) × (Some e ≡ None)) handle page (Ok []) (λ need none. absurd (cc need.1))
  get_exact handle page None =
      gets_exact s a p (frame_for s p page Any) (IsSome (s.right p page) × IsAbsent None) handle page (read_fault a p page (s.right p page) None (frame_for s p page Any)) (read_exact s a p (frame_for s p page Any) page (s.right p page) (frame_for s p page Any) refl)

  mirror_exact : (mirror page : ℕ) (entry : Option Entry) → IsExact (frame_for s p page Any) (IsSome (s.right p page) × (entry ≡ None)) (mirror_turn s a p mirror page entry)
  mirror_exact mirror page (Some e) = mirrors_exact s a p (frame_for s p page Any) (IsSome (s.right p page) × (Some e ≡ None)) mirror page (Ok []) (λ need none. absurd (cc need.1))
  mirror_exact mirror page None =
      mirrors_exact s a p (frame_for s p page Any) (IsSome (s.right p page) × IsAbsent None) mirror page (read_fault a p page (s.right p page) None (frame_for s p page Any)) (read_exact s a p (frame_for s p page Any) page (s.right p page) (frame_for s p page Any) refl)

  store_exact : (page word value : ℕ) (entry : Option Entry) → IsExact (frame_for s p page Any) ((s.right p page ≡ Some RW) × NeedsWritable s entry) (store_turn s a p page word value entry)
  store_exact page word value entry =
      stores_exact s a p (frame_for s p page Any) ((s.right p page ≡ Some RW) × NeedsWritable s entry) page word value (store_fault_by (allows_store entry) s a p page entry) (by_entry (allows_store entry) refl)
    where
      writes : (o : Option Entry) → allows_store o ≡ true → NeedsWritable s o → ⊥
      writes None is need = cc is
      writes (Some e) is need = cc (is, need.0)

      by_entry : (allowed : Bool) → allows_store entry ≡ allowed → IsExactFault (frame_for s p page Any) ((s.right p page ≡ Some RW) × NeedsWritable s entry) (store_fault_by allowed s a p page entry)
      by_entry true is = λ need none. writes entry is need.1
      by_entry false is = write_exact s a p (frame_for s p page Any) page (s.right p page) entry

  -- what is done with a pin, a reference or a mirror that is there wants no frame

  look_cause : (mirror word : ℕ) (frame : Option ℕ) → NeverWants (look_turn s a mirror word frame)
  look_cause mirror word None = ((λ e. absurd e), tt)
  look_cause mirror word (Some f) = ((λ e. absurd e), ((λ e. absurd e), tt))

  unpin_cause : (held : Bool) (handle : ℕ) (pinned : List ℕ) → NeverWants (unpin_turn_by held a handle pinned)
  unpin_cause false handle pinned = ((λ e. absurd e), tt)
  unpin_cause true handle pinned = go (but_last pinned)
    where
      go : (left : List ℕ) → HaveCause ⊥ (unpinned left a handle)
      go [] = ((λ e. absurd e), ((λ e. absurd e), tt))
      go (f ∷ left) = ((λ e. absurd e), tt)

  give_cause : (held : Bool) (handle to : ℕ) → NeverWants (give_turn_by held a handle to)
  give_cause false handle to = ((λ e. absurd e), tt)
  give_cause true handle to = ((λ e. absurd e), ((λ e. absurd e), tt))

  put_cause : (held : Bool) (handle f : ℕ) → NeverWants (put_turn_by held a handle f)
  put_cause false handle f = ((λ e. absurd e), tt)
  put_cause true handle f = ((λ e. absurd e), tt)

  transfer_cause : (slots handle : ℕ) (outward last : Bool) (slot i j : ℕ) (parts : List Part) (denied : Option Answer) → transfer_denial (s.handle handle) a outward slots slot parts ≡ denied → NeverWants (transfer_turn_by denied s a handle outward last i j)
  transfer_cause slots handle outward last slot i j parts (Some answer) is =
      ((λ e. denied_transfer (is_held_by (s.handle handle) a) outward (may_write (s.handle handle)) (has_words (length (objects_of (s.handle handle))) parts && has_slots slots slot parts) answer is e), tt)
  transfer_cause slots handle outward true slot i j parts None is = ((λ e. absurd e), ((λ e. absurd e), tt))
  transfer_cause slots handle outward false slot i j parts None is = ((λ e. absurd e), tt)

  map_cause : (page n : ℕ) (rights : Rights) (denied : Option Answer) → map_denial (any_mapped (s.right p) page n) (s.pages p) n ≡ denied → NeverWants (map_turn_by denied a p page n rights)
  map_cause page n rights (Some answer) is =
      ((λ e. answered_so (Map page n rights) answer refl (denied_map page n rights (any_mapped (s.right p) page n) (s.pages p) answer is) e), tt)
  map_cause page n rights None is = ((λ e. absurd e), ((λ e. absurd e), tt))

  protect_cause : (page n : ℕ) (rights : Rights) (denied : Option Answer) → protect_denial (any_unmapped (s.right p) page n) ≡ denied → NeverWants (protect_turn_by denied s a p page n rights)
  protect_cause page n rights (Some answer) is =
      ((λ e. answered_so (Protect page n rights) answer refl (denied_protect page n rights (any_unmapped (s.right p) page n) answer is) e), tt)
  protect_cause page n rights None is = ((λ e. absurd e), ((λ e. absurd e), tt))

  passed_cause : (last : Bool) → HaveCause ⊥ (silent_or_done last)
  passed_cause true = ((λ e. absurd e), tt)
  passed_cause false = ((λ e. absurd e), tt)

  unmap_cause : (page : ℕ) (rights : Option Rights) (entry : Option Entry) (last : Bool) → NeverWants (unmap_turn_by rights a p page entry last)
  unmap_cause page None entry last = passed_cause last
  unmap_cause page (Some rights) entry true = ((λ e. absurd e), ((λ e. absurd e), tt))
  unmap_cause page (Some rights) entry false = ((λ e. absurd e), tt)

  discard_cause : (page : ℕ) (rights : Option Rights) (entry : Option Entry) (last : Bool) → NeverWants (discard_turn_by rights a p page entry last)
  discard_cause page None entry last = passed_cause last
  discard_cause page (Some rights) entry true = ((λ e. absurd e), ((λ e. absurd e), tt))
  discard_cause page (Some rights) entry false = ((λ e. absurd e), tt)

  exit_cause : (found : Option ℕ) → NeverWants (exit_turn_by s a p found)
  exit_cause None = ((λ e. absurd e), tt)
  exit_cause (Some page) = ((λ e. absurd e), tt)

  -- a fork looks for a frame only at a page that it copies, and for tables there and at one that it shares

  page_cause : (c : ℕ) (done : List ℕ) (page : ℕ) (entry : Option Entry) → NeverWants (page_turn s a p c done page entry)
  page_cause c done page None = ((λ e. absurd e), tt)
  page_cause c done page (Some entry) = ((λ e. absurd e), tt)

  next_cause : (c : ℕ) (done : List ℕ) (found : Option ℕ) → NeverWants (next_turn s a p c done found)
  next_cause c done None = ((λ e. absurd e), ((λ e. absurd e), tt))
  next_cause c done (Some page) = page_cause c done page (s.entry p page)

  copy_cause : (c : ℕ) (done : List ℕ) (page word to : ℕ) (more : Bool) → NeverWants (copy_turn s a p c done page word to more)
  copy_cause c done page word to true = ((λ e. absurd e), tt)
  copy_cause c done page word to false = ((λ e. absurd e), tt)

  frame_exact : (c : ℕ) (done : List ℕ) (page word : ℕ) (frame : Option ℕ) → IsExact frame (ForkWants (wants_frame page)) (frame_turn s a p c done page word frame)
  frame_exact c done page word None =
      record {
        only = ((λ e. absurd e), ((λ e. ((page, inl refl), refl)), tt));
        always = λ need none. inl (1, omega arith, refl);
      }
  frame_exact c done page word (Some f) =
      record { only = ((λ e. absurd e), tt); always = λ need none. absurd (cc none) }

  share_exact : (c : ℕ) (done : List ℕ) (page : ℕ) (entry : Option Entry) (may : Bool) → IsExact (page_if may page) (ForkWants (at_page page)) (share_turn s a p c done page entry may)
  share_exact c done page entry true =
      record { only = ((λ e. absurd e), tt); always = λ need none. absurd (cc none) }
  share_exact c done page entry false =
      record {
        only = ((λ e. absurd e), ((λ e. ((page, inr refl), refl)), tt));
        always = λ need none. inl (1, omega arith, refl);
      }

  -- a turn of a fork that stands elsewhere
  elsewhere : (x : JobPlace) (turn : CoreTurn) → (ForkWants x → ⊥) → NeverWants turn → IsExact None (ForkWants x) turn
  elsewhere x turn none never = exact_never None (ForkWants x) turn none never

  copying_exact : (c : ℕ) (done : List ℕ) (page word : ℕ) (prepared : Option ℕ) → IsExact (copy_frame s c page prepared) (ForkWants (copying_place page word prepared)) (copying_turn s a p c done page word prepared)
  copying_exact c done page word None = frame_exact c done page word (frame_for s c page Any)
  copying_exact c done page word (Some to) =
      elsewhere (at_word page word to) (copy_turn s a p c done page word to (nat_lt word words)) (λ wants. elim wants.1 [ inl is ↦ cc is | inr is ↦ cc is ]) (copy_cause c done page word to (nat_lt word words))

  fork_exact : (child : ℕ) (job : Job) → IsExact (fork_frame s child job (s.prepared a)) (ForkWants (job_place job (s.prepared a))) (fork_turn s a p child job)
  fork_exact child (forking q c done between) =
      elsewhere (from_page (first_behind done)) (fork_turn s a p child (forking q c done between)) (λ wants. elim wants.1 [ inl is ↦ cc is | inr is ↦ cc is ]) (next_cause child done (next_page (s.right child) done))
  fork_exact child (forking q c done (counted page)) = share_exact child done page (s.entry p page) (has_tables s child page)
  fork_exact child (forking q c done (copying page word)) = copying_exact child done page word (s.prepared a)
  fork_exact child (forking q c done step) = elsewhere unbegun (fork_turn s a p child (forking q c done step)) (λ wants. elim wants.1 [ inl is ↦ cc is | inr is ↦ cc is ]) ((λ e. absurd e), tt)
  fork_exact child (moving q g e allowed count) = elsewhere (moving_page g e count) (fork_turn s a p child (moving q g e allowed count)) (λ wants. elim wants.1 [ inl is ↦ cc is | inr is ↦ cc is ]) ((λ e. absurd e), tt)
  fork_exact child (walking q write long sequence step) = elsewhere (in_walk sequence step) (fork_turn s a p child (walking q write long sequence step)) (λ wants. elim wants.1 [ inl is ↦ cc is | inr is ↦ cc is ]) ((λ e. absurd e), tt)
  fork_exact child job = elsewhere unbegun (fork_turn s a p child job) (λ wants. elim wants.1 [ inl is ↦ cc is | inr is ↦ cc is ]) ((λ e. absurd e), tt)

  -- a move needs a frame only after a count of 1, and is refused so only where none is free

  abbrev MoveNeeds : JobPlace → Type 0
  MoveNeeds x = (g : ℕ) × (e : Entry) × (x ≡ moving_page g e counted_one)

  unmoved : (zone : Zone) (x : JobPlace) (turn : CoreTurn) → ((g : ℕ) (e : Entry) → x ≡ moving_page g e counted_one → ⊥) → NeverWants turn → IsExact (free_in s (Only zone)) (MoveNeeds x) turn
  unmoved zone x turn none never = exact_never (free_in s (Only zone)) (MoveNeeds x) turn (λ need. none need.0 need.1 need.2) never

  clear_cause : (page : ℕ) (zone : Zone) (right : Option Rights) (entry : Option Entry) → NeverWants (clear_turn_by right a p page zone entry)
  clear_cause page zone None entry = ((λ e. absurd e), tt)
  clear_cause page zone (Some rights) None = ((λ e. absurd e), tt)
  clear_cause page zone (Some rights) (Some entry) = ((λ e. absurd e), tt)

  place_exact : (page : ℕ) (zone : Zone) (g : ℕ) (e : Entry) (free : Option ℕ) → IsExact free (MoveNeeds (moving_page g e counted_one)) (place_turn a p page e (Only zone) free)
  place_exact page zone g e None =
      record {
        only = ((λ want. ((g, e, refl), refl)), tt);
        always = λ need none. inl (0, omega arith, refl);
      }
  place_exact page zone g e (Some f) =
      record { only = ((λ e. absurd e), tt); always = λ need none. absurd (cc none) }

  counted_exact : (page : ℕ) (zone : Zone) (g : ℕ) (e : Entry) (count : Counted) → IsExact (free_in s (Only zone)) (MoveNeeds (moving_page g e count)) (counted_turn s a p page e (Only zone) count)
  counted_exact page zone g e unread = unmoved zone (moving_page g e unread) (counted_turn s a p page e (Only zone) unread) (λ k d is. cc is) ((λ e. absurd e), tt)
  counted_exact page zone g e counted_one = place_exact page zone g e (free_in s (Only zone))
  counted_exact page zone g e (counted_more n) = unmoved zone (moving_page g e (counted_more n)) (counted_turn s a p page e (Only zone) (counted_more n)) (λ k d is. cc is) ((λ e. absurd e), tt)

  move_exact : (page : ℕ) (zone : Zone) (job : Job) → IsExact (free_in s (Only zone)) (MoveNeeds (job_place job (s.prepared a))) (move_turn s a p page zone job)
  move_exact page zone idle = unmoved zone unbegun (move_turn s a p page zone idle) (λ k d is. cc is) (clear_cause page zone (s.right p page) (s.entry p page))
  move_exact page zone (moving q g e allowed count) = counted_exact page zone g e count
  move_exact page zone (forking q c done between) = unmoved zone (from_page (first_behind done)) (move_turn s a p page zone (forking q c done between)) (λ k d is. cc is) ((λ e. absurd e), tt)
  move_exact page zone (forking q c done (counted g)) = unmoved zone (at_page g) (move_turn s a p page zone (forking q c done (counted g))) (λ k d is. cc is) ((λ e. absurd e), tt)
  move_exact page zone (forking q c done (copying g word)) = unmoved zone (copying_place g word (s.prepared a)) (move_turn s a p page zone (forking q c done (copying g word))) (λ k d is. elsewhere_copying g word k d (s.prepared a) is) ((λ e. absurd e), tt)
    where
      elsewhere_copying : (g word k : ℕ) (d : Entry) (prepared : Option ℕ) → copying_place g word prepared ≡ moving_page k d counted_one → ⊥
      elsewhere_copying g word k d None is = cc is
      elsewhere_copying g word k d (Some to) is = cc is
  move_exact page zone (walking q write long sequence step) = unmoved zone (in_walk sequence step) (move_turn s a p page zone (walking q write long sequence step)) (λ k d is. cc is) ((λ e. absurd e), tt)
  move_exact page zone job = unmoved zone unbegun (move_turn s a p page zone job) (λ k d is. cc is) ((λ e. absurd e), tt)

  -- a long pin that has cleared a page needs a frame only after a count of 1, and is refused so only where none is free

  moved_exact : (handle page n got : ℕ) (want : Want) (e : Entry) (free : Option ℕ) → IsExact free (Unit {0}) (pins_moved a p handle page n got want e free)
  moved_exact handle page n got want e None =
      ends_exact s a p None (Unit {0}) handle n got (restore_entry a p page e (zones_of want) counted_one ∷ []) answers.NoFrame ((λ wants. (tt, refl)), λ need none. refl)
  moved_exact handle page n got want e (Some f) =
      record {
        only = ((λ e. absurd e), pinned_cause s a p (Some f) (Finds (Some f) (Unit {0})) (got + 1 == n) handle n);
        always = λ need none. absurd (cc none);
      }

  cleared_exact : (handle page n got : ℕ) (want : Want) (g : ℕ) (e : Entry) (count : Counted) → IsExact (free_in s (zones_of want)) (NeedsAtPage s p page want.write (moving_page g e count)) (moved_turn s a p handle page n got want e count)
  cleared_exact handle page n got want g e unread = exact_never (free_in s (zones_of want)) ⊥ (moved_turn s a p handle page n got want e unread) (λ need. need) ((λ e. absurd e), tt)
  cleared_exact handle page n got want g e counted_one = moved_exact handle page n got want e (free_in s (zones_of want))
  cleared_exact handle page n got want g e (counted_more count) =
      ends_exact s a p (free_in s (zones_of want)) ⊥ handle n got (restore_entry a p page e (zones_of want) (counted_more count) ∷ []) (answers.Unmovable count) ((λ wants. absurd wants), λ need none. absurd need)

  -- one that has cleared none needs one as its page does
  uncleared : (handle page n got : ℕ) (want : Want) (fast : Bool) → IsExact (frame_for s p (page + got) (zones_of want)) (NeedsForPin s p (page + got) want.write) (pin_turn_at s a p handle page n got want fast)
  uncleared handle page n got want fast =
      pin_exact s a p (frame_for s p (page + got) (zones_of want)) (NeedsForPin s p (page + got) want.write) handle (page + got) n got want fast
      (pin_fault s a p (page + got) want.write (frame_for s p (page + got) (zones_of want))) (pin_fault_exact s a p (frame_for s p (page + got) (zones_of want)) (page + got) want.write)

  -- no turn of a walk wants a frame

  all_cause : (handle n : ℕ) (want : Want) (sequence now : ℕ) (same : Bool) → NeverWants (all_turn a p handle n want sequence now same)
  all_cause handle n want sequence now true = ((λ e. absurd e), ((λ e. absurd e), tt))
  all_cause handle n want sequence now false = ((λ e. absurd e), tt)

  ready_cause : (handle page n : ℕ) (want : Want) (sequence : ℕ) (more : Bool) → NeverWants (ready_turn s a p handle page n want sequence more)
  ready_cause handle page n want sequence true = ((λ e. absurd e), tt)
  ready_cause handle page n want sequence false = all_cause handle n want sequence (s.sequence p) (s.sequence p == sequence)

  grab_cause : (want : Want) (sequence g : ℕ) (path : List ℕ) (e : Entry) (count : ℕ) → NeverWants (grab_turn a p want sequence g path e count)
  grab_cause want sequence g path e zero = ((λ e. absurd e), tt)
  grab_cause want sequence g path e (suc count) = ((λ e. absurd e), tt)

  recheck_cause : (want : Want) (sequence g : ℕ) (path : List ℕ) (e : Entry) (leads same : Bool) → NeverWants (recheck_turn a p want sequence g path e leads same)
  recheck_cause want sequence g path e true true = ((λ e. absurd e), tt)
  recheck_cause want sequence g path e true false = ((λ e. absurd e), tt)
  recheck_cause want sequence g path e false same = ((λ e. absurd e), tt)

  last_cause : (want : Want) (sequence : ℕ) (split : Option (List Taken × Taken)) → NeverWants (last_turn a p want sequence split)
  last_cause want sequence None = ((λ e. absurd e), tt)
  last_cause want sequence (Some (rest, last)) = ((λ e. absurd e), tt)

  first_cause : (want : Want) (sequence : ℕ) (taken : List Taken) → NeverWants (first_turn a p want sequence taken)
  first_cause want sequence [] = ((λ e. absurd e), tt)
  first_cause want sequence (t ∷ rest) = ((λ e. absurd e), tt)

  walk_cause : (handle page n : ℕ) (want : Want) (sequence : ℕ) (step : WalkStep) → NeverWants (walk_turn s a p handle page n want sequence step)
  walk_cause handle page n want sequence ready =
      ready_cause handle (page + length (s.taken a)) n want sequence (nat_lt (length (s.taken a)) n)
  walk_cause handle page n want sequence (read g path e) = grab_cause want sequence g path e (s.count e.frame)
  walk_cause handle page n want sequence (grabbed g path e) =
      recheck_cause want sequence g path e (leads_still (tree_in s p) path g) (is_same e (entry_at (tree_in s p) path g))
  walk_cause handle page n want sequence refused_step = last_cause want sequence (split_last (s.taken a))
  walk_cause handle page n want sequence dropping = first_cause want sequence (s.taken a)
  walk_cause handle page n want sequence step = ((λ e. absurd e), tt)

  -- nor does the one that begins it; any other needs one as its page does
  module _ (handle page n got : ℕ) (want : Want) (fast : Bool) where
    begin_exact : IsExact (frame_for s p (page + got) (zones_of want)) ⊥ (begin_turn a p want)
    begin_exact = exact_never (frame_for s p (page + got) (zones_of want)) ⊥ (begin_turn a p want) (λ need. need) ((λ e. absurd e), tt)

    abbrev IsExactAt : (begins : Bool) → JobPlace → Type 0
    IsExactAt begins place = IsExact (frame_for s p (page + got) (zones_of want)) (NeedsIfSlow begins s p (page + got) want.write place) (begins_or_pins begins s a p handle page n got want fast)

    unbegun_exact : (begins : Bool) → IsExactAt begins unbegun
    unbegun_exact true = begin_exact
    unbegun_exact false = uncleared handle page n got want fast

    from_exact : (begins : Bool) (g : ℕ) → IsExactAt begins (from_page g)
    from_exact true g = begin_exact
    from_exact false g = uncleared handle page n got want fast

    at_exact : (begins : Bool) (g : ℕ) → IsExactAt begins (at_page g)
    at_exact true g = begin_exact
    at_exact false g = uncleared handle page n got want fast

    copies_exact : (begins : Bool) (g word : ℕ) (prepared : Option ℕ) → IsExactAt begins (copying_place g word prepared)
    copies_exact true g word None = begin_exact
    copies_exact true g word (Some to) = begin_exact
    copies_exact false g word None = uncleared handle page n got want fast
    copies_exact false g word (Some to) = uncleared handle page n got want fast

    moving_exact : (begins : Bool) (g : ℕ) (e : Entry) (count : Counted) → IsExact (free_in s (zones_of want)) (NeedsIfSlow begins s p (page + got) want.write (moving_page g e count)) (moved_turn s a p handle (page + got) n got want e count)
    moving_exact true g e count = cleared_exact handle (page + got) n got want g e count
    moving_exact false g e count = cleared_exact handle (page + got) n got want g e count

    walking_exact : (begins : Bool) (sequence : ℕ) (step : WalkStep) → IsExact (frame_for s p (page + got) (zones_of want)) (NeedsIfSlow begins s p (page + got) want.write (in_walk sequence step)) (walk_turn s a p handle page n want sequence step)
    walking_exact true sequence step = exact_never (frame_for s p (page + got) (zones_of want)) ⊥ (walk_turn s a p handle page n want sequence step) (λ need. need) (walk_cause handle page n want sequence step)
    walking_exact false sequence step = exact_never (frame_for s p (page + got) (zones_of want)) ⊥ (walk_turn s a p handle page n want sequence step) (λ need. need) (walk_cause handle page n want sequence step)

    pin_in_exact : (far : ℕ) (job : Job) → IsExact (pin_frame s p (page + got) want job) (NeedsIfSlow (fast && far == 0) s p (page + got) want.write (job_place job (s.prepared a))) (pin_turn_in s a p handle page n got want fast far job)
    pin_in_exact far (moving q g e allowed count) = moving_exact (fast && far == 0) g e count
    pin_in_exact far (walking q write long sequence step) = walking_exact (fast && far == 0) sequence step
    pin_in_exact far (forking q c done between) = from_exact (fast && far == 0) (first_behind done)
    pin_in_exact far (forking q c done (counted g)) = at_exact (fast && far == 0) g
    pin_in_exact far (forking q c done (copying g word)) = copies_exact (fast && far == 0) g word (s.prepared a)
    pin_in_exact far job = unbegun_exact (fast && far == 0)

  pub op_exact : (slots far : ℕ) (op : Op) → IsExact (turn_frame s a p op) (Wants s a p far op) (op_turn s a p slots far op)
  op_exact slots far (Map page n rights) =
      never (op_turn s a p slots far (Map page n rights)) (map_cause page n rights (map_denial (any_mapped (s.right p) page n) (s.pages p) n) refl)
  op_exact slots far (Unmap page n) =
      never (op_turn s a p slots far (Unmap page n)) (unmap_cause (page + far) (s.right p (page + far)) (s.entry p (page + far)) (far + 1 == n))
  op_exact slots far (Load page word) = load_exact page word (s.entry p page)
  op_exact slots far (Store page word value) = store_exact page word value (s.entry p page)
  op_exact slots far (Protect page n rights) =
      never (op_turn s a p slots far (Protect page n rights)) (protect_cause page n rights (protect_denial (any_unmapped (s.right p) page n)) refl)
  op_exact slots far (Discard page n) =
      never (op_turn s a p slots far (Discard page n)) (discard_cause (page + far) (s.right p (page + far)) (s.entry p (page + far)) (far + 1 == n))
  op_exact slots far (Pin handle page n want fast) =
      pin_in_exact handle page n (length (s.taken a)) want fast far (s.job a)
  op_exact slots far (Unpin handle) =
      never (op_turn s a p slots far (Unpin handle)) (unpin_cause (is_held_by (s.handle handle) a) handle (s.pinned handle))
  op_exact slots far (Give handle to) = never (op_turn s a p slots far (Give handle to)) (give_cause (is_held_by (s.handle handle) a) handle to)
  op_exact slots far (Take handle) = never (op_turn s a p slots far (Take handle)) ((λ e. absurd e), ((λ e. absurd e), tt))
  op_exact slots far (Get handle page) = get_exact handle page (s.entry p page)
  op_exact slots far (Put handle) = never (op_turn s a p slots far (Put handle)) (put_cause (has_reference (got_by (s.got handle)) a) handle (got_frame (s.got handle)))
  op_exact slots far (Transfer handle outward slot parts) =
      never (op_turn s a p slots far (Transfer handle outward slot parts))
      (transfer_cause slots handle outward (far + 1 == words_of parts) slot (word_at parts far) (slot + far) parts (transfer_denial (s.handle handle) a outward slots slot parts) refl)
  op_exact slots far (Mirror mirror proc page) = mirror_exact mirror page (s.entry p page)
  op_exact slots far (Look mirror word) = never (op_turn s a p slots far (Look mirror word)) (look_cause mirror word (s.mirrored mirror))
  op_exact slots far (Move proc page zone) = move_exact page zone (s.job a)
  op_exact slots far (Fork child) = fork_exact child (s.job a)
  op_exact slots far Exit = never (op_turn s a p slots far Exit) (exit_cause (lowest_page (s.right p)))

  -- of a process that failed every operation is refused as unborn
  pub failed_cause : (op : Op) → NeverWants (failed_turn a p op)
  failed_cause (Fork child) = ((λ e. absurd e), ((λ e. absurd e), tt))
  failed_cause op = ((λ e. absurd e), tt)
