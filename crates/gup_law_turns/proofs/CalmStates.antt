-- A state in which no mirror slot is filled, and of which events turns are made.
use Rattle.std.proofs.Common.{◌≡◌, ℕ, ◌<◌, Bool, List, [], ◌∷◌, Option, None, ◌⊎◌}
use Rattle.gup_base.specs.declared.entry.Allowed.{Allowed}
use Rattle.gup_base.specs.declared.entry.Entry.{Entry}
use Rattle.gup_base.specs.declared.entry.Rights.{Rights}
use Rattle.gup_spec_events.specs.State.{CoreState, ForkStep, Counted, WalkStep, Taken}
use Rattle.gup_spec_events.specs.Event.{CoreEvent, take_frame, fill, count_one, set_mark, upgrade, break_entry, put_entry, map_pages, lower_entry, protect_pages, drop_entry, discard_entry, add_table, take_out, reclaim, load, store, raise_flag, pin_page, make_handle, unpin_page, give_handle, take_handle, get_reference, put_reference, move_out, move_in, begin_fork, count_page, share_entry, share_mark, share_child, copy_word, place_child, pass_page, end_fork, fail_fork, put_child, fail_unborn, clear_entry, count_moved, place_frame, restore_entry, enter_walk, read_sequence, read_link, read_entry, grab_frame, miss_frame, recheck_above, recheck_same, recheck_other, read_mark, read_again, drop_grab, drop_last, drop_first, leave_walk, empty_mirror, fill_mirror, look}
use Rattle.gup_script.specs.Limits.{most_mirrors}

-- no mirror is filled
pub record IsCalm (s : CoreState) : Type 0 where
  pub unmirrored : (m : ℕ) → s.mirrored m ≡ None

-- What an operation is about, beside its process: pages alone, the page that it moves, the pin that it makes, one that it
-- gives, takes, gives back or moves words of, the reference that it gets or puts back, or the mirror slot that it fills.
pub data Strand : Type 0 where
  of_pages : Strand
  of_move : Strand
  of_pin : (handle : ℕ) → Strand
  of_handle : (handle : ℕ) → Strand
  of_get : (handle : ℕ) → Strand
  of_put : (handle : ℕ) → Strand
  of_mirror : (mirror : ℕ) → Strand

-- a move and a pin, if that is for long, may move a page
abbrev pub MayMove : Strand → Type 0
MayMove of_move = Unit {0}
MayMove (of_pin handle) = Unit {0}
MayMove strand = ⊥

-- The events of a turn of actor a that gives, takes or gives back a pin, or moves a word of one, or that looks through a mirror
-- slot: they are of no process.
pub data IsHandleEvent (a h : ℕ) : CoreEvent → Type 0 where
  unpinning : (f : ℕ) (left : List ℕ) → IsHandleEvent a h (unpin_page a h f left)
  giving : (to : ℕ) → IsHandleEvent a h (give_handle a h to)
  taking_over : IsHandleEvent a h (take_handle a h)
  moving_out : (index slot f value : ℕ) → IsHandleEvent a h (move_out a h index slot f value)
  moving_in : (index slot f value : ℕ) → IsHandleEvent a h (move_in a h index slot f value)
  looking_on : (m word f value : ℕ) → IsHandleEvent a h (look a m word f value)

abbrev pub AreHandleEvents : (a h : ℕ) → List CoreEvent → Type 0
AreHandleEvents a h [] = Unit {0}
AreHandleEvents a h (e ∷ es) = IsHandleEvent a h e × AreHandleEvents a h es

-- The events of which a turn of actor a of process p is made, whose operation is a fork into process c, or none (then c
-- is p), and is about this.
pub data IsTurnEvent (a p c : ℕ) (strand : Strand) : CoreEvent → Type 0 where
  taking : (f : ℕ) → IsTurnEvent a p c strand (take_frame a f)
  filling : (page f : ℕ) → IsTurnEvent a p c strand (fill a p page f)
  counting_one : (page f : ℕ) (writable : Bool) → IsTurnEvent a p c strand (count_one a p page f writable)
  marking_it : (page f : ℕ) → IsTurnEvent a p c strand (set_mark a p page f)
  upgrading : (page f : ℕ) → IsTurnEvent a p c strand (upgrade a p page f)
  breaking : (page old new : ℕ) (was writable : Bool) → IsTurnEvent a p c strand (break_entry a p page old new was writable)
  putting : (f : ℕ) → IsTurnEvent a p c strand (put_entry a f)
  mapping : (page n : ℕ) (rights : Rights) → IsTurnEvent a p c strand (map_pages a p page n rights)
  lowering : (page f : ℕ) → IsTurnEvent a p c strand (lower_entry a p page f)
  protecting : (page n : ℕ) (rights : Rights) → IsTurnEvent a p c strand (protect_pages a p page n rights)
  dropping : (page : ℕ) (was : Option Entry) → IsTurnEvent a p c strand (drop_entry a p page was)
  discarding : (page : ℕ) (was : Option Entry) → IsTurnEvent a p c strand (discard_entry a p page was)
  adding : (q page table : ℕ) → (q ≡ p) ⊎ (q ≡ c) → IsTurnEvent a p c strand (add_table a q page table)
  taking_table : (q page table : ℕ) → (q ≡ p) ⊎ (q ≡ c) → IsTurnEvent a p c strand (take_out a q page table)
  reclaiming : (q : ℕ) → (q ≡ p) ⊎ (q ≡ c) → IsTurnEvent a p c strand (reclaim a q)
  loading : (page word f value : ℕ) → IsTurnEvent a p c strand (load a p page word f value)
  storing : (page word f value : ℕ) → IsTurnEvent a p c strand (store a p page word f value)
  raising : (h : ℕ) → strand ≡ of_pin h → IsTurnEvent a p c strand (raise_flag a p)
  pinning : (h : ℕ) → strand ≡ of_pin h → (page : ℕ) (e : Entry) (write long : Bool) → IsTurnEvent a p c strand (pin_page a p page e write long)
  making : (h : ℕ) → strand ≡ of_pin h → IsTurnEvent a p c strand (make_handle a h)
  handling : {e : CoreEvent} (h : ℕ) → strand ≡ of_handle h → IsHandleEvent a h e → IsTurnEvent a p c strand e
  getting : (h : ℕ) → strand ≡ of_get h → (page f : ℕ) (writable : Bool) → IsTurnEvent a p c strand (get_reference a p page f h writable)
  putting_back : (h : ℕ) → strand ≡ of_put h → (f : ℕ) → IsTurnEvent a p c strand (put_reference a f h)
  clearing : MayMove strand → (page : ℕ) (e : Entry) (allowed : Allowed) → IsTurnEvent a p c strand (clear_entry a p page e allowed)
  counting_moved : MayMove strand → (page : ℕ) (e : Entry) (allowed : Allowed) (count : ℕ) → IsTurnEvent a p c strand (count_moved a p page e allowed count)
  placing_frame : MayMove strand → (page f : ℕ) (e : Entry) (allowed : Allowed) → IsTurnEvent a p c strand (place_frame a p page f e allowed)
  restoring : MayMove strand → (page : ℕ) (e : Entry) (allowed : Allowed) (count : Counted) → IsTurnEvent a p c strand (restore_entry a p page e allowed count)
  entering : (h : ℕ) → strand ≡ of_pin h → (write long : Bool) → IsTurnEvent a p c strand (enter_walk a p write long)
  reading_sequence : (h : ℕ) → strand ≡ of_pin h → (write long : Bool) (sequence : ℕ) → IsTurnEvent a p c strand (read_sequence a p write long sequence)
  reading_link : (h : ℕ) → strand ≡ of_pin h → (write long : Bool) (sequence page : ℕ) (path : List ℕ) (next : Option ℕ) → IsTurnEvent a p c strand (read_link a p write long sequence page path next)
  reading_entry : (h : ℕ) → strand ≡ of_pin h → (write long : Bool) (sequence page : ℕ) (path : List ℕ) (was : Option Entry) → IsTurnEvent a p c strand (read_entry a p write long sequence page path was)
  grabbing : (h : ℕ) → strand ≡ of_pin h → (write long : Bool) (sequence page : ℕ) (path : List ℕ) (e : Entry) → IsTurnEvent a p c strand (grab_frame a p write long sequence page path e)
  missing_frame : (h : ℕ) → strand ≡ of_pin h → (write long : Bool) (sequence page : ℕ) (path : List ℕ) (e : Entry) → IsTurnEvent a p c strand (miss_frame a p write long sequence page path e)
  rechecking_above : (h : ℕ) → strand ≡ of_pin h → (write long : Bool) (sequence page : ℕ) (path : List ℕ) (e : Entry) (same : Bool) → IsTurnEvent a p c strand (recheck_above a p write long sequence page path e same)
  finding_same : (h : ℕ) → strand ≡ of_pin h → (write long : Bool) (sequence page : ℕ) (path : List ℕ) (e : Entry) → IsTurnEvent a p c strand (recheck_same a p write long sequence page path e)
  finding_other : (h : ℕ) → strand ≡ of_pin h → (write long : Bool) (sequence page : ℕ) (path : List ℕ) (e : Entry) → IsTurnEvent a p c strand (recheck_other a p write long sequence page path e)
  reading_mark : (h : ℕ) → strand ≡ of_pin h → (write long : Bool) (sequence page : ℕ) (e : Entry) (mark : Bool) → IsTurnEvent a p c strand (read_mark a p write long sequence page e mark)
  reading_again : (h : ℕ) → strand ≡ of_pin h → (write long : Bool) (sequence : ℕ) (step : WalkStep) (now : ℕ) → IsTurnEvent a p c strand (read_again a p write long sequence step now)
  dropping_grab : (h : ℕ) → strand ≡ of_pin h → (write long : Bool) (sequence f : ℕ) → IsTurnEvent a p c strand (drop_grab a p write long sequence f)
  dropping_last : (h : ℕ) → strand ≡ of_pin h → (write long : Bool) (sequence : ℕ) (left : List Taken) (last : Taken) → IsTurnEvent a p c strand (drop_last a p write long sequence left last)
  dropping_first : (h : ℕ) → strand ≡ of_pin h → (write long : Bool) (sequence : ℕ) (first : Taken) (left : List Taken) → IsTurnEvent a p c strand (drop_first a p write long sequence first left)
  leaving : (h : ℕ) → strand ≡ of_pin h → (write long : Bool) (sequence : ℕ) → IsTurnEvent a p c strand (leave_walk a p write long sequence)
  beginning : IsTurnEvent a p c strand (begin_fork a p c)
  counting : (done : List ℕ) (page : ℕ) (e : Entry) (copies : Bool) → IsTurnEvent a p c strand (count_page a p c done page e copies)
  sharing_entry : (done : List ℕ) (page f : ℕ) (writable : Bool) → IsTurnEvent a p c strand (share_entry a p c done page f writable)
  sharing_mark : (done : List ℕ) (page f : ℕ) (writable : Bool) → IsTurnEvent a p c strand (share_mark a p c done page f writable)
  sharing_child : (done : List ℕ) (page f : ℕ) (writable : Bool) → IsTurnEvent a p c strand (share_child a p c done page f writable)
  passing : (done : List ℕ) (page : ℕ) → IsTurnEvent a p c strand (pass_page a p c done page)
  ending : (done : List ℕ) → IsTurnEvent a p c strand (end_fork a p c done)
  copying_word : (done : List ℕ) (page word to : ℕ) (e : Entry) → IsTurnEvent a p c strand (copy_word a p c done page word to e)
  placing : (done : List ℕ) (page to : ℕ) (rights : Rights) → IsTurnEvent a p c strand (place_child a p c done page to rights)
  failing_at : (done : List ℕ) (step : ForkStep) (ends : Bool) → IsTurnEvent a p c strand (fail_fork a p c done step ends)
  putting_child : (done : List ℕ) (page : ℕ) (e : Entry) (ends : Bool) → IsTurnEvent a p c strand (put_child a p c done page e ends)
  failing_unborn : IsTurnEvent a p c strand (fail_unborn a p c)
  emptying_slot : (m : ℕ) → IsTurnEvent a p c strand (empty_mirror a m)
  filling_slot : (m : ℕ) → strand ≡ of_mirror m → m < most_mirrors → (page f : ℕ) (writable : Bool) → IsTurnEvent a p c strand (fill_mirror a m p page f writable)
  looking : (m word f value : ℕ) → IsTurnEvent a p c strand (look a m word f value)

abbrev pub AreTurnEvents : (a p c : ℕ) → Strand → List CoreEvent → Type 0
AreTurnEvents a p c strand [] = Unit {0}
AreTurnEvents a p c strand (e ∷ es) = IsTurnEvent a p c strand e × AreTurnEvents a p c strand es
