-- An event whose numbers are within the limits changes nothing beyond them.
use Rattle.std.proofs.Common.{◌≡◌, ℕ, ◌≤◌, ◌<◌, if◌then◌else◌, Bool, true, false, List, refl, arith}
use Rattle.std.specs.Prelude.{Option}
use Rattle.std.proofs.lemmas.Bool.Decides.{nat_tests}
use Rattle.gup_base.specs.declared.entry.Allowed.{Allowed}
use Rattle.gup_base.specs.declared.entry.Entry.{Entry}
use Rattle.gup_base.specs.declared.entry.Rights.{Rights}
use Rattle.gup_plain.specs.Put.{put, put2}
use Rattle.gup_spec_events.specs.State.{CoreState, Taken, idle, Counted, ForkStep, WalkStep}
use Rattle.gup_spec_events.specs.Event.{take_frame, fill, count_one, set_mark, upgrade, break_entry, put_entry, raise_flag, pin_page, make_handle, unpin_page, give_handle, take_handle, get_reference, put_reference, clear_entry, count_moved, place_frame, restore_entry, begin_fork, count_page, share_entry, share_mark, share_child, copy_word, pass_page, end_fork, fail_fork, put_child, fail_unborn, map_pages, lower_entry, protect_pages, drop_entry, discard_entry, add_table, take_out, reclaim, load, store, move_out, move_in, empty_mirror, fill_mirror, look, enter_walk, read_sequence, read_link, read_entry, grab_frame, miss_frame, recheck_above, recheck_same, recheck_other, read_mark, read_again, drop_grab, drop_last, drop_first, leave_walk}
use Rattle.gup_law_bounds.specs.Limits.{IsWithin}

far : {X : Type 0} (n a b : ℕ) (x : X) (f : ℕ → X) → a < n → n ≤ b → put a x f b ≡ f b
far n a b x f low away = grind (arith, nat_tests)

far2 : {X : Type 0} (n p q page g : ℕ) (x : X) (f : ℕ → ℕ → X) → p < n → n ≤ q → put2 p page x f q g ≡ f q g
far2 n p q page g x f low away = grind (arith, nat_tests)

job_far : (a : ℕ) (ends : Bool) (s : CoreState) (b : ℕ) → a < 81 → 81 ≤ b → (if ends then put a idle s.job else s.job) b ≡ s.job b
job_far a true s b low away = far 81 a b idle s.job low away
job_far a false s b low away = refl

pub within-take_frame : (a f : ℕ) → a < 81 → IsWithin (take_frame a f)
within-take_frame a f low-a =
    record { actor = λ s b away. (refl, far 81 a b _ s.prepared low-a away, refl, refl); process = λ s q away. (refl, λ g. refl); name = λ s i away. (refl, refl) }

pub within-fill : (a p page f : ℕ) → a < 81 → p < 16 → IsWithin (fill a p page f)
within-fill a p page f low-a low-p =
    record { actor = λ s b away. (refl, far 81 a b _ s.prepared low-a away, refl, refl); process = λ s q away. (refl, λ g. far2 16 p q page g _ s.entry low-p away); name = λ s i away. (refl, refl) }

pub within-count_one : (a p page f : ℕ) (writable : Bool) → a < 81 → IsWithin (count_one a p page f writable)
within-count_one a p page f writable low-a =
    record { actor = λ s b away. (far 81 a b _ s.job low-a away, refl, refl, refl); process = λ s q away. (refl, λ g. refl); name = λ s i away. (refl, refl) }

pub within-set_mark : (a p page f : ℕ) → a < 81 → IsWithin (set_mark a p page f)
within-set_mark a p page f low-a =
    record { actor = λ s b away. (far 81 a b _ s.job low-a away, refl, refl, refl); process = λ s q away. (refl, λ g. refl); name = λ s i away. (refl, refl) }

pub within-upgrade : (a p page f : ℕ) → p < 16 → IsWithin (upgrade a p page f)
within-upgrade a p page f low-p =
    record { actor = λ s b away. (refl, refl, refl, refl); process = λ s q away. (refl, λ g. far2 16 p q page g _ s.entry low-p away); name = λ s i away. (refl, refl) }

pub within-break_entry : (a p page old new : ℕ) (was writable : Bool) → a < 81 → p < 16 → IsWithin (break_entry a p page old new was writable)
within-break_entry a p page old new was writable low-a low-p =
    record { actor = λ s b away. (refl, far 81 a b _ s.prepared low-a away, far 81 a b _ s.owed low-a away, refl); process = λ s q away. (refl, λ g. far2 16 p q page g _ s.entry low-p away); name = λ s i away. (refl, refl) }

pub within-put_entry : (a f : ℕ) → a < 81 → IsWithin (put_entry a f)
within-put_entry a f low-a =
    record { actor = λ s b away. (refl, refl, far 81 a b _ s.owed low-a away, refl); process = λ s q away. (refl, λ g. refl); name = λ s i away. (refl, refl) }

pub within-raise_flag : (a p : ℕ) → IsWithin (raise_flag a p)
within-raise_flag a p =
    record { actor = λ s b away. (refl, refl, refl, refl); process = λ s q away. (refl, λ g. refl); name = λ s i away. (refl, refl) }

pub within-pin_page : (a p page : ℕ) (entry : Entry) (write long : Bool) → a < 81 → IsWithin (pin_page a p page entry write long)
within-pin_page a p page entry write long low-a =
    record { actor = λ s b away. (refl, refl, refl, far 81 a b _ s.taken low-a away); process = λ s q away. (refl, λ g. refl); name = λ s i away. (refl, refl) }

pub within-make_handle : (a h : ℕ) → a < 81 → h < 1024 → IsWithin (make_handle a h)
within-make_handle a h low-a low-h =
    record { actor = λ s b away. (refl, refl, refl, far 81 a b _ s.taken low-a away); process = λ s q away. (refl, λ g. refl); name = λ s i away. (far 1024 h i _ s.pinned low-h away, refl) }

pub within-unpin_page : (a h f : ℕ) (left : List ℕ) → h < 1024 → IsWithin (unpin_page a h f left)
within-unpin_page a h f left low-h =
    record { actor = λ s b away. (refl, refl, refl, refl); process = λ s q away. (refl, λ g. refl); name = λ s i away. (far 1024 h i _ s.pinned low-h away, refl) }

pub within-give_handle : (a h to : ℕ) → IsWithin (give_handle a h to)
within-give_handle a h to =
    record { actor = λ s b away. (refl, refl, refl, refl); process = λ s q away. (refl, λ g. refl); name = λ s i away. (refl, refl) }

pub within-take_handle : (a h : ℕ) → IsWithin (take_handle a h)
within-take_handle a h =
    record { actor = λ s b away. (refl, refl, refl, refl); process = λ s q away. (refl, λ g. refl); name = λ s i away. (refl, refl) }

pub within-get_reference : (a p page f k : ℕ) (writable : Bool) → k < 1024 → IsWithin (get_reference a p page f k writable)
within-get_reference a p page f k writable low-k =
    record { actor = λ s b away. (refl, refl, refl, refl); process = λ s q away. (refl, λ g. refl); name = λ s i away. (refl, far 1024 k i _ s.got low-k away) }

pub within-put_reference : (a f k : ℕ) → k < 1024 → IsWithin (put_reference a f k)
within-put_reference a f k low-k =
    record { actor = λ s b away. (refl, refl, refl, refl); process = λ s q away. (refl, λ g. refl); name = λ s i away. (refl, far 1024 k i _ s.got low-k away) }

pub within-clear_entry : (a p page : ℕ) (entry : Entry) (allowed : Allowed) → a < 81 → p < 16 → IsWithin (clear_entry a p page entry allowed)
within-clear_entry a p page entry allowed low-a low-p =
    record { actor = λ s b away. (far 81 a b _ s.job low-a away, refl, refl, refl); process = λ s q away. (refl, λ g. far2 16 p q page g _ s.entry low-p away); name = λ s i away. (refl, refl) }

pub within-count_moved : (a p page : ℕ) (entry : Entry) (allowed : Allowed) (count : ℕ) → a < 81 → IsWithin (count_moved a p page entry allowed count)
within-count_moved a p page entry allowed count low-a =
    record { actor = λ s b away. (far 81 a b _ s.job low-a away, refl, refl, refl); process = λ s q away. (refl, λ g. refl); name = λ s i away. (refl, refl) }

pub within-place_frame : (a p page f : ℕ) (entry : Entry) (allowed : Allowed) → a < 81 → p < 16 → IsWithin (place_frame a p page f entry allowed)
within-place_frame a p page f entry allowed low-a low-p =
    record { actor = λ s b away. (far 81 a b _ s.job low-a away, far 81 a b _ s.prepared low-a away, far 81 a b _ s.owed low-a away, refl); process = λ s q away. (refl, λ g. far2 16 p q page g _ s.entry low-p away); name = λ s i away. (refl, refl) }

pub within-restore_entry : (a p page : ℕ) (entry : Entry) (allowed : Allowed) (count : Counted) → a < 81 → p < 16 → IsWithin (restore_entry a p page entry allowed count)
within-restore_entry a p page entry allowed count low-a low-p =
    record { actor = λ s b away. (far 81 a b _ s.job low-a away, refl, refl, refl); process = λ s q away. (refl, λ g. far2 16 p q page g _ s.entry low-p away); name = λ s i away. (refl, refl) }

pub within-begin_fork : (a p c : ℕ) → a < 81 → c < 16 → IsWithin (begin_fork a p c)
within-begin_fork a p c low-a low-c =
    record { actor = λ s b away. (far 81 a b _ s.job low-a away, refl, refl, refl); process = λ s q away. (far 16 c q _ s.birth low-c away, λ g. refl); name = λ s i away. (refl, refl) }

pub within-count_page : (a p c : ℕ) (done : List ℕ) (page : ℕ) (entry : Entry) (copies : Bool) → a < 81 → IsWithin (count_page a p c done page entry copies)
within-count_page a p c done page entry copies low-a =
    record { actor = λ s b away. (far 81 a b _ s.job low-a away, refl, refl, refl); process = λ s q away. (refl, λ g. refl); name = λ s i away. (refl, refl) }

pub within-share_entry : (a p c : ℕ) (done : List ℕ) (page f : ℕ) (writable : Bool) → a < 81 → p < 16 → IsWithin (share_entry a p c done page f writable)
within-share_entry a p c done page f writable low-a low-p =
    record { actor = λ s b away. (far 81 a b _ s.job low-a away, refl, refl, refl); process = λ s q away. (refl, λ g. far2 16 p q page g _ s.entry low-p away); name = λ s i away. (refl, refl) }

pub within-share_mark : (a p c : ℕ) (done : List ℕ) (page f : ℕ) (writable : Bool) → a < 81 → IsWithin (share_mark a p c done page f writable)
within-share_mark a p c done page f writable low-a =
    record { actor = λ s b away. (far 81 a b _ s.job low-a away, refl, refl, refl); process = λ s q away. (refl, λ g. refl); name = λ s i away. (refl, refl) }

pub within-share_child : (a p c : ℕ) (done : List ℕ) (page f : ℕ) (writable : Bool) → a < 81 → c < 16 → IsWithin (share_child a p c done page f writable)
within-share_child a p c done page f writable low-a low-c =
    record { actor = λ s b away. (far 81 a b _ s.job low-a away, refl, refl, refl); process = λ s q away. (refl, λ g. far2 16 c q page g _ s.entry low-c away); name = λ s i away. (refl, refl) }

pub within-copy_word : (a p c : ℕ) (done : List ℕ) (page word to : ℕ) (entry : Entry) → a < 81 → IsWithin (copy_word a p c done page word to entry)
within-copy_word a p c done page word to entry low-a =
    record { actor = λ s b away. (far 81 a b _ s.job low-a away, refl, refl, refl); process = λ s q away. (refl, λ g. refl); name = λ s i away. (refl, refl) }

pub within-pass_page : (a p c : ℕ) (done : List ℕ) (page : ℕ) → a < 81 → IsWithin (pass_page a p c done page)
within-pass_page a p c done page low-a =
    record { actor = λ s b away. (far 81 a b _ s.job low-a away, refl, refl, refl); process = λ s q away. (refl, λ g. refl); name = λ s i away. (refl, refl) }

pub within-end_fork : (a p c : ℕ) (done : List ℕ) → a < 81 → c < 16 → IsWithin (end_fork a p c done)
within-end_fork a p c done low-a low-c =
    record { actor = λ s b away. (far 81 a b _ s.job low-a away, refl, refl, refl); process = λ s q away. (far 16 c q _ s.birth low-c away, λ g. refl); name = λ s i away. (refl, refl) }

pub within-fail_fork : (a p c : ℕ) (done : List ℕ) (step : ForkStep) (ends : Bool) → a < 81 → c < 16 → IsWithin (fail_fork a p c done step ends)
within-fail_fork a p c done step ends low-a low-c =
    record { actor = λ s b away. (far 81 a b _ s.job low-a away, refl, refl, refl); process = λ s q away. (far 16 c q _ s.birth low-c away, λ g. refl); name = λ s i away. (refl, refl) }

pub within-put_child : (a p c : ℕ) (done : List ℕ) (page : ℕ) (entry : Entry) (ends : Bool) → a < 81 → c < 16 → IsWithin (put_child a p c done page entry ends)
within-put_child a p c done page entry ends low-a low-c =
    record { actor = λ s b away. (job_far a ends s b low-a away, refl, refl, refl); process = λ s q away. (refl, λ g. far2 16 c q page g _ s.entry low-c away); name = λ s i away. (refl, refl) }

pub within-fail_unborn : (a p c : ℕ) → c < 16 → IsWithin (fail_unborn a p c)
within-fail_unborn a p c low-c =
    record { actor = λ s b away. (refl, refl, refl, refl); process = λ s q away. (far 16 c q _ s.birth low-c away, λ g. refl); name = λ s i away. (refl, refl) }

pub within-map_pages : (a p page n : ℕ) (rights : Rights) → IsWithin (map_pages a p page n rights)
within-map_pages a p page n rights =
    record { actor = λ s b away. (refl, refl, refl, refl); process = λ s q away. (refl, λ g. refl); name = λ s i away. (refl, refl) }

pub within-lower_entry : (a p page f : ℕ) → p < 16 → IsWithin (lower_entry a p page f)
within-lower_entry a p page f low-p =
    record { actor = λ s b away. (refl, refl, refl, refl); process = λ s q away. (refl, λ g. far2 16 p q page g _ s.entry low-p away); name = λ s i away. (refl, refl) }

pub within-protect_pages : (a p page n : ℕ) (rights : Rights) → IsWithin (protect_pages a p page n rights)
within-protect_pages a p page n rights =
    record { actor = λ s b away. (refl, refl, refl, refl); process = λ s q away. (refl, λ g. refl); name = λ s i away. (refl, refl) }

pub within-drop_entry : (a p page : ℕ) (was : Option Entry) → a < 81 → p < 16 → IsWithin (drop_entry a p page was)
within-drop_entry a p page was low-a low-p =
    record { actor = λ s b away. (refl, refl, far 81 a b _ s.owed low-a away, refl); process = λ s q away. (refl, λ g. far2 16 p q page g _ s.entry low-p away); name = λ s i away. (refl, refl) }

pub within-discard_entry : (a p page : ℕ) (was : Option Entry) → a < 81 → p < 16 → IsWithin (discard_entry a p page was)
within-discard_entry a p page was low-a low-p =
    record { actor = λ s b away. (refl, refl, far 81 a b _ s.owed low-a away, refl); process = λ s q away. (refl, λ g. far2 16 p q page g _ s.entry low-p away); name = λ s i away. (refl, refl) }

pub within-add_table : (a p page table : ℕ) → IsWithin (add_table a p page table)
within-add_table a p page table =
    record { actor = λ s b away. (refl, refl, refl, refl); process = λ s q away. (refl, λ g. refl); name = λ s i away. (refl, refl) }

pub within-take_out : (a p page table : ℕ) → IsWithin (take_out a p page table)
within-take_out a p page table =
    record { actor = λ s b away. (refl, refl, refl, refl); process = λ s q away. (refl, λ g. refl); name = λ s i away. (refl, refl) }

pub within-reclaim : (a p : ℕ) → IsWithin (reclaim a p)
within-reclaim a p =
    record { actor = λ s b away. (refl, refl, refl, refl); process = λ s q away. (refl, λ g. refl); name = λ s i away. (refl, refl) }

pub within-load : (a p page word f value : ℕ) → IsWithin (load a p page word f value)
within-load a p page word f value =
    record { actor = λ s b away. (refl, refl, refl, refl); process = λ s q away. (refl, λ g. refl); name = λ s i away. (refl, refl) }

pub within-store : (a p page word f value : ℕ) → IsWithin (store a p page word f value)
within-store a p page word f value =
    record { actor = λ s b away. (refl, refl, refl, refl); process = λ s q away. (refl, λ g. refl); name = λ s i away. (refl, refl) }

pub within-move_out : (a h index slot f value : ℕ) → IsWithin (move_out a h index slot f value)
within-move_out a h index slot f value =
    record { actor = λ s b away. (refl, refl, refl, refl); process = λ s q away. (refl, λ g. refl); name = λ s i away. (refl, refl) }

pub within-move_in : (a h index slot f value : ℕ) → IsWithin (move_in a h index slot f value)
within-move_in a h index slot f value =
    record { actor = λ s b away. (refl, refl, refl, refl); process = λ s q away. (refl, λ g. refl); name = λ s i away. (refl, refl) }

pub within-empty_mirror : (a m : ℕ) → IsWithin (empty_mirror a m)
within-empty_mirror a m =
    record { actor = λ s b away. (refl, refl, refl, refl); process = λ s q away. (refl, λ g. refl); name = λ s i away. (refl, refl) }

pub within-fill_mirror : (a m p page f : ℕ) (writable : Bool) → IsWithin (fill_mirror a m p page f writable)
within-fill_mirror a m p page f writable =
    record { actor = λ s b away. (refl, refl, refl, refl); process = λ s q away. (refl, λ g. refl); name = λ s i away. (refl, refl) }

pub within-look : (a m word f value : ℕ) → IsWithin (look a m word f value)
within-look a m word f value =
    record { actor = λ s b away. (refl, refl, refl, refl); process = λ s q away. (refl, λ g. refl); name = λ s i away. (refl, refl) }

pub within-enter_walk : (a p : ℕ) (write long : Bool) → a < 81 → IsWithin (enter_walk a p write long)
within-enter_walk a p write long low-a =
    record { actor = λ s b away. (far 81 a b _ s.job low-a away, refl, refl, refl); process = λ s q away. (refl, λ g. refl); name = λ s i away. (refl, refl) }

pub within-read_sequence : (a p : ℕ) (write long : Bool) (sequence : ℕ) → a < 81 → IsWithin (read_sequence a p write long sequence)
within-read_sequence a p write long sequence low-a =
    record { actor = λ s b away. (far 81 a b _ s.job low-a away, refl, refl, refl); process = λ s q away. (refl, λ g. refl); name = λ s i away. (refl, refl) }

pub within-read_link : (a p : ℕ) (write long : Bool) (sequence page : ℕ) (path : List ℕ) (next : Option ℕ) → a < 81 → IsWithin (read_link a p write long sequence page path next)
within-read_link a p write long sequence page path next low-a =
    record { actor = λ s b away. (far 81 a b _ s.job low-a away, refl, refl, refl); process = λ s q away. (refl, λ g. refl); name = λ s i away. (refl, refl) }

pub within-read_entry : (a p : ℕ) (write long : Bool) (sequence page : ℕ) (path : List ℕ) (was : Option Entry) → a < 81 → IsWithin (read_entry a p write long sequence page path was)
within-read_entry a p write long sequence page path was low-a =
    record { actor = λ s b away. (far 81 a b _ s.job low-a away, refl, refl, refl); process = λ s q away. (refl, λ g. refl); name = λ s i away. (refl, refl) }

pub within-grab_frame : (a p : ℕ) (write long : Bool) (sequence page : ℕ) (path : List ℕ) (entry : Entry) → a < 81 → IsWithin (grab_frame a p write long sequence page path entry)
within-grab_frame a p write long sequence page path entry low-a =
    record { actor = λ s b away. (far 81 a b _ s.job low-a away, refl, refl, refl); process = λ s q away. (refl, λ g. refl); name = λ s i away. (refl, refl) }

pub within-miss_frame : (a p : ℕ) (write long : Bool) (sequence page : ℕ) (path : List ℕ) (entry : Entry) → a < 81 → IsWithin (miss_frame a p write long sequence page path entry)
within-miss_frame a p write long sequence page path entry low-a =
    record { actor = λ s b away. (far 81 a b _ s.job low-a away, refl, refl, refl); process = λ s q away. (refl, λ g. refl); name = λ s i away. (refl, refl) }

pub within-recheck_above : (a p : ℕ) (write long : Bool) (sequence page : ℕ) (path : List ℕ) (entry : Entry) (same : Bool) → a < 81 → IsWithin (recheck_above a p write long sequence page path entry same)
within-recheck_above a p write long sequence page path entry same low-a =
    record { actor = λ s b away. (far 81 a b _ s.job low-a away, refl, refl, refl); process = λ s q away. (refl, λ g. refl); name = λ s i away. (refl, refl) }

pub within-recheck_same : (a p : ℕ) (write long : Bool) (sequence page : ℕ) (path : List ℕ) (entry : Entry) → a < 81 → IsWithin (recheck_same a p write long sequence page path entry)
within-recheck_same a p write long sequence page path entry low-a =
    record { actor = λ s b away. (far 81 a b _ s.job low-a away, refl, refl, far 81 a b _ s.taken low-a away); process = λ s q away. (refl, λ g. refl); name = λ s i away. (refl, refl) }

pub within-recheck_other : (a p : ℕ) (write long : Bool) (sequence page : ℕ) (path : List ℕ) (entry : Entry) → a < 81 → IsWithin (recheck_other a p write long sequence page path entry)
within-recheck_other a p write long sequence page path entry low-a =
    record { actor = λ s b away. (far 81 a b _ s.job low-a away, refl, refl, refl); process = λ s q away. (refl, λ g. refl); name = λ s i away. (refl, refl) }

pub within-read_mark : (a p : ℕ) (write long : Bool) (sequence page : ℕ) (entry : Entry) (mark : Bool) → a < 81 → IsWithin (read_mark a p write long sequence page entry mark)
within-read_mark a p write long sequence page entry mark low-a =
    record { actor = λ s b away. (far 81 a b _ s.job low-a away, refl, refl, refl); process = λ s q away. (refl, λ g. refl); name = λ s i away. (refl, refl) }

pub within-read_again : (a p : ℕ) (write long : Bool) (sequence : ℕ) (step : WalkStep) (now : ℕ) → a < 81 → IsWithin (read_again a p write long sequence step now)
within-read_again a p write long sequence step now low-a =
    record { actor = λ s b away. (far 81 a b _ s.job low-a away, refl, refl, refl); process = λ s q away. (refl, λ g. refl); name = λ s i away. (refl, refl) }

pub within-drop_grab : (a p : ℕ) (write long : Bool) (sequence f : ℕ) → a < 81 → IsWithin (drop_grab a p write long sequence f)
within-drop_grab a p write long sequence f low-a =
    record { actor = λ s b away. (far 81 a b _ s.job low-a away, refl, refl, refl); process = λ s q away. (refl, λ g. refl); name = λ s i away. (refl, refl) }

pub within-drop_last : (a p : ℕ) (write long : Bool) (sequence : ℕ) (left : List Taken) (last : Taken) → a < 81 → IsWithin (drop_last a p write long sequence left last)
within-drop_last a p write long sequence left last low-a =
    record { actor = λ s b away. (far 81 a b _ s.job low-a away, refl, refl, far 81 a b _ s.taken low-a away); process = λ s q away. (refl, λ g. refl); name = λ s i away. (refl, refl) }

pub within-drop_first : (a p : ℕ) (write long : Bool) (sequence : ℕ) (first : Taken) (left : List Taken) → a < 81 → IsWithin (drop_first a p write long sequence first left)
within-drop_first a p write long sequence first left low-a =
    record { actor = λ s b away. (far 81 a b _ s.job low-a away, refl, refl, far 81 a b _ s.taken low-a away); process = λ s q away. (refl, λ g. refl); name = λ s i away. (refl, refl) }

pub within-leave_walk : (a p : ℕ) (write long : Bool) (sequence : ℕ) → a < 81 → IsWithin (leave_walk a p write long sequence)
within-leave_walk a p write long sequence low-a =
    record { actor = λ s b away. (far 81 a b _ s.job low-a away, refl, refl, refl); process = λ s q away. (refl, λ g. refl); name = λ s i away. (refl, refl) }
