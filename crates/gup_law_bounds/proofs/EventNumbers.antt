-- Pages have numbers, and frames too: what entries, pins and counts speak of is there. An event in a sound state keeps it.
use Rattle.std.proofs.Common.{◌≡◌, ℕ, ◌+◌, ◌-◌, ◌≤◌, ◌<◌, inl, inr, ◌==◌, if◌then◌else◌, Bool, true, false, List, [], ◌∷◌, ◌++◌, map, length, suc, refl, ap, sym, subst, ◌∙◌, arith}
use Rattle.std.specs.Prelude.{Option, Some, None, IsSome, slice_get, Contains}
use Rattle.std.proofs.lemmas.Bool.Decides.{nat_tests}
use Rattle.std.proofs.lemmas.List.{length-map}
use Rattle.gup_base.specs.declared.entry.Allowed.{Allowed}
use Rattle.gup_base.specs.declared.entry.Entry.{Entry}
use Rattle.gup_base.specs.declared.entry.Rights.{Rights}
use Rattle.gup_plain.specs.Event.{page_numbers, words}
use Rattle.gup_plain.specs.Put.{put, put2}
use Rattle.gup_plain.specs.State.{born}
use Rattle.gup_spec_events.specs.State.{CoreState, core_start, Taken, moving, forking, Counted, one, ForkStep, cleared, copying}
use Rattle.gup_spec_events.specs.Event.{CoreEvent, Can, happens, bias_of, entry_of, tree_in, taken_frames, is_writable, take_frame, fill, count_one, set_mark, upgrade, break_entry, put_entry, raise_flag, pin_page, make_handle, unpin_page, give_handle, take_handle, get_reference, put_reference, clear_entry, count_moved, place_frame, restore_entry, begin_fork, count_page, share_entry, share_mark, share_child, copy_word, place_child, pass_page, end_fork, fail_fork, put_child, fail_unborn, map_pages, lower_entry, protect_pages, drop_entry, discard_entry, add_table, take_out, reclaim, load, store, move_out, move_in, empty_mirror, fill_mirror, look, enter_walk, read_sequence, read_link, read_entry, grab_frame, miss_frame, recheck_above, recheck_same, recheck_other, read_mark, read_again, drop_grab, drop_last, drop_first, leave_walk}
use Rattle.gup_law_base.specs.Sound.{IsSound, Moving, Forking, moving_of, forking_of, step_page}
use Rattle.gup_law_base.proofs.Numbers.{few_below, apart_alone}
use Rattle.gup_law_base.proofs.Rows.{at_either, at_longer, at_mapped, contains_at}
use Rattle.gup_law_base.proofs.Lonely.{whole_counts, born_mapped}
use Rattle.gup_law_walk.proofs.WalkTakes.{entry_there}

-- pages of entries and of pins have numbers below 2^35, and a frame that is counted is one of the n of the machine
pub record AreNumbered (n : ℕ) (s : CoreState) : Type 0 where
  pub size : s.movable + s.normal ≡ n
  pub entries : (p page : ℕ) (e : Entry) → s.entry p page ≡ Some e → page < page_numbers
  pub taken : (a k : ℕ) (t : Taken) → slice_get (s.taken a) k ≡ Some t → t.page < page_numbers
  pub pinned : (j : ℕ) → length (s.pinned j) ≤ page_numbers
  pub frames : (f : ℕ) → (s.count f ≡ 0 → ⊥) → f < n

-- entries, pins and counts stay
numbers_same : (n : ℕ) (s t : CoreState) → t.entry ≡ s.entry → t.taken ≡ s.taken → t.pinned ≡ s.pinned → t.count ≡ s.count → t.movable ≡ s.movable → t.normal ≡ s.normal → AreNumbered n s → AreNumbered n t
numbers_same n s t entry taken pinned count movable normal h =
    record {
      size = rw (movable, normal) h.size;
      entries = rw entry h.entries;
      taken = rw taken h.taken;
      pinned = rw pinned h.pinned;
      frames = rw count h.frames;
    }

-- what a change of one of them has to be
module _ (n : ℕ) (s : CoreState) (h : AreNumbered n s) where
  entry_in : (p page : ℕ) (o : Option Entry) → ((e : Entry) → o ≡ Some e → page < page_numbers) → (q g : ℕ) (e : Entry) → put2 p page o s.entry q g ≡ Some e → g < page_numbers
  entry_in p page o here q g e = go (q == p)
    where
      at_page : (c : Bool) → (g == page) ≡ c → (if c then o else s.entry q g) ≡ Some e → g < page_numbers
      at_page true same is = let at : page < page_numbers = here e is in let equal : g ≡ page = grind (arith, nat_tests) in subst (λ k. k < page_numbers) (sym equal) at
      at_page false other is = h.entries q g e is

      go : (b : Bool) → (if b then put page o (s.entry q) else s.entry q) g ≡ Some e → g < page_numbers
      go true is = at_page (g == page) refl is
      go false is = h.entries q g e is

  taken_in : (a : ℕ) (ts : List Taken) → ((k : ℕ) (t : Taken) → slice_get ts k ≡ Some t → t.page < page_numbers) → (b k : ℕ) (t : Taken) → slice_get (put a ts s.taken b) k ≡ Some t → t.page < page_numbers
  taken_in a ts here b k t = go (b == a)
    where
      go : (c : Bool) → slice_get (if c then ts else s.taken b) k ≡ Some t → t.page < page_numbers
      go true is = here k t is
      go false is = h.taken b k t is

  pinned_in : (j : ℕ) (fs : List ℕ) → length fs ≤ page_numbers → (i : ℕ) → length (put j fs s.pinned i) ≤ page_numbers
  pinned_in j fs here i = go (i == j)
    where
      go : (c : Bool) → length (if c then fs else s.pinned i) ≤ page_numbers
      go true = here
      go false = h.pinned i

  count_in : (f k : ℕ) → ((k ≡ 0 → ⊥) → f < n) → (g : ℕ) → (put f k s.count g ≡ 0 → ⊥) → g < n
  count_in f k here g = go (g == f) refl
    where
      go : (c : Bool) → (g == f) ≡ c → ((if c then k else s.count g) ≡ 0 → ⊥) → g < n
      go true same some = let at : f < n = here some in let equal : g ≡ f = grind (arith, nat_tests) in subst (λ i. i < n) (sym equal) at
      go false other some = h.frames g some

  -- one page more that a pin has taken, and one less that a handle has
  longer_in : (a : ℕ) (t : Taken) → t.page < page_numbers → (k : ℕ) (u : Taken) → slice_get (s.taken a ++ t ∷ []) k ≡ Some u → u.page < page_numbers
  longer_in a t below k u is =
      elim (at_either (s.taken a) t k u is) [
        | inl old ↦ h.taken a k u old
        | inr new ↦ subst (λ (v : Taken). v.page < page_numbers) (sym new.1) below
      ]

  fewer : (j f : ℕ) (left : List ℕ) → s.pinned j ≡ left ++ f ∷ [] → length left ≤ page_numbers
  fewer j f left had =
      let all : length (left ++ f ∷ []) ≤ page_numbers = subst (λ xs. length xs ≤ page_numbers) had (h.pinned j) in
      omega (arith, all, shorter left)
    where
      shorter : (xs : List ℕ) → length xs ≤ length (xs ++ f ∷ [])
      shorter [] = omega arith
      shorter (x ∷ xs) = omega (arith, shorter xs)

-- a page that a pin takes
abbrev pinned_page : (s : CoreState) (p page : ℕ) → Entry → (write long : Bool) → Taken
pinned_page s p page e write long =
    record { proc = p; page = page; frame = e.frame; object = s.object p page; write = write; long = long }

module _ (s : CoreState) (sound : IsSound s) where
  mapped_below : (p page : ℕ) → IsSome (s.right p page) → page < page_numbers
  mapped_below p page mapped = go (s.right p page) refl mapped
    where
      go : (o : Option Rights) → s.right p page ≡ o → IsSome o → page < page_numbers
      go None is some = absurd (cc)
      go (Some r) is some = sound.1.right_numbered p page r is

  -- a page that a mover has cleared is mapped
  moved_below : (a p page : ℕ) (e : Entry) (allowed : Allowed) (count : Counted) → s.job a ≡ moving p page e allowed count → page < page_numbers
  moved_below a p page e allowed count is =
      let m : Moving = record { proc = p; page = page; entry = e; count = count } in
      let moves : sound.0.moves a ≡ Some m = sound.1.moves_are a ∙ ap moving_of is in
      let lives : s.birth p ≡ born = sound.1.table_born p a (sound.1.moves_table a m moves) in
      mapped_below p page (born_mapped sound.0 s sound.1 p page e lives (sound.1.whole_moved a m moves))

  -- and so is one that a fork is in the middle of
  forked_below : (a p c : ℕ) (done : List ℕ) (step : ForkStep) (page : ℕ) → step_page step ≡ Some page → s.job a ≡ forking p c done step → page < page_numbers
  forked_below a p c done step page at is = go (s.right c page) refl
    where
      fork : Forking
      fork = record { proc = p; child = c; done = done; step = step }

      go : (o : Option Rights) → s.right c page ≡ o → page < page_numbers
      go None none = absurd (sound.1.fork_mapped a page fork (sound.1.forks_are a ∙ ap forking_of is) at none)
      go (Some r) some = sound.1.right_numbered c page r some

  -- the frame of an entry has a count
  entry_counted : (p page : ℕ) (e : Entry) → s.entry p page ≡ Some e → s.count e.frame ≡ 0 → ⊥
  entry_counted p page e is none =
      omega (arith, none, sound.1.count_is e.frame, whole_counts sound.0 s sound.1 p page e (sound.1.whole_entry p page e is))

  -- an actor's pin has taken no page twice, so it has taken few
  pub few_pages : (n : ℕ) → AreNumbered n s → (a : ℕ) → length (s.taken a) ≤ page_numbers
  few_pages n h a =
      let ts : List Taken = s.taken a in
      let pages : List ℕ = map (λ (t : Taken). t.page) ts in
      let apart = λ (j k x : ℕ) (is : slice_get pages j ≡ Some x) (that : slice_get pages k ≡ Some x). let t = at_mapped (λ (t : Taken). t.page) ts j x is in let u = at_mapped (λ (t : Taken). t.page) ts k x that in sound.1.taken_apart a j k t.0 u.0 t.1 u.1 (t.2 ∙ sym u.2) in
      let below = λ (x : ℕ) (has : Contains pages x). let at = contains_at pages x has in let t = at_mapped (λ (t : Taken). t.page) ts at.0 x at.1 in subst (λ k. k < page_numbers) t.2 (h.taken a at.0 t.0 t.1) in
      subst (λ k. k ≤ page_numbers) (length-map ts (λ (t : Taken). t.page)) (few_below page_numbers pages (apart_alone pages apart) below)

  few_taken : (n : ℕ) → AreNumbered n s → (a : ℕ) → length (taken_frames (s.taken a)) ≤ page_numbers
  few_taken n h a = subst (λ k. k ≤ page_numbers) (sym (length-map (s.taken a) (λ (t : Taken). t.frame))) (few_pages n h a)

pub numbers_event : (n : ℕ) (s : CoreState) (e : CoreEvent) → IsSound s → Can s e → AreNumbered n s → AreNumbered n (happens s e)
numbers_event n s (take_frame a f) sound can h =
    record { size = h.size; entries = h.entries; taken = h.taken; pinned = h.pinned; frames = count_in n s h f 1 (λ some. omega (arith, can.2, h.size)) }
numbers_event n s (fill a p page f) sound can h =
    record { size = h.size; entries = entry_in n s h p page (Some (entry_of f false)) (λ e is. mapped_below s sound p page can.3); taken = h.taken; pinned = h.pinned; frames = h.frames }
numbers_event n s (count_one a p page f writable) sound can h = numbers_same n s (happens s (count_one a p page f writable)) refl refl refl refl refl refl h
numbers_event n s (set_mark a p page f) sound can h = numbers_same n s (happens s (set_mark a p page f)) refl refl refl refl refl refl h
numbers_event n s (upgrade a p page f) sound can h =
    record { size = h.size; entries = entry_in n s h p page (Some (entry_of f true)) (λ e is. h.entries p page (entry_of f false) can.3); taken = h.taken; pinned = h.pinned; frames = h.frames }
numbers_event n s (break_entry a p page old new was writable) sound can h =
    record { size = h.size; entries = entry_in n s h p page (Some (entry_of new writable)) (λ e is. h.entries p page (entry_of old was) can.5); taken = h.taken; pinned = h.pinned; frames = h.frames }
numbers_event n s (put_entry a f) sound can h =
    record { size = h.size; entries = h.entries; taken = h.taken; pinned = h.pinned; frames = count_in n s h f (s.count f - 1) (λ some. h.frames f (λ none. some (omega (arith, none)))) }
numbers_event n s (raise_flag a p) sound can h = numbers_same n s (happens s (raise_flag a p)) refl refl refl refl refl refl h
numbers_event n s (pin_page a p page entry write long) sound can h =
    record { size = h.size; entries = h.entries; taken = taken_in n s h a (s.taken a ++ pinned_page s p page entry write long ∷ []) (longer_in n s h a (pinned_page s p page entry write long) (h.entries p page entry can.4)); pinned = h.pinned; frames = count_in n s h entry.frame (s.count entry.frame + bias_of s) (λ some. h.frames entry.frame (entry_counted s sound p page entry can.4)) }
numbers_event n s (make_handle a handle) sound can h =
    record { size = h.size; entries = h.entries; taken = taken_in n s h a [] (λ k t is. absurd (cc)); pinned = pinned_in n s h handle (taken_frames (s.taken a)) (few_taken s sound n h a); frames = h.frames }
numbers_event n s (unpin_page a handle f left) sound can h =
    record { size = h.size; entries = h.entries; taken = h.taken; pinned = pinned_in n s h handle left (fewer n s h handle f left can.1); frames = count_in n s h f (s.count f - bias_of s) (λ some. h.frames f (λ none. some (omega (arith, none)))) }
numbers_event n s (give_handle a handle to) sound can h = numbers_same n s (happens s (give_handle a handle to)) refl refl refl refl refl refl h
numbers_event n s (take_handle a handle) sound can h = numbers_same n s (happens s (take_handle a handle)) refl refl refl refl refl refl h
numbers_event n s (get_reference a p page f k writable) sound can h =
    record { size = h.size; entries = h.entries; taken = h.taken; pinned = h.pinned; frames = count_in n s h f (s.count f + 1) (λ some. h.frames f (entry_counted s sound p page (entry_of f writable) can.2)) }
numbers_event n s (put_reference a f k) sound can h =
    record { size = h.size; entries = h.entries; taken = h.taken; pinned = h.pinned; frames = count_in n s h f (s.count f - 1) (λ some. h.frames f (λ none. some (omega (arith, none)))) }
numbers_event n s (clear_entry a p page entry allowed) sound can h =
    record { size = h.size; entries = entry_in n s h p page None (λ e is. absurd (cc)); taken = h.taken; pinned = h.pinned; frames = h.frames }
numbers_event n s (count_moved a p page entry allowed count) sound can h = numbers_same n s (happens s (count_moved a p page entry allowed count)) refl refl refl refl refl refl h
numbers_event n s (place_frame a p page f entry allowed) sound can h =
    record { size = h.size; entries = entry_in n s h p page (Some (entry_of f entry.writable)) (λ e is. moved_below s sound a p page entry allowed one can.0); taken = h.taken; pinned = h.pinned; frames = h.frames }
numbers_event n s (restore_entry a p page entry allowed count) sound can h =
    record { size = h.size; entries = entry_in n s h p page (Some entry) (λ e is. moved_below s sound a p page entry allowed count can.0); taken = h.taken; pinned = h.pinned; frames = h.frames }
numbers_event n s (begin_fork a p c) sound can h = numbers_same n s (happens s (begin_fork a p c)) refl refl refl refl refl refl h
numbers_event n s (count_page a p c done page entry copies) sound can h = numbers_same n s (happens s (count_page a p c done page entry copies)) refl refl refl refl refl refl h
numbers_event n s (share_entry a p c done page f writable) sound can h =
    record { size = h.size; entries = entry_in n s h p page (Some (entry_of f false)) (λ e is. h.entries p page (entry_of f writable) can.1); taken = h.taken; pinned = h.pinned; frames = h.frames }
numbers_event n s (share_mark a p c done page f writable) sound can h = numbers_same n s (happens s (share_mark a p c done page f writable)) refl refl refl refl refl refl h
numbers_event n s (share_child a p c done page f writable) sound can h =
    record { size = h.size; entries = entry_in n s h c page (Some (entry_of f false)) (λ e is. forked_below s sound a p c done (cleared page) page refl can.0); taken = h.taken; pinned = h.pinned; frames = count_in n s h f (s.count f + 1) (λ some. h.frames f (entry_counted s sound p page (entry_of f writable) can.1)) }
numbers_event n s (copy_word a p c done page word to entry) sound can h = numbers_same n s (happens s (copy_word a p c done page word to entry)) refl refl refl refl refl refl h
numbers_event n s (place_child a p c done page to rights) sound can h =
    record { size = h.size; entries = entry_in n s h c page (Some (entry_of to (is_writable rights))) (λ e is. forked_below s sound a p c done (copying page words) page refl can.0); taken = h.taken; pinned = h.pinned; frames = h.frames }
numbers_event n s (pass_page a p c done page) sound can h = numbers_same n s (happens s (pass_page a p c done page)) refl refl refl refl refl refl h
numbers_event n s (end_fork a p c done) sound can h = numbers_same n s (happens s (end_fork a p c done)) refl refl refl refl refl refl h
numbers_event n s (fail_fork a p c done step ends) sound can h = numbers_same n s (happens s (fail_fork a p c done step ends)) refl refl refl refl refl refl h
numbers_event n s (put_child a p c done page entry ends) sound can h =
    record { size = h.size; entries = entry_in n s h c page None (λ e is. absurd (cc)); taken = h.taken; pinned = h.pinned; frames = count_in n s h entry.frame (s.count entry.frame - 1) (λ some. h.frames entry.frame (λ none. some (omega (arith, none)))) }
numbers_event n s (fail_unborn a p c) sound can h = numbers_same n s (happens s (fail_unborn a p c)) refl refl refl refl refl refl h
numbers_event n s (map_pages a p page m rights) sound can h = numbers_same n s (happens s (map_pages a p page m rights)) refl refl refl refl refl refl h
numbers_event n s (lower_entry a p page f) sound can h =
    record { size = h.size; entries = entry_in n s h p page (Some (entry_of f false)) (λ e is. h.entries p page (entry_of f true) can.2); taken = h.taken; pinned = h.pinned; frames = h.frames }
numbers_event n s (protect_pages a p page m rights) sound can h = numbers_same n s (happens s (protect_pages a p page m rights)) refl refl refl refl refl refl h
numbers_event n s (drop_entry a p page was) sound can h =
    record { size = h.size; entries = entry_in n s h p page None (λ e is. absurd (cc)); taken = h.taken; pinned = h.pinned; frames = h.frames }
numbers_event n s (discard_entry a p page was) sound can h =
    record { size = h.size; entries = entry_in n s h p page None (λ e is. absurd (cc)); taken = h.taken; pinned = h.pinned; frames = h.frames }
numbers_event n s (add_table a p page table) sound can h = numbers_same n s (happens s (add_table a p page table)) refl refl refl refl refl refl h
numbers_event n s (take_out a p page table) sound can h = numbers_same n s (happens s (take_out a p page table)) refl refl refl refl refl refl h
numbers_event n s (reclaim a p) sound can h = numbers_same n s (happens s (reclaim a p)) refl refl refl refl refl refl h
numbers_event n s (load a p page word f value) sound can h = numbers_same n s (happens s (load a p page word f value)) refl refl refl refl refl refl h
numbers_event n s (store a p page word f value) sound can h = numbers_same n s (happens s (store a p page word f value)) refl refl refl refl refl refl h
numbers_event n s (move_out a handle index slot f value) sound can h = numbers_same n s (happens s (move_out a handle index slot f value)) refl refl refl refl refl refl h
numbers_event n s (move_in a handle index slot f value) sound can h = numbers_same n s (happens s (move_in a handle index slot f value)) refl refl refl refl refl refl h
numbers_event n s (empty_mirror a m) sound can h = numbers_same n s (happens s (empty_mirror a m)) refl refl refl refl refl refl h
numbers_event n s (fill_mirror a m p page f writable) sound can h = numbers_same n s (happens s (fill_mirror a m p page f writable)) refl refl refl refl refl refl h
numbers_event n s (look a m word f value) sound can h = numbers_same n s (happens s (look a m word f value)) refl refl refl refl refl refl h
numbers_event n s (enter_walk a p write long) sound can h = numbers_same n s (happens s (enter_walk a p write long)) refl refl refl refl refl refl h
numbers_event n s (read_sequence a p write long sequence) sound can h = numbers_same n s (happens s (read_sequence a p write long sequence)) refl refl refl refl refl refl h
numbers_event n s (read_link a p write long sequence page path next) sound can h = numbers_same n s (happens s (read_link a p write long sequence page path next)) refl refl refl refl refl refl h
numbers_event n s (read_entry a p write long sequence page path was) sound can h = numbers_same n s (happens s (read_entry a p write long sequence page path was)) refl refl refl refl refl refl h
numbers_event n s (grab_frame a p write long sequence page path entry) sound can h =
    record { size = h.size; entries = h.entries; taken = h.taken; pinned = h.pinned; frames = count_in n s h entry.frame (s.count entry.frame + bias_of s) (λ some. h.frames entry.frame can.1) }
numbers_event n s (miss_frame a p write long sequence page path entry) sound can h = numbers_same n s (happens s (miss_frame a p write long sequence page path entry)) refl refl refl refl refl refl h
numbers_event n s (recheck_above a p write long sequence page path entry same) sound can h = numbers_same n s (happens s (recheck_above a p write long sequence page path entry same)) refl refl refl refl refl refl h
numbers_event n s (recheck_same a p write long sequence page path entry) sound can h =
    record { size = h.size; entries = h.entries; taken = taken_in n s h a (s.taken a ++ pinned_page s p page entry write long ∷ []) (longer_in n s h a (pinned_page s p page entry write long) (h.entries p page entry (entry_there (tree_in s p) path page entry can.1))); pinned = h.pinned; frames = h.frames }
numbers_event n s (recheck_other a p write long sequence page path entry) sound can h = numbers_same n s (happens s (recheck_other a p write long sequence page path entry)) refl refl refl refl refl refl h
numbers_event n s (read_mark a p write long sequence page entry mark) sound can h = numbers_same n s (happens s (read_mark a p write long sequence page entry mark)) refl refl refl refl refl refl h
numbers_event n s (read_again a p write long sequence step now) sound can h = numbers_same n s (happens s (read_again a p write long sequence step now)) refl refl refl refl refl refl h
numbers_event n s (drop_grab a p write long sequence f) sound can h =
    record { size = h.size; entries = h.entries; taken = h.taken; pinned = h.pinned; frames = count_in n s h f (s.count f - bias_of s) (λ some. h.frames f (λ none. some (omega (arith, none)))) }
numbers_event n s (drop_last a p write long sequence left last) sound can h =
    record { size = h.size; entries = h.entries; taken = taken_in n s h a left (λ k t is. h.taken a k t (ap (λ ts. slice_get ts k) can.1 ∙ at_longer left last k t is)); pinned = h.pinned; frames = count_in n s h last.frame (s.count last.frame - bias_of s) (λ some. h.frames last.frame (λ none. some (omega (arith, none)))) }
numbers_event n s (drop_first a p write long sequence first left) sound can h =
    record { size = h.size; entries = h.entries; taken = taken_in n s h a left (λ k t is. h.taken a (suc k) t (ap (λ ts. slice_get ts (suc k)) can.1 ∙ is)); pinned = h.pinned; frames = count_in n s h first.frame (s.count first.frame - bias_of s) (λ some. h.frames first.frame (λ none. some (omega (arith, none)))) }
numbers_event n s (leave_walk a p write long sequence) sound can h = numbers_same n s (happens s (leave_walk a p write long sequence)) refl refl refl refl refl refl h

-- at the start nothing is there
pub numbers_first : (movable normal tables : ℕ) (needs_tables : Bool) (is_born : ℕ → Bool) → AreNumbered (movable + normal) (core_start movable normal tables needs_tables is_born)
numbers_first movable normal tables needs_tables is_born =
    record {
      size = refl;
      entries = λ p page e is. absurd (cc);
      taken = λ a k t is. absurd (cc);
      pinned = λ j. omega arith;
      frames = λ f some. absurd (some refl);
    }
