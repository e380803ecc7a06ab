-- A turn invalidates the pages of which it is to empty the slots, and no others that have an entry.
use Rattle.std.proofs.Common.{◌≡◌, ℕ, ◌+◌, ◌==◌, ◌<◌, ◌≤◌, ◌||◌, not, nat_lt, Bool, true, false, List, [], ◌∷◌, length, Option, Some, None, IsSome, is_some, refl, sym, ap, ◌∙◌, zero, suc, if◌then◌else◌, arith}
use Rattle.std.proofs.Math.Bool.{or-false}
use Rattle.std.proofs.lemmas.Bool.Decides.{nat_tests}
use Rattle.gup_base.specs.Parts.{words_of, word_at}
use Rattle.gup_base.specs.declared.entry.Allowed.{Allowed}
use Rattle.gup_base.specs.declared.entry.Allowed.TheVariants.{Any, Only}
use Rattle.gup_base.specs.declared.entry.Entry.{Entry}
use Rattle.gup_base.specs.declared.entry.Rights.{Rights}
use Rattle.gup_base.specs.declared.entry.Rights.TheVariants.{R, RW}
use Rattle.gup_base.specs.declared.entry.Zone.{Zone}
use Rattle.gup_plain.specs.Denial.{any_mapped, any_unmapped, map_denial, protect_denial, is_held_by, transfer_denial}
use Rattle.gup_plain.specs.Event.{page_numbers, words}
use Rattle.gup_plain.specs.declared.answer.Answer.{Answer}
use Rattle.gup_plain.specs.declared.event.PlainEvent.{PlainEvent}
use Rattle.gup_script.specs.Valid.{IsOp}
use Rattle.gup_script.specs.declared.op.Op.{Op}
use Rattle.gup_script.specs.declared.op.Op.TheVariants.{Map, Unmap, Protect, Discard, Load, Store, Pin, Unpin, Give, Take, Get, Put, Transfer, Mirror, Look, Fork, Exit, Move}
use Rattle.gup_spec_events.specs.State.{CoreState, Job, idle, moving, forking, Counted, unread, one, more, between, counted, copying}
use Rattle.gup_spec_events.specs.Event.{CoreEvent, lower_entry, protect_pages, drop_entry, discard_entry, load, store, get_reference, has_tables}
use Rattle.gup_spec_events.specs.Failure.{are_gone, puts_entry, puts_entries}
use Rattle.gup_spec_events.specs.Fault.{gives_back}
use Rattle.gup_spec_journal.specs.Denial.{has_reference}
use Rattle.gup_spec_turns.specs.CoreTurn.{free_in, frame_for}
use Rattle.gup_spec_turns.specs.PageTurns.{loads, load_turn, stores, store_turn, load_fault, store_fault, mapped_turn, lowers_entry, lowers, lowers_for, exit_turn_by, lowest_page}
use Rattle.gup_spec_turns.specs.PinTurns.{gets, get_turn, got_by, got_frame}
use Rattle.gup_spec_turns.specs.MoveTurns.{place_turn, counted_turn, move_turn}
use Rattle.gup_spec_turns.specs.ForkTurns.{next_page, page_turn, next_turn, share_turn, frame_turn, copy_turn, copying_turn, fork_turn}
use Rattle.gup_spec_turns.specs.Turn.{op_turn}
use Rattle.gup_spec_turns.specs.Emptying.{PageRange, one_page, has_page, invalidated_by, invalidate}
use Rattle.gup_spec_turns.proofs.TurnParts.{map_turn_by, protect_turn_by, unpin_turn_by, give_turn_by, put_turn_by, clear_turn_by, transfer_turn_by}
use Rattle.gup_law_turns.proofs.MirrorOps.{mirror_none, look_none}
use Rattle.gup_law_mirrors.specs.Invalidated.{page_if, for_store, changes_page, range_from, moved_in, shared_in, invalidated_in}
use Rattle.gup_law_mirrors.proofs.Invalidates.{Invalidates, behind, absent, tailed, faulted, goes, load_none, store_changes}
use Rattle.gup_law_mirrors.proofs.InvalidatingPins.{pin_invalidates}

-- the range has the page
inside : (p base m page g q : ℕ) → base ≤ page → page < base + m → has_page (one_page p page) q g ≡ true → has_page (Some (record { proc = p; page = base; n = m })) q g ≡ true
inside p base m page g q above below is = grind (arith, nat_tests, above, below, is)

either_in : (x y z : Bool) → (x ≡ true → z ≡ true) → (y ≡ true → z ≡ true) → (x || y) ≡ true → z ≡ true
either_in true y z first second is = first refl
either_in false y z first second is = second is

in_it : (x y : Bool) → (x ≡ true → y ≡ true) → (x || (y || false)) ≡ y
in_it true y so = sym (so refl)
in_it false y so = or-false y

-- the entries that a protect lowers are of its pages
lowered : (a p page q g : ℕ) (entry : Option Entry) → invalidate (lowers_entry a p page entry) q g ≡ true → has_page (one_page p page) q g ≡ true
lowered a p page q g None is = absurd (cc)
lowered a p page q g (Some e) is = by_entry e.writable is
  where
    by_entry : (writable : Bool) → invalidate (if writable then lower_entry a p page e.frame ∷ [] else []) q g ≡ true → has_page (one_page p page) q g ≡ true
    by_entry true is = sym (or-false (has_page (one_page p page) q g)) ∙ is
    by_entry false is = absurd (cc)

lowered_all : (a p base m page n q g : ℕ) (entry : ℕ → Option Entry) → base ≤ page → page + n ≤ base + m → invalidate (lowers entry a p page n) q g ≡ true → has_page (Some (record { proc = p; page = base; n = m })) q g ≡ true
lowered_all a p base m page zero q g entry above below is = absurd (cc)
lowered_all a p base m page (suc n) q g entry above below is =
    either_in (invalidate (lowers_entry a p page (entry page)) q g) (invalidate (lowers entry a p (page + 1) n) q g) (has_page (Some (record { proc = p; page = base; n = m })) q g)
    (λ here. inside p base m page g q above (omega arith) (lowered a p page q g (entry page) here))
    (λ further. lowered_all a p base m (page + 1) n q g entry (omega arith) (omega arith) further)
    (sym (behind (lowers_entry a p page (entry page)) (lowers entry a p (page + 1) n) q g) ∙ is)

lowered_for : (a p page n q g : ℕ) (rights : Rights) (entry : ℕ → Option Entry) → invalidate (lowers_for rights entry a p page n) q g ≡ true → has_page (Some (record { proc = p; page = page; n = n })) q g ≡ true
lowered_for a p page n q g R entry is = lowered_all a p page n page n q g entry (omega arith) (omega arith) is
lowered_for a p page n q g RW entry is = absurd (cc)

module _ (s : CoreState) (a p : ℕ) where
  -- ---- pages

  loaded : (page word : ℕ) → Invalidates s (load_turn s a p page word (s.entry p page)).events None
  loaded page word =
      faulted s (load_fault s a p page (s.entry p page)) (λ before. loads s before a p page word) None
      (λ before none. tailed s before (load a p page word _ _ ∷ []) None none (λ q g some. refl)) (load_none s a p page (s.entry p page))

  got : (handle page : ℕ) → Invalidates s (get_turn s a p handle page (s.entry p page)).events None
  got handle page =
      faulted s (load_fault s a p page (s.entry p page)) (λ before. gets s before a p handle page) None
      (λ before none. tailed s before (get_reference a p page _ handle _ ∷ []) None none (λ q g some. refl)) (load_none s a p page (s.entry p page))

  stored : (page word value : ℕ) → Invalidates s (store_turn s a p page word value (s.entry p page)).events (range_from p 1 (page_if (changes_page s p page for_store) page))
  stored page word value =
      let range : Option PageRange = range_from p 1 (page_if (changes_page s p page for_store) page) in
      faulted s (store_fault s a p page (s.entry p page)) (λ before. stores s before a p page word value) range
      (λ before is. tailed s before (store a p page word _ value ∷ []) range is (λ q g some. refl)) (store_changes s a p page (s.entry p page))

  mapped : (denied : Option Answer) (page n : ℕ) (rights : Rights) → Invalidates s (map_turn_by denied a p page n rights).events None
  mapped None page n rights q g some = refl
  mapped (Some denied) page n rights q g some = refl

  protected : (lacks : Bool) (page n : ℕ) (rights : Rights) → Invalidates s (protect_turn_by (protect_denial lacks) s a p page n rights).events (range_from p n (page_if (not lacks) page))
  protected true page n rights q g some = refl
  protected false page n rights q g some =
      let range : Option PageRange = Some (record { proc = p; page = page; n = n }) in
      let es : List CoreEvent = lowers_for rights (s.entry p) a p page n in
      behind es (protect_pages a p page n rights ∷ []) q g
      ∙ in_it (invalidate es q g) (has_page range q g) (lowered_for a p page n q g rights (s.entry p))

  exited : (page : Option ℕ) → Invalidates s (exit_turn_by s a p page).events (range_from p 1 page)
  exited None q g some = refl
  exited (Some page) q g some = goes s a p page (s.entry p page) (drop_entry a p page (s.entry p page)) refl q g some

  -- a page without a mapping has no entry
  module _ (maps : (page : ℕ) (e : Entry) → s.entry p page ≡ Some e → IsSome (s.right p page)) where
    no_entry : (page : ℕ) (entry : Option Entry) → s.entry p page ≡ entry → s.right p page ≡ None → entry ≡ None
    no_entry page None is none = refl
    no_entry page (Some e) is none = absurd (let never : false ≡ true = sym (ap is_some none) ∙ maps page e is in cc)

    unmapped : (page : ℕ) (right : Option Rights) (last : Bool) (event : CoreEvent) (told : PlainEvent) → s.right p page ≡ right → invalidated_by event ≡ one_page p page
        → Invalidates s (mapped_turn right last (event ∷ gives_back a (s.entry p page)) told).events (one_page p page)
    unmapped page None last event told none is q g some = sym (absent s p page (no_entry page (s.entry p page) refl none) q g some)
    unmapped page (Some rights) last event told has is q g some = goes s a p page (s.entry p page) event is q g some

    move_clears : (page : ℕ) (zone : Zone) (right : Option Rights) (entry : Option Entry) → s.right p page ≡ right → s.entry p page ≡ entry → Invalidates s (clear_turn_by right a p page zone entry).events (one_page p page)
    move_clears page zone None entry none is q g some = sym (absent s p page (no_entry page (s.entry p page) refl none) q g some)
    move_clears page zone (Some rights) None has is q g some = sym (absent s p page is q g some)
    move_clears page zone (Some rights) (Some e) has is q g some = or-false (has_page (one_page p page) q g)

    placed : (page : ℕ) (e : Entry) (allowed : Allowed) (free : Option ℕ) → Invalidates s (place_turn a p page e allowed free).events None
    placed page e allowed None q g some = refl
    placed page e allowed (Some f) q g some = refl

    counted_none : (page : ℕ) (e : Entry) (allowed : Allowed) (count : Counted) → Invalidates s (counted_turn s a p page e allowed count).events None
    counted_none page e allowed unread q g some = refl
    counted_none page e allowed one q g some = placed page e allowed (free_in s allowed) q g some
    counted_none page e allowed (more count) q g some = refl

    moved : (page : ℕ) (zone : Zone) (job : Job) → Invalidates s (move_turn s a p page zone job).events (range_from p 1 (moved_in page job))
    moved page zone idle q g some = move_clears page zone (s.right p page) (s.entry p page) refl refl q g some
    moved page zone (moving r h e allowed count) q g some = counted_none page e (Only zone) count q g some
    moved page zone job q g some = refl

  -- ---- pins that are made, and references

  pub unpinned_none : (held : Bool) (handle : ℕ) → Invalidates s (unpin_turn_by held a handle (s.pinned handle)).events None
  unpinned_none true handle q g some = refl
  unpinned_none false handle q g some = refl

  pub given_none : (held : Bool) (handle to : ℕ) → Invalidates s (give_turn_by held a handle to).events None
  given_none true handle to q g some = refl
  given_none false handle to q g some = refl

  put_none : (held : Bool) (handle : ℕ) → Invalidates s (put_turn_by held a handle (got_frame (s.got handle))).events None
  put_none true handle q g some = refl
  put_none false handle q g some = refl

  pub transferred : (denied : Option Answer) (handle : ℕ) (outward last : Bool) (index slot : ℕ) → Invalidates s (transfer_turn_by denied s a handle outward last index slot).events None
  transferred (Some denied) handle outward last index slot q g some = refl
  transferred None handle true last index slot q g some = refl
  transferred None handle false last index slot q g some = refl

  -- ---- forks

  entry_put : (c : ℕ) (done : List ℕ) (page : ℕ) (entry : Option Entry) (ends : Bool) → Invalidates s (puts_entry a p c done page entry ends) None
  entry_put c done page None ends q g some = refl
  entry_put c done page (Some e) ends q g some = refl

  entries_put : (c : ℕ) (done : List ℕ) (entry : ℕ → Option Entry) (page n : ℕ) → Invalidates s (puts_entries a p c done entry page n) None
  entries_put c done entry page zero q g some = refl
  entries_put c done entry page (suc n) q g some =
      tailed s (puts_entry a p c done page (entry page) (are_gone entry (page + 1) n)) (puts_entries a p c done entry (page + 1) n) None
      (entry_put c done page (entry page) (are_gone entry (page + 1) n)) (entries_put c done entry (page + 1) n) q g some

  framed : (c : ℕ) (done : List ℕ) (page word : ℕ) (free : Option ℕ) → Invalidates s (frame_turn s a p c done page word free).events None
  framed c done page word None = entries_put c done (s.entry c) 0 page_numbers
  framed c done page word (Some f) = λ q g some. refl

  copied : (c : ℕ) (done : List ℕ) (page word to : ℕ) (more : Bool) → Invalidates s (copy_turn s a p c done page word to more).events None
  copied c done page word to true q g some = refl
  copied c done page word to false q g some = refl

  copying_none : (c : ℕ) (done : List ℕ) (page word : ℕ) (prepared : Option ℕ) → Invalidates s (copying_turn s a p c done page word prepared).events None
  copying_none c done page word None = framed c done page word (frame_for s c page Any)
  copying_none c done page word (Some to) = copied c done page word to (nat_lt word words)

  passed : (c : ℕ) (done : List ℕ) (page : ℕ) (entry : Option Entry) → Invalidates s (page_turn s a p c done page entry).events None
  passed c done page None q g some = refl
  passed c done page (Some e) q g some = refl

  next_none : (c : ℕ) (done : List ℕ) (page : Option ℕ) → Invalidates s (next_turn s a p c done page).events None
  next_none c done None = λ q g some. refl
  next_none c done (Some page) = passed c done page (s.entry p page)

  shared : (c : ℕ) (done : List ℕ) (page : ℕ) (entry : Option Entry) (may : Bool) → Invalidates s (share_turn s a p c done page entry may).events (range_from p 1 (page_if may page))
  shared c done page entry true = λ q g some. or-false (has_page (one_page p page) q g)
  shared c done page entry false = entries_put c done (s.entry c) 0 page_numbers

  pub forked : (c : ℕ) (job : Job) → Invalidates s (fork_turn s a p c job).events (range_from p 1 (shared_in s c job))
  forked c (forking q d done between) = next_none c done (next_page (s.right c) done)
  forked c (forking q d done (counted page)) = shared c done page (s.entry p page) (has_tables s c page)
  forked c (forking q d done (copying page word)) = copying_none c done page word (s.prepared a)
  forked c (forking q d done step) = λ r g some. refl
  forked c job = λ r g some. refl

-- Which pages a turn invalidates, of those that have an entry, where each page with an entry is mapped.
pub invalidated_is : (s : CoreState) (a p slots far : ℕ) (op : Op) → IsOp op → ((page : ℕ) (e : Entry) → s.entry p page ≡ Some e → IsSome (s.right p page)) → (q g : ℕ) → IsSome (s.entry q g)
    → invalidate (op_turn s a p slots far op).events q g ≡ has_page (invalidated_in s a p far op) q g
invalidated_is s a p slots far (Map page n rights) valid maps = mapped s a p (map_denial (any_mapped (s.right p) page n) (s.pages p) n) page n rights
invalidated_is s a p slots far (Unmap page n) valid maps =
    unmapped s a p maps (page + far) (s.right p (page + far)) (far + 1 == n) (drop_entry a p (page + far) (s.entry p (page + far))) _ refl refl
invalidated_is s a p slots far (Protect page n rights) valid maps = protected s a p (any_unmapped (s.right p) page n) page n rights
invalidated_is s a p slots far (Discard page n) valid maps =
    unmapped s a p maps (page + far) (s.right p (page + far)) (far + 1 == n) (discard_entry a p (page + far) (s.entry p (page + far))) _ refl refl
invalidated_is s a p slots far (Load page word) valid maps = loaded s a p page word
invalidated_is s a p slots far (Store page word value) valid maps = stored s a p page word value
invalidated_is s a p slots far (Pin handle page n want fast) valid maps = pin_invalidates s a p handle page n (length (s.taken a)) want fast far (s.job a)
invalidated_is s a p slots far (Unpin handle) valid maps = unpinned_none s a p (is_held_by (s.handle handle) a) handle
invalidated_is s a p slots far (Give handle to) valid maps = given_none s a p (is_held_by (s.handle handle) a) handle to
invalidated_is s a p slots far (Take handle) valid maps = λ q g some. refl
invalidated_is s a p slots far (Get handle page) valid maps = got s a p handle page
invalidated_is s a p slots far (Put handle) valid maps = put_none s a p (has_reference (got_by (s.got handle)) a) handle
invalidated_is s a p slots far (Transfer handle outward slot parts) valid maps =
    transferred s a p (transfer_denial (s.handle handle) a outward slots slot parts) handle outward (far + 1 == words_of parts) (word_at parts far) (slot + far)
invalidated_is s a p slots far (Mirror mirror proc page) valid maps = λ q g some. mirror_none s a p mirror page q g (s.entry p page)
invalidated_is s a p slots far (Look mirror word) valid maps = λ q g some. look_none s a mirror word q g (s.mirrored mirror)
invalidated_is s a p slots far (Move proc page zone) valid maps = moved s a p maps page zone (s.job a)
invalidated_is s a p slots far (Fork child) valid maps = forked s a p child (s.job a)
invalidated_is s a p slots far Exit valid maps = exited s a p (lowest_page (s.right p))
