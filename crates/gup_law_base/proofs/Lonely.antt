-- What the references of a frame say of who holds it: a frame without any is nobody's, one with 1 has a single holder,
-- and a pinned one has 1,024 at least. A count has the grabs of walks as well; where one holder is the whole count, no
-- walk has grabbed the frame.
use Rattle.std.proofs.Common.{◌≡◌, ℕ, ◌<◌, ◌≤◌, ◌==◌, ◌⊎◌, inl, inr, Bool, true, false, refl, ap, sym, ◌∙◌, arith}
use Rattle.std.specs.Prelude.{Option, Some, None, IsSome, slice_get}
use Rattle.std.proofs.lemmas.Bool.Decides.{nat_tests}
use Rattle.gup_base.specs.declared.entry.Entry.{Entry}
use Rattle.gup_base.specs.declared.entry.Rights.{Rights}
use Rattle.gup_plain.specs.State.{born}
use Rattle.gup_spec_events.specs.State.{CoreState, Taken, one, Job, idle, marking, moving, forking, walking}
use Rattle.gup_spec_events.specs.Event.{bias}
use Rattle.gup_spec_events.specs.Invariant.{Holder, entry_of_page, cleared_by, prepared_by, owed_by, got_as, page_of_pin, page_taken, grabbed_by, weight, frame_of, got_frame, taken_frame}
use Rattle.gup_law_base.specs.Sound.{View, Moving, moved_frame, moving_of, walk_frame, keeps_table, held, held_by_walk, IsSoundBy}
use Rattle.gup_law_base.proofs.Holders.{kind, first, second, by_holder}
use Rattle.gup_law_base.proofs.Tally.{held_weighs, held_weigh}

moving_keeps : (job : Job) (m : Moving) → moving_of job ≡ Some m → keeps_table job ≡ Some m.proc
moving_keeps (moving p page e allowed count) m is = cc
moving_keeps idle m is = absurd (cc)
moving_keeps (marking p page f) m is = absurd (cc)
moving_keeps (forking p c done step) m is = absurd (cc)
moving_keeps (walking p write long sequence step) m is = absurd (cc)

module _ (v : View) (s : CoreState) (h : IsSoundBy v s) where
  abbrev pub holding : Holder → Option ℕ
  holding = held s.entry v.moves s.prepared s.owed s.got s.pinned s.taken

  -- who keeps a table lock for a move, keeps it for the page's process
  pub table_moves : (p a : ℕ) (m : Moving) → s.table p ≡ Some a → v.moves a ≡ Some m → m.proc ≡ p
  table_moves p a m locked is =
      let keeps : keeps_table (s.job a) ≡ Some m.proc = moving_keeps (s.job a) m (sym (h.moves_are a) ∙ is) in
      let same : Some m.proc ≡ Some p = sym keeps ∙ h.table_held p a locked in
      cc

  -- the entry of a page is there, or a mover has cleared it
  pub whole_is : (p g : ℕ) (e : Entry) → v.whole p g ≡ Some e → (s.entry p g ≡ Some e) ⊎ ((a : ℕ) × (m : Moving) × (v.moves a ≡ Some m) × (m.proc ≡ p) × (m.page ≡ g) × (m.entry ≡ e))
  whole_is p g e is = by_table (s.table p) refl
    where
      by_page : (a : ℕ) (m : Moving) → s.table p ≡ Some a → v.moves a ≡ Some m → (b : Bool) → (m.page == g) ≡ b → (s.entry p g ≡ Some e) ⊎ ((a : ℕ) × (m : Moving) × (v.moves a ≡ Some m) × (m.proc ≡ p) × (m.page ≡ g) × (m.entry ≡ e))
      by_page a m locked moves true same =
          let page : m.page ≡ g = grind (arith, nat_tests) in
          let proc : m.proc ≡ p = table_moves p a m locked moves in
          let there : v.whole m.proc m.page ≡ Some m.entry = h.whole_moved a m moves in
          let entry : m.entry ≡ e = cc in
          inr (a, m, moves, proc, page, entry)
      by_page a m locked moves false other =
          inl (h.whole_other p g a e m is locked moves (λ same. let no : ⊥ = grind (arith, nat_tests) in no))

      by_moves : (a : ℕ) → s.table p ≡ Some a → (m : Option Moving) → v.moves a ≡ m → (s.entry p g ≡ Some e) ⊎ ((a : ℕ) × (m : Moving) × (v.moves a ≡ Some m) × (m.proc ≡ p) × (m.page ≡ g) × (m.entry ≡ e))
      by_moves a locked None none = inl (h.whole_kept p g a e is locked none)
      by_moves a locked (Some m) some = by_page a m locked some (m.page == g) refl

      by_table : (t : Option ℕ) → s.table p ≡ t → (s.entry p g ≡ Some e) ⊎ ((a : ℕ) × (m : Moving) × (v.moves a ≡ Some m) × (m.proc ≡ p) × (m.page ≡ g) × (m.entry ≡ e))
      by_table None free = inl (h.whole_free p g e is free)
      by_table (Some a) locked = by_moves a locked (v.moves a) refl

  -- the page of a holder that is a page's entry, be it cleared
  proc_of : Option Moving → ℕ
  proc_of None = 0
  proc_of (Some m) = m.proc

  page_of : Option Moving → ℕ
  page_of None = 0
  page_of (Some m) = m.page

  place : Holder → ℕ
  place (entry_of_page p g) = p
  place (cleared_by a) = proc_of (v.moves a)
  place x = 0

  number : Holder → ℕ
  number (entry_of_page p g) = g
  number (cleared_by a) = page_of (v.moves a)
  number x = 0

  record IsHolder (p g : ℕ) (e : Entry) (x : Holder) : Type 0 where
    pub holds : holding x ≡ Some e.frame
    pub place : place x ≡ p
    pub number : number x ≡ g
    pub kind : kind x < 2
    pub weight : weight x ≡ 1

  whole_holder : (p g : ℕ) (e : Entry) → v.whole p g ≡ Some e → (x : Holder) × IsHolder p g e x
  unfolding held place number proc_of page_of
  whole_holder p g e is =
      elim (whole_is p g e is) [
        | inl there ↦ (entry_of_page p g, record { holds = ap frame_of there; place = refl; number = refl; kind = omega arith; weight = refl })
        | inr cleared ↦ (cleared_by cleared.0, record { holds = ap moved_frame cleared.2 ∙ ap (λ (d : Entry). Some d.frame) cleared.5; place = ap proc_of cleared.2 ∙ cleared.3; number = ap page_of cleared.2 ∙ cleared.4; kind = omega arith; weight = refl })
      ]

  -- who else holds a frame of which one holder is the whole count? Nobody.
  pub no_other : (x y : Holder) (f : ℕ) → holding x ≡ Some f → v.references f ≡ weight x → (x ≡ y → ⊥) → holding y ≡ Some f → (weight y ≡ 0 → ⊥) → ⊥
  no_other x y f is all apart that positive =
      let both = held_weigh v.references holding x y f h.references apart is that in
      omega arith

  -- no page's entry, where the holder is none
  pub no_whole : (x : Holder) (f p g : ℕ) (e : Entry) → holding x ≡ Some f → v.references f ≡ weight x → 2 ≤ kind x → v.whole p g ≡ Some e → e.frame ≡ f → ⊥
  no_whole x f p g e is all other there same =
      let y : Holder = (whole_holder p g e there).0 in
      let by : IsHolder p g e y = (whole_holder p g e there).1 in
      let apart : x ≡ y → ⊥ = λ is. let k : kind x ≡ kind y = ap kind is in omega (arith, by.kind) in
      no_other x y f is all apart (by.holds ∙ ap (λ n. Some n) same) (λ zero. omega (arith, by.weight))

  -- two pages' entries have a frame of count 1 only where they are one
  pub once_wholes : (p g q d : ℕ) (e u : Entry) → v.whole p g ≡ Some e → v.whole q d ≡ Some u → e.frame ≡ u.frame → v.references e.frame ≡ 1 → (p ≡ q) × (g ≡ d)
  once_wholes p g q d e u there also same once =
      let x : Holder = (whole_holder p g e there).0 in
      let by : IsHolder p g e x = (whole_holder p g e there).1 in
      let y : Holder = (whole_holder q d u also).0 in
      let to : IsHolder q d u y = (whole_holder q d u also).1 in
      let wrong = λ (apart : x ≡ y → ⊥). no_other x y e.frame by.holds (once ∙ sym by.weight) apart (to.holds ∙ ap (λ n. Some n) (sym same)) (λ zero. omega (arith, to.weight)) in
      by_holder x y (λ is. (sym by.place ∙ (ap place is ∙ to.place), sym by.number ∙ (ap number is ∙ to.number))) (λ apart. absurd (wrong apart))

  pub whole_counts : (p g : ℕ) (e : Entry) → v.whole p g ≡ Some e → 1 ≤ v.references e.frame
  whole_counts p g e there =
      let by : IsHolder p g e (whole_holder p g e there).0 = (whole_holder p g e there).1 in
      omega (arith, held_weighs v.references holding (whole_holder p g e there).0 e.frame h.references by.holds, by.weight)

  -- pins weigh 1,024

  pub handle_counts : (j k f : ℕ) → slice_get (s.pinned j) k ≡ Some f → bias ≤ v.references f
  unfolding held
  handle_counts j k f is = held_weighs v.references holding (page_of_pin j k) f h.references is

  pub taken_counts : (a k : ℕ) (t : Taken) → slice_get (s.taken a) k ≡ Some t → bias ≤ v.references t.frame
  unfolding held
  taken_counts a k t is = held_weighs v.references holding (page_taken a k) t.frame h.references (ap taken_frame is)

  -- the two parts of a count

  pub uncounted : (f : ℕ) → s.count f ≡ 0 → (v.references f ≡ 0) × (v.grabs f ≡ 0)
  uncounted f free = (omega (arith, h.count_is f, free), omega (arith, h.count_is f, free))

  -- the references are the whole count
  pub all_counted : (f n : ℕ) → s.count f ≡ n → n ≤ v.references f → (v.references f ≡ n) × (v.grabs f ≡ 0)
  all_counted f n all weighs = (omega (arith, h.count_is f, all, weighs), omega (arith, h.count_is f, all, weighs))

  -- one holder is the whole count
  pub holder_alone : (x : Holder) (f : ℕ) → holding x ≡ Some f → s.count f ≡ weight x → (v.references f ≡ weight x) × (v.grabs f ≡ 0)
  holder_alone x f is all = all_counted f (weight x) all (held_weighs v.references holding x f h.references is)

  pub whole_alone : (p g : ℕ) (e : Entry) → v.whole p g ≡ Some e → s.count e.frame ≡ 1 → (v.references e.frame ≡ 1) × (v.grabs e.frame ≡ 0)
  whole_alone p g e there once = all_counted e.frame 1 once (whole_counts p g e there)

  pub owed_alone : (a f : ℕ) → s.owed a ≡ Some f → s.count f ≡ 1 → (v.references f ≡ 1) × (v.grabs f ≡ 0)
  unfolding held
  owed_alone a f is once = holder_alone (owed_by a) f is once

  pub got_alone : (k f : ℕ) → got_frame (s.got k) ≡ Some f → s.count f ≡ 1 → (v.references f ≡ 1) × (v.grabs f ≡ 0)
  unfolding held
  got_alone k f is once = holder_alone (got_as k) f is once

  pub pin_alone : (j k f : ℕ) → slice_get (s.pinned j) k ≡ Some f → s.count f ≡ bias → (v.references f ≡ bias) × (v.grabs f ≡ 0)
  pin_alone j k f is all = all_counted f bias all (handle_counts j k f is)

  pub taken_alone : (a k : ℕ) (t : Taken) → slice_get (s.taken a) k ≡ Some t → s.count t.frame ≡ bias → (v.references t.frame ≡ bias) × (v.grabs t.frame ≡ 0)
  taken_alone a k t is all = all_counted t.frame bias all (taken_counts a k t is)

  -- a frame that a walk has grabbed

  pub grab_counts : (a f : ℕ) → walk_frame (v.walks a) ≡ Some f → bias ≤ v.grabs f
  unfolding held_by_walk
  grab_counts a f is = held_weighs v.grabs (held_by_walk v.walks) (grabbed_by a) f h.grabs is

  pub grabbed_counts : (a f : ℕ) → walk_frame (v.walks a) ≡ Some f → bias ≤ s.count f
  grabbed_counts a f is = omega (arith, grab_counts a f is, h.count_is f)

  pub grabbed_counted : (a f : ℕ) → walk_frame (v.walks a) ≡ Some f → s.count f ≡ 0 → ⊥
  grabbed_counted a f is free = omega (arith, grabbed_counts a f is, free)

  -- where a walk's grab is the whole count, nobody else holds the frame
  pub grab_alone : (a f : ℕ) → walk_frame (v.walks a) ≡ Some f → s.count f ≡ bias → (v.references f ≡ 0) × (v.grabs f ≡ bias)
  grab_alone a f is all = (omega (arith, grab_counts a f is, h.count_is f, all), omega (arith, grab_counts a f is, h.count_is f, all))

  -- a prepared frame is in no entry, and nobody else prepares it

  pub prepared_whole : (a f p g : ℕ) (e : Entry) → s.prepared a ≡ Some f → v.whole p g ≡ Some e → e.frame ≡ f → ⊥
  unfolding held
  prepared_whole a f p g e is there same = no_whole (prepared_by a) f p g e is (h.prepared_once a f is) (omega arith) there same

  pub prepared_alone : (a b f : ℕ) → s.prepared a ≡ Some f → s.prepared b ≡ Some f → a ≡ b
  unfolding held
  prepared_alone a b f is that =
      by_holder (prepared_by a) (prepared_by b) (λ same. ap first same) (λ apart. absurd (no_other (prepared_by a) (prepared_by b) f is (h.prepared_once a f is) apart that (λ zero. omega arith)))

  pub prepared_counts : (a f : ℕ) → s.prepared a ≡ Some f → 1 ≤ v.references f
  prepared_counts a f is = omega (arith, h.prepared_once a f is)

  -- a page without an entry, whose table nobody keeps
  pub whole_none : (p g : ℕ) → s.table p ≡ None → s.entry p g ≡ None → v.whole p g ≡ None
  whole_none p g free absent = go (v.whole p g) refl
    where
      go : (o : Option Entry) → v.whole p g ≡ o → o ≡ None
      go None is = refl
      go (Some e) is = absurd (let there = h.whole_free p g e is free in cc)

  -- a mapped page names its object
  pub mapped_names : (p g : ℕ) → IsSome (s.right p g) → v.names p g ≡ Some (s.object p g)
  mapped_names p g mapped = go (s.right p g) refl mapped
    where
      go : (o : Option Rights) → s.right p g ≡ o → IsSome o → v.names p g ≡ Some (s.object p g)
      go None is mapped = absurd (cc)
      go (Some r) is mapped = h.right_names p g r is

  -- of a holder that isn't an entry: whoever prepares its frame, or has cleared and counted it once, is no other

  no_prepared : (x : Holder) (f b : ℕ) → holding x ≡ Some f → (kind x ≡ 2 → ⊥) → (weight x ≡ 0 → ⊥) → s.prepared b ≡ Some f → ⊥
  unfolding held
  no_prepared x f b is other positive that =
      no_other (prepared_by b) x f that (h.prepared_once b f that) (λ same. other (sym (ap kind same))) is positive

  no_moving : (x : Holder) (b : ℕ) (m : Moving) → holding x ≡ Some m.entry.frame → (kind x ≡ 1 → ⊥) → (weight x ≡ 0 → ⊥) → v.moves b ≡ Some m → m.count ≡ one → ⊥
  unfolding held
  no_moving x b m is other positive that once =
      no_other (cleared_by b) x m.entry.frame (ap moved_frame that) (h.moving_once b m that once) (λ same. other (sym (ap kind same))) is positive

  pub owed_counts : (a f : ℕ) → s.owed a ≡ Some f → 1 ≤ v.references f
  unfolding held
  owed_counts a f is = held_weighs v.references holding (owed_by a) f h.references is

  pub owed_whole : (a f p g : ℕ) (e : Entry) → s.owed a ≡ Some f → v.references f ≡ 1 → v.whole p g ≡ Some e → e.frame ≡ f → ⊥
  unfolding held
  owed_whole a f p g e is once there same = no_whole (owed_by a) f p g e is once (omega arith) there same

  pub owed_prepared : (a f b : ℕ) → s.owed a ≡ Some f → s.prepared b ≡ Some f → ⊥
  unfolding held
  owed_prepared a f b is that = no_prepared (owed_by a) f b is (λ k. omega (arith, k)) (λ k. omega (arith, k)) that

  pub owed_moving : (a b : ℕ) (m : Moving) → s.owed a ≡ Some m.entry.frame → v.moves b ≡ Some m → m.count ≡ one → ⊥
  unfolding held
  owed_moving a b m is that once = no_moving (owed_by a) b m is (λ k. omega (arith, k)) (λ k. omega (arith, k)) that once

  pub got_counts : (k f : ℕ) → got_frame (s.got k) ≡ Some f → 1 ≤ v.references f
  unfolding held
  got_counts k f is = held_weighs v.references holding (got_as k) f h.references is

  pub got_whole : (k f p g : ℕ) (e : Entry) → got_frame (s.got k) ≡ Some f → v.references f ≡ 1 → v.whole p g ≡ Some e → e.frame ≡ f → ⊥
  unfolding held
  got_whole k f p g e is once there same = no_whole (got_as k) f p g e is once (omega arith) there same

  pub got_prepared : (k f b : ℕ) → got_frame (s.got k) ≡ Some f → s.prepared b ≡ Some f → ⊥
  unfolding held
  got_prepared k f b is that = no_prepared (got_as k) f b is (λ n. omega (arith, n)) (λ n. omega (arith, n)) that

  pub got_moving : (k b : ℕ) (m : Moving) → got_frame (s.got k) ≡ Some m.entry.frame → v.moves b ≡ Some m → m.count ≡ one → ⊥
  unfolding held
  got_moving k b m is that once = no_moving (got_as k) b m is (λ n. omega (arith, n)) (λ n. omega (arith, n)) that once

  -- a pinned page that is the whole count of its frame

  pub pin_whole : (j k f p g : ℕ) (e : Entry) → slice_get (s.pinned j) k ≡ Some f → v.references f ≡ bias → v.whole p g ≡ Some e → e.frame ≡ f → ⊥
  unfolding held
  pin_whole j k f p g e is all there same = no_whole (page_of_pin j k) f p g e is all (omega arith) there same

  pub pin_handle : (j k i n f : ℕ) → slice_get (s.pinned j) k ≡ Some f → v.references f ≡ bias → slice_get (s.pinned i) n ≡ Some f → (j ≡ i) × (k ≡ n)
  unfolding held
  pin_handle j k i n f is all that =
      by_holder (page_of_pin j k) (page_of_pin i n) (λ same. (ap first same, ap second same)) (λ apart. absurd (no_other (page_of_pin j k) (page_of_pin i n) f is all apart that (λ zero. omega arith)))

  pub pin_taken : (j k b n f : ℕ) (t : Taken) → slice_get (s.pinned j) k ≡ Some f → v.references f ≡ bias → slice_get (s.taken b) n ≡ Some t → t.frame ≡ f → ⊥
  unfolding held
  pin_taken j k b n f t is all that same =
      no_other (page_of_pin j k) (page_taken b n) f is all (λ e. let k : 5 ≡ 6 = ap kind e in omega (arith, k)) (ap taken_frame that ∙ ap (λ x. Some x) same) (λ zero. omega (arith, zero))

  -- a page that is mapped, of a born process, where there is an entry
  pub born_mapped : (p g : ℕ) (e : Entry) → s.birth p ≡ born → v.whole p g ≡ Some e → IsSome (s.right p g)
  born_mapped p g e is there = go (s.right p g) refl
    where
      go : (o : Option Rights) → s.right p g ≡ o → IsSome o
      go None none = absurd (let lost = h.entry_mapped p g e there none in cc)
      go (Some r) some = refl

  -- an unmarked frame in an entry of a page table that nobody keeps is not exclusive
  pub unmarked_unowned : (p g : ℕ) (e : Entry) → v.whole p g ≡ Some e → s.table p ≡ None → s.mark e.frame ≡ false → s.own e.frame ≡ None
  unmarked_unowned p g e there free unmarked = go (s.own e.frame) refl
    where
      go : (o : Option ℕ) → s.own e.frame ≡ o → o ≡ None
      go None is = refl
      go (Some o) is = absurd (let marked = h.own_marked p g o e there is free in cc)
