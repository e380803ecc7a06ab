-- What a walk drops: a frame whose entry was another, the page whose mark was missing, or the first of all that are left.
use Rattle.std.specs.Prelude.{◌≡◌, ℕ, ◌-◌, ◌<◌, suc, List, [], ◌∷◌, length, take, Some, slice_get}
use Rattle.std.proofs.Common.{refl, sym, ap, subst, ◌∙◌, arith}
use Rattle.std.proofs.lemmas.Bool.Decides.{nat_tests}
use Rattle.gup_frames.specs.Frames.{FramesValue, without_references}
use Rattle.gup_space.specs.Shows.{ShowsFrames, ShowsSpace}
use Rattle.gup_space.specs.Space.{SpaceValue}
use Rattle.gup_spec_events.specs.State.{CoreState, Taken, idle, entered, ready, reading, read, grabbed, rechecked, differed, refused, stopped, dropping, over}
use Rattle.gup_spec_events.specs.Event.{happens, run, taken_frames, drop_first}
use Rattle.gup_spec_events.specs.Event.{without_references as core_without}
use Rattle.gup_fast.specs.Walks.{WalkValue, Stage, ShowsWalk, AreWalkEvents, IsWalk, FitsStage, unbegun, at, left, last_of, first_of, but_first, stage_left, dropped_at, dropped_frames, after_drop, split_last, drops, drops_first, drops_last, job_at, walks_after, counted_in}
use Rattle.gup_fast.proofs.Begins.{change, own}

-- what a pop takes out is the last
pub last_is : (taken : List ℕ) → slice_get taken (length taken - 1) ≡ last_of taken
last_is [] = refl
last_is (f ∷ []) = refl
last_is (f ∷ g ∷ taken) =
    let next : length (f ∷ g ∷ taken) - 1 ≡ suc (length (g ∷ taken) - 1) = omega arith in
    rw next (last_is (g ∷ taken))

-- the frames of a state where one has lost the weight of a pin
without_pin : (F : FramesValue) (s : CoreState) (f : ℕ) → ShowsFrames F s → ShowsFrames (without_references f 1024 F) (core_without f 1024 s)
without_pin F s f h =
    record { movable = h.movable; normal = h.normal; count = λ g. grind (arith, nat_tests, h.count g, h.count f); mark = λ g. grind (arith, nat_tests, h.mark g, h.mark f, h.count f); word = h.word; needs_tables = h.needs_tables }

-- ---- the page whose mark was missing

-- pages of which the last stands apart, with its frame and those of the others
record AreSplit (taken : List Taken) : Type 0 where
  others : List Taken
  last : Taken
  split : split_last taken ≡ Some (others, last)
  frame : last_of (taken_frames taken) ≡ Some last.frame
  frames : take (length (taken_frames taken) - 1) (taken_frames taken) ≡ taken_frames others

are_split : (t : Taken) (taken : List Taken) → AreSplit (t ∷ taken)
are_split t [] = record { others = []; last = t; split = refl; frame = refl; frames = refl }
are_split t (u ∷ taken) =
    let behind : AreSplit (u ∷ taken) = are_split u taken in
    let next : length (taken_frames (t ∷ u ∷ taken)) - 1 ≡ suc (length (taken_frames (u ∷ taken)) - 1) = omega arith in
    record {
      others = t ∷ behind.others;
      last = behind.last;
      split = rw behind.split refl;
      frame = behind.frame;
      frames = rw next (ap (λ fs. t.frame ∷ fs) behind.frames);
    }

last_goes : (F : FramesValue) (S : SpaceValue) (w : WalkValue) (s : CoreState) (a p : ℕ) (taken : List Taken) → 0 < length (taken_frames taken) → ShowsFrames F s → ShowsSpace p S s
    → ShowsFrames (dropped_frames (last_of (taken_frames taken)) F) (run s (drops_last a p w (split_last taken))) × ShowsSpace p (record S { walks = S.walks }) (run s (drops_last a p w (split_last taken)))
    × ShowsWalk a p (record w { taken = take (length (taken_frames taken) - 1) (taken_frames taken); stage = at stopped }) (run s (drops_last a p w (split_last taken)))
last_goes F S w s a p [] some frames space = absurd (omega (arith, some))
last_goes F S w s a p (t ∷ taken) some frames space =
    let parts : AreSplit (t ∷ taken) = are_split t taken in
    let dropped : ShowsFrames (without_references parts.last.frame 1024 F) (core_without parts.last.frame 1024 s) = without_pin F s parts.last.frame frames in
    rw parts.split
    (rw parts.frame
    (rw parts.frames (
      record { movable = dropped.movable; normal = dropped.normal; count = dropped.count; mark = dropped.mark; word = dropped.word; needs_tables = dropped.needs_tables },
      record { right = space.right; pages = space.pages; entry = space.entry; sequence = space.sequence; has_pinned = space.has_pinned; structure = space.structure; table = space.table; walks = space.walks; place = space.place; retired = space.retired },
      record { job = own a _ s.job; taken = ap taken_frames (own a parts.others s.taken) },
    )))

-- ---- the first of all that are left

first_goes : (F : FramesValue) (S : SpaceValue) (w : WalkValue) (s : CoreState) (a p : ℕ) (taken : List Taken) → 0 < length (taken_frames taken) → ShowsFrames F s → ShowsSpace p S s
    → ShowsFrames (dropped_frames (first_of (taken_frames taken)) F) (run s (drops_first a p w taken)) × ShowsSpace p (record S { walks = walks_after (at dropping) (stage_left (but_first (taken_frames taken))) S.walks }) (run s (drops_first a p w taken))
    × ShowsWalk a p (record w { taken = but_first (taken_frames taken); stage = stage_left (but_first (taken_frames taken)) }) (run s (drops_first a p w taken))
first_goes F S w s a p [] some frames space = absurd (omega (arith, some))
first_goes F S w s a p (t ∷ []) some frames space =
    let dropped : ShowsFrames (without_references t.frame 1024 F) (core_without t.frame 1024 s) = without_pin F s t.frame frames in (
      record { movable = dropped.movable; normal = dropped.normal; count = dropped.count; mark = dropped.mark; word = dropped.word; needs_tables = dropped.needs_tables },
      record { right = space.right; pages = space.pages; entry = space.entry; sequence = space.sequence; has_pinned = space.has_pinned; structure = space.structure; table = space.table; walks = own p (s.walks p - 1) s.walks ∙ ap (λ (n : ℕ). n - 1) space.walks; place = space.place; retired = space.retired },
      record {
        job = own a idle (happens s (drop_first a p w.want.write w.want.long w.sequence t [])).job;
        taken = ap taken_frames (own a [] s.taken);
      },
    )
first_goes F S w s a p (t ∷ u ∷ taken) some frames space =
    let dropped : ShowsFrames (without_references t.frame 1024 F) (core_without t.frame 1024 s) = without_pin F s t.frame frames in (
      record { movable = dropped.movable; normal = dropped.normal; count = dropped.count; mark = dropped.mark; word = dropped.word; needs_tables = dropped.needs_tables },
      record { right = space.right; pages = space.pages; entry = space.entry; sequence = space.sequence; has_pinned = space.has_pinned; structure = space.structure; table = space.table; walks = space.walks; place = space.place; retired = space.retired },
      record { job = own a _ s.job; taken = ap taken_frames (own a (u ∷ taken) s.taken) },
    )

-- ---- each call

as_it_is : (p : ℕ) (S : SpaceValue) (s : CoreState) → ShowsSpace p S s → ShowsSpace p (record S { walks = S.walks }) s
as_it_is p S s h =
    record { right = h.right; pages = h.pages; entry = h.entry; sequence = h.sequence; has_pinned = h.has_pinned; structure = h.structure; table = h.table; walks = h.walks; place = h.place; retired = h.retired }

-- what a drop leads to, at a stage and with the frames of the pages taken
abbrev Leads : (F : FramesValue) (S : SpaceValue) (w : WalkValue) (s : CoreState) (a p : ℕ) → Stage → List ℕ → Type 0
Leads F S w s a p stage taken =
    ShowsFrames (dropped_frames (dropped_at stage taken) F) (run s (drops a p w stage (s.taken a)))
    × ShowsSpace p (counted_in S stage (after_drop stage (record w { taken = taken; stage = stage })).stage S.walks) (run s (drops a p w stage (s.taken a)))
    × ShowsWalk a p (after_drop stage (record w { taken = taken; stage = stage })) (run s (drops a p w stage (s.taken a)))

leads : (F : FramesValue) (S : SpaceValue) (w : WalkValue) (s : CoreState) (a p : ℕ) (stage : Stage) (taken : List ℕ) → FitsStage (record w { taken = taken; stage = stage }) stage → taken_frames (s.taken a) ≡ taken → s.job a ≡ job_at p w stage → ShowsFrames F s → ShowsSpace p S s → Leads F S w s a p stage taken
leads F S w s a p unbegun taken fits is job frames space = (frames, as_it_is p S s space, record { job = job; taken = is })
leads F S w s a p left taken fits is job frames space = (frames, as_it_is p S s space, record { job = job; taken = is })
leads F S w s a p (at entered) taken fits is job frames space = (frames, as_it_is p S s space, record { job = job; taken = is })
leads F S w s a p (at ready) taken fits is job frames space = (frames, as_it_is p S s space, record { job = job; taken = is })
leads F S w s a p (at (reading page path)) taken fits is job frames space = absurd fits
leads F S w s a p (at (read page path e)) taken fits is job frames space = (frames, as_it_is p S s space, record { job = job; taken = is })
leads F S w s a p (at (grabbed page path e)) taken fits is job frames space = (frames, as_it_is p S s space, record { job = job; taken = is })
leads F S w s a p (at (rechecked page e)) taken fits is job frames space = (frames, as_it_is p S s space, record { job = job; taken = is })
leads F S w s a p (at stopped) taken fits is job frames space = (frames, as_it_is p S s space, record { job = job; taken = is })
leads F S w s a p (at over) taken fits is job frames space = (frames, as_it_is p S s space, record { job = job; taken = is })
leads F S w s a p (at (differed f)) taken fits is job frames space =
    let dropped : ShowsFrames (without_references f 1024 F) (core_without f 1024 s) = without_pin F s f frames in (
      record { movable = dropped.movable; normal = dropped.normal; count = dropped.count; mark = dropped.mark; word = dropped.word; needs_tables = dropped.needs_tables },
      record { right = space.right; pages = space.pages; entry = space.entry; sequence = space.sequence; has_pinned = space.has_pinned; structure = space.structure; table = space.table; walks = space.walks; place = space.place; retired = space.retired },
      record { job = own a _ s.job; taken = is },
    )
leads F S w s a p (at refused) taken fits is job frames space =
    subst (λ xs. Leads F S w s a p (at refused) xs) is
    (last_goes F S w s a p (s.taken a) (subst (λ xs. 0 < length xs) (sym is) fits) frames space)
leads F S w s a p (at dropping) taken fits is job frames space =
    subst (λ xs. Leads F S w s a p (at dropping) xs) is
    (first_goes F S w s a p (s.taken a) (subst (λ xs. 0 < length xs) (sym is) fits) frames space)

pub dropping_one : (F F' : FramesValue) (S : SpaceValue) (w w' : WalkValue) → IsWalk w → F' ≡ dropped_frames (dropped_at w.stage w.taken) F → w' ≡ after_drop w.stage w → AreWalkEvents (change F F' S S) w w' (λ s a p. drops a p w w.stage (s.taken a))
dropping_one F F' S w w' is frames walk s a p shown space taken =
    rw frames (rw walk (leads F S w s a p w.stage w.taken is.fits taken.taken taken.job shown space))
