-- A page of a walk: its frame is grabbed, and its entry read again.
use Rattle.std.specs.Prelude.{◌≡◌, ℕ, ◌+◌, zero, suc, Bool, true, false, if◌then◌else◌, ◌&&◌, List, [], ◌∷◌, ◌++◌, length, Some}
use Rattle.std.proofs.Common.{refl, sym, ap, subst, ◌∙◌, arith}
use Rattle.std.proofs.lemmas.List.{length-append, map-append}
use Rattle.std.proofs.lemmas.Bool.Decides.{nat_tests}
use Rattle.gup_base.specs.declared.entry.Entry.{Entry}
use Rattle.gup_frames.specs.Frames.{FramesValue}
use Rattle.gup_space.specs.Space.{SpaceValue, tables_in}
use Rattle.gup_spec_tables.specs.Paths.{entry_at, leads_still}
use Rattle.gup_spec_events.specs.State.{Taken, WalkStep, read, grabbed, rechecked, differed}
use Rattle.gup_spec_events.specs.Event.{taken_frames, happens, recheck_above}
use Rattle.gup_fast.specs.Walks.{WalkValue, Stage, AreWalkEvents, at, walks_after, at_stage, grabbed_frames, step_after_grab, grabs, is_same, after_recheck, rechecks, last_of, IsWalk, FitsStage, IsAhead}
use Rattle.gup_fast.proofs.Begins.{change, own}

-- where a walk that runs goes on, as many run
stays : (stage : Stage) (step next : WalkStep) (walks : ℕ) → stage ≡ at step → walks_after stage (at next) walks ≡ walks
stays stage step next walks is = rw is refl

-- a frame that has a reference is grabbed, and one that has none is missed
grabs_or_misses : (F : FramesValue) (S : SpaceValue) (w : WalkValue) (page : ℕ) (path : List ℕ) (e : Entry) (count : ℕ) → w.stage ≡ at (read page path e) → AreWalkEvents (change F (grabbed_frames e.frame count F) S S) w (at_stage (at (step_after_grab page path e count)) w) (λ s a p. grabs a p page count path e w)
grabs_or_misses F S w page path e zero is s a p frames space walk = (
  record { movable = frames.movable; normal = frames.normal; count = frames.count; mark = frames.mark; word = frames.word; needs_tables = frames.needs_tables },
  record { right = space.right; pages = space.pages; entry = space.entry; sequence = space.sequence; has_pinned = space.has_pinned; structure = space.structure; table = space.table; walks = space.walks ∙ sym (stays w.stage (read page path e) _ S.walks is); place = space.place; retired = space.retired },
  record { job = own a _ s.job; taken = walk.taken },
)
grabs_or_misses F S w page path e (suc n) is s a p frames space walk = (
  record { movable = frames.movable; normal = frames.normal; count = λ g. grind (arith, nat_tests, frames.count g, frames.count e.frame); mark = frames.mark; word = frames.word; needs_tables = frames.needs_tables },
  record { right = space.right; pages = space.pages; entry = space.entry; sequence = space.sequence; has_pinned = space.has_pinned; structure = space.structure; table = space.table; walks = space.walks ∙ sym (stays w.stage (read page path e) _ S.walks is); place = space.place; retired = space.retired },
  record { job = own a _ s.job; taken = walk.taken },
)

pub grabbing : (F F' : FramesValue) (S : SpaceValue) (w w' : WalkValue) (page : ℕ) (path : List ℕ) (e : Entry) (count : ℕ) → w.stage ≡ at (read page path e) → F' ≡ grabbed_frames e.frame count F → w' ≡ at_stage (at (step_after_grab page path e count)) w → AreWalkEvents (change F F' S S) w w' (λ s a p. grabs a p page count path e w)
grabbing F F' S w w' page path e count is frames walk =
    rw frames (rw walk (grabs_or_misses F S w page path e count is))

-- the last page taken is the one that was put at the end
ends_with : (taken : List ℕ) (f : ℕ) → last_of (taken ++ f ∷ []) ≡ Some f
ends_with [] f = refl
ends_with (g ∷ []) f = refl
ends_with (g ∷ h ∷ taken) f = ends_with (h ∷ taken) f

-- the page whose entry is the same is the last one taken
pub takes_page : (w : WalkValue) (page : ℕ) (path : List ℕ) (e : Entry) (taken : List ℕ) → IsWalk w → w.stage ≡ at (grabbed page path e) → taken ≡ w.taken ++ e.frame ∷ [] → IsWalk (record w { taken = taken; stage = at (rechecked page e) })
takes_page w page path e taken is stage more =
    let ahead : IsAhead w page = subst (FitsStage w) stage is.fits in
    let len : length taken ≡ length w.taken + 1 = ap (λ xs. length xs) more ∙ length-append w.taken (e.frame ∷ []) in
    record {
      some = is.some;
      most = is.most;
      range = is.range;
      few = omega (arith, len, ahead.more);
      fits = record { here = omega (arith, len, ahead.here); frame = ap last_of more ∙ ends_with w.taken e.frame };
    }

-- the word above and the entry are the same, or one is another
same_or_other : (F : FramesValue) (S : SpaceValue) (w : WalkValue) (page : ℕ) (path : List ℕ) (e : Entry) (leads same : Bool) → w.stage ≡ at (grabbed page path e)
    → AreWalkEvents (change F F S S) w (if leads && same then record w { taken = w.taken ++ e.frame ∷ []; stage = at (rechecked page e) } else at_stage (at (differed e.frame)) w) (λ s a p. rechecks a p page path e leads same w)
same_or_other F S w page path e true true is s a p frames space walk = (
  record { movable = frames.movable; normal = frames.normal; count = frames.count; mark = frames.mark; word = frames.word; needs_tables = frames.needs_tables },
  record { right = space.right; pages = space.pages; entry = space.entry; sequence = space.sequence; has_pinned = space.has_pinned; structure = space.structure; table = space.table; walks = space.walks ∙ sym (stays w.stage (grabbed page path e) _ S.walks is); place = space.place; retired = space.retired },
  record { job = own a _ (happens s (recheck_above a p w.want.write w.want.long w.sequence page path e true)).job; taken = ap taken_frames (own a _ s.taken) ∙ map-append (λ (t : Taken). t.frame) (s.taken a) _ ∙ ap (λ xs. xs ++ e.frame ∷ []) walk.taken },
)
same_or_other F S w page path e true false is s a p frames space walk = (
  record { movable = frames.movable; normal = frames.normal; count = frames.count; mark = frames.mark; word = frames.word; needs_tables = frames.needs_tables },
  record { right = space.right; pages = space.pages; entry = space.entry; sequence = space.sequence; has_pinned = space.has_pinned; structure = space.structure; table = space.table; walks = space.walks ∙ sym (stays w.stage (grabbed page path e) _ S.walks is); place = space.place; retired = space.retired },
  record { job = own a _ (happens s (recheck_above a p w.want.write w.want.long w.sequence page path e true)).job; taken = walk.taken },
)
same_or_other F S w page path e false same is s a p frames space walk = (
  record { movable = frames.movable; normal = frames.normal; count = frames.count; mark = frames.mark; word = frames.word; needs_tables = frames.needs_tables },
  record { right = space.right; pages = space.pages; entry = space.entry; sequence = space.sequence; has_pinned = space.has_pinned; structure = space.structure; table = space.table; walks = space.walks ∙ sym (stays w.stage (grabbed page path e) _ S.walks is); place = space.place; retired = space.retired },
  record { job = own a _ s.job; taken = walk.taken },
)

pub rechecking : (F : FramesValue) (S : SpaceValue) (w w' : WalkValue) (page : ℕ) (path : List ℕ) (e : Entry) → w.stage ≡ at (grabbed page path e) → w' ≡ after_recheck (tables_in S) page path e w
    → AreWalkEvents (change F F S S) w w' (λ s a p. rechecks a p page path e (leads_still (tables_in S) path page) (is_same e (entry_at (tables_in S) path page)) w)
rechecking F S w w' page path e is walk =
    rw walk (same_or_other F S w page path e (leads_still (tables_in S) path page) (is_same e (entry_at (tables_in S) path page)) is)
