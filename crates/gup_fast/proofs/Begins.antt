-- The beginning of a walk.
use Rattle.std.specs.Prelude.{◌≡◌, ℕ, ◌+◌, true}
use Rattle.std.proofs.Common.{refl, sym, ap, subst, ◌∙◌, arith}
use Rattle.std.proofs.lemmas.Bool.Decides.{nat_tests}
use Rattle.gup_plain.specs.Put.{put}
use Rattle.gup_frames.specs.Frames.{FramesValue}
use Rattle.gup_space.specs.Shows.{Change, ShowsSpace}
use Rattle.gup_space.specs.Space.{SpaceValue}
use Rattle.gup_spec_events.specs.State.{CoreState, entered}
use Rattle.gup_spec_events.specs.Event.{run}
use Rattle.gup_fast.specs.Walks.{WalkValue, ShowsWalk, AreWalkEvents, IsWalk, FitsStage, unbegun, at, at_stage, flags, walks_after}

abbrev pub change : (F F' : FramesValue) (S S' : SpaceValue) → Change
change F F' S S' = record { old_frames = F; new_frames = F'; old_space = S; new_space = S' }

-- what an actor gets is what it has
pub own : {X : Type 0} (a : ℕ) (x : X) (f : ℕ → X) → put a x f a ≡ x
own a x f = grind (arith, nat_tests)

-- a walk that has not begun and has read no sequence enters; the process has pinned, and one walk more runs in it
pub begins : (F : FramesValue) (S S' : SpaceValue) (w w' : WalkValue) → w.stage ≡ unbegun → w.sequence ≡ 0 → w' ≡ at_stage (at entered) w → S' ≡ record S { has_pinned = true } → AreWalkEvents (change F F S S') w w' (λ s a p. flags a p w)
begins F S S' w w' fresh none walk space s a p old_frames old_space old_walk =
    let after : CoreState = run s (flags a p w) in
    let counted : walks_after w.stage w'.stage S.walks ≡ S.walks + 1 = rw walk (rw fresh refl) in (
      record { movable = old_frames.movable; normal = old_frames.normal; count = old_frames.count; mark = old_frames.mark; word = old_frames.word; needs_tables = old_frames.needs_tables },
      subst (λ (n : ℕ). ShowsSpace p (record S' { walks = n }) after) (sym counted)
          (subst (λ (x : SpaceValue). ShowsSpace p (record x { walks = S.walks + 1 }) after) (sym space)
          (record { right = old_space.right; pages = old_space.pages; entry = old_space.entry; sequence = old_space.sequence; has_pinned = own p true s.has_pinned; structure = old_space.structure; table = old_space.table; walks = own p (s.walks p + 1) s.walks ∙ ap (λ (n : ℕ). n + 1) old_space.walks; place = old_space.place; retired = old_space.retired })),
      subst (λ (x : WalkValue). ShowsWalk a p x after) (sym walk)
          (record { job = rw none (own a _ s.job); taken = old_walk.taken }),
    )

-- a walk that has not begun has read no sequence
pub none_read : (w : WalkValue) → IsWalk w → w.stage ≡ unbegun → w.sequence ≡ 0
none_read w is fresh = (subst (FitsStage w) fresh is.fits).1
