-- Functions of numbers that are changed at one place, the free frame, and the one that is found for a page.
use Rattle.std.proofs.Common.{◌≡◌, ℕ, zero, suc, ◌+◌, ◌≤◌, ◌==◌, Bool, true, false, cond, if◌then◌else◌, Some, None, refl, sym, ap, ◌∙◌, arith}
use Rattle.std.proofs.lemmas.Bool.{eqb-true}
use Rattle.std.proofs.lemmas.Bool.Decides.{nat_tests}
use Rattle.gup_base.specs.declared.entry.Allowed.{Allowed}
use Rattle.gup_base.specs.declared.entry.Allowed.TheVariants.{Any, Only}
use Rattle.gup_base.specs.declared.entry.Zone.TheVariants.{Movable, Normal}
use Rattle.gup_plain.specs.Put.{put, lowest}
use Rattle.gup_frames.specs.Frames.{FramesValue, free_frame, frames_in}
use Rattle.gup_space.specs.Found.{found_for}
use Rattle.gup_space.specs.Space.{SpaceValue, lacking}

pub put_here : {X : Type 0} (k : ℕ) (x : X) (f : ℕ → X) → put k x f k ≡ x
put_here k x f = grind (arith, nat_tests)

pub put_away : {X : Type 0} (k j : ℕ) (x : X) (f : ℕ → X) → (j ≡ k → ⊥) → put k x f j ≡ f j
put_away k j x f apart = grind (arith, nat_tests)

-- the lowest number that passes a test passes it
pub lowest_passes : (first n : ℕ) (test : ℕ → Bool) (f : ℕ) → lowest first n test ≡ Some f → test f ≡ true
lowest_passes first zero test f is = absurd (cc)
lowest_passes first (suc n) test f is = here_or (test first) refl is (lowest_passes (first + 1) n test f)
  where
    here_or : (passes : Bool) → test first ≡ passes → cond passes (Some first) (lowest (first + 1) n test) ≡ Some f → (lowest (first + 1) n test ≡ Some f → test f ≡ true) → test f ≡ true
    here_or true passed is later = let e : first ≡ f = cc in ap test (sym e) ∙ passed
    here_or false failed is later = later is

-- a frame that may be taken has no references
pub free_is_free : (frames : FramesValue) (allowed : Allowed) (f : ℕ) → free_frame frames allowed ≡ Some f → frames.count f ≡ 0
free_is_free frames Any f is = eqb-true (frames.count f) 0 (lowest_passes 0 (frames_in frames) (λ g. frames.count g == 0) f is)
free_is_free frames (Only Movable) f is = eqb-true (frames.count f) 0 (lowest_passes 0 frames.movable (λ g. frames.count g == 0) f is)
free_is_free frames (Only Normal) f is = eqb-true (frames.count f) 0 (lowest_passes frames.movable frames.normal (λ g. frames.count g == 0) f is)

pub free_is_other : (frames : FramesValue) (allowed : Allowed) (f g : ℕ) → free_frame frames allowed ≡ Some f → (frames.count g ≡ 0 → ⊥) → g ≡ f → ⊥
free_is_other frames allowed f g is held same = held (ap frames.count same ∙ free_is_free frames allowed f is)

-- what is found for a page that lacks no page table is the free frame
pub found_free : (frames : FramesValue) (space : SpaceValue) (page : ℕ) (allowed : Allowed) → lacking space page ≡ 0 → found_for frames space page allowed ≡ free_frame frames allowed
found_free frames space page allowed none = ap (λ n. if n == 0 then free_frame frames allowed else None) none

-- it lacks none where not even one is missing
pub none_at : {missing lacks : ℕ} → missing ≡ lacks → missing ≤ 0 → lacks ≡ 0
none_at {missing} {lacks} is none = omega arith
