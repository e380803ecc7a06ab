-- A child of which one page is shared, and no other has an entry: for the tests.
use Rattle.std.proofs.Common.{◌≡◌, ℕ, None, IsSome, subst, sym, arith}
use Rattle.std.proofs.lemmas.Bool.Decides.{nat_tests}
use Rattle.gup_frames.specs.Frames.{FramesValue}
use Rattle.gup_space.specs.Space.{SpaceValue, AreMapped}
use Rattle.gup_space.specs.Counted.{AreCounted}
use Rattle.gup_fork.specs.Forks.{shared, with_shared}

pub is_counted : (C C' : SpaceValue) (F F' : FramesValue) (page f : ℕ) → C' ≡ with_shared page f C → F' ≡ shared f F → ((g : ℕ) → C.entry g ≡ None) → AreCounted F' C'
is_counted C C' F F' page f child frames none =
    subst (λ (x : SpaceValue). AreCounted F' x) (sym child)
    (subst (λ (x : FramesValue). AreCounted x (with_shared page f C)) (sym frames) (λ g e is zero. grind (arith, nat_tests, none g, is, zero)))

pub is_mapped : (C C' : SpaceValue) (page f : ℕ) → C' ≡ with_shared page f C → ((g : ℕ) → C.entry g ≡ None) → IsSome (C.right page) → AreMapped C'
is_mapped C C' page f child none mapped =
    subst (λ (x : SpaceValue). AreMapped x) (sym child) (λ g e is. grind (arith, nat_tests, none g, is, mapped))
