-- What a step of a fork makes of frames, the parent and the child is what its events say.
use Rattle.std.proofs.Common.{◌≡◌, ℕ, zero, suc, ◌+◌, ◌<◌, false, cond, List, [], ◌∷◌, Option, Some, None, refl, ap, sym, ◌∙◌, arith}
use Rattle.std.specs.Prelude.{◌==◌}
use Rattle.std.proofs.lemmas.Bool.Decides.{nat_tests}
use Rattle.gup_base.specs.declared.entry.Entry.{Entry}
use Rattle.gup_base.specs.declared.entry.Zone.{Zone}
use Rattle.gup_base.specs.declared.entry.Zone.TheVariants.{Movable, Normal}
use Rattle.gup_plain.specs.Put.{put}
use Rattle.gup_frames.specs.Frames.{FramesValue, free_in, free_of, with_mark}
use Rattle.gup_space.specs.Space.{SpaceValue}
use Rattle.gup_spec_events.specs.Event.{begin_fork, end_fork}
use Rattle.gup_fork.specs.Forks.{ForkChange, with_structure, with_table, AreForkEvents, with_maps_of, shares, shared, with_shared}
use Rattle.gup_fork.proofs.ForkAfter.{beginning, lowering, unmarking, giving, ending}
use Rattle.gup_fork.proofs.ForkLemmas.{are_fork_events}

abbrev pub change : (F F' : FramesValue) (P P' C C' : SpaceValue) → ForkChange
change F F' P P' C C' =
    record { old_frames = F; new_frames = F'; old_parent = P; new_parent = P'; old_child = C; new_child = C' }

pub begun : (F : FramesValue) (P P' C C' : SpaceValue) (a : ℕ) → P' ≡ record P { sequence = P.sequence + 1 } → C' ≡ with_maps_of P C → AreForkEvents (with_structure (Some a) (change F F P P' C C')) (λ p c. begin_fork a p c ∷ [])
begun F P P' C C' a parent child =
    are_fork_events (with_structure (Some a) (change F F P P' C C')) a (λ p c. begin_fork a p c ∷ [])
    (λ p c. record {
      own = (beginning, tt);
      frames = refl;
      parent = ap (λ (x : SpaceValue). record x { structure = Some a }) parent;
      child = child;
    })

pub ended : (F : FramesValue) (P P' C : SpaceValue) (a : ℕ) (done : List ℕ) → P' ≡ record P { sequence = P.sequence + 1 } → AreForkEvents (with_structure None (change F F P P' C C)) (λ p c. end_fork a p c done ∷ [])
ended F P P' C a done parent =
    are_fork_events (with_structure None (change F F P P' C C)) a (λ p c. end_fork a p c done ∷ [])
    (λ p c. record {
      own = (ending done, tt);
      frames = refl;
      parent = ap (λ (x : SpaceValue). record x { structure = None }) parent;
      child = refl;
    })

pub page_shared : (F F' : FramesValue) (P P' C C' : SpaceValue) (a : ℕ) (done : List ℕ) (page : ℕ) (e : Entry) → F' ≡ shared e.frame F → P' ≡ with_shared page e.frame P → C' ≡ with_shared page e.frame C → AreForkEvents (with_table None (change F F' P P' C C')) (λ p c. shares a p c done page e)
page_shared F F' P P' C C' a done page e frames parent child =
    are_fork_events (with_table None (change F F' P P' C C')) a (λ p c. shares a p c done page e)
    (λ p c. record {
      own = (lowering done page e.frame e.writable, (unmarking done page e.frame false, (giving done page e.frame false, tt)));
      frames = frames;
      parent = ap (λ (x : SpaceValue). record x { table = None }) parent;
      child = child;
    })

-- ---- the frame of a shared page

-- a frame with a reference gets one more, so as many are free as before
counted_still : (count : ℕ → ℕ) (f g : ℕ) → (count f ≡ 0 → ⊥) → ◌≡◌ {A = ℕ} (cond (put f (count f + 1) count g == 0) 1 0) (cond (count g == 0) 1 0)
counted_still count f g held = grind (arith, nat_tests)

free_in_shared : (F : FramesValue) (f first n : ℕ) → (F.count f ≡ 0 → ⊥) → free_in (shared f F) first n ≡ free_in F first n
free_in_shared F f first zero held = refl
free_in_shared F f first (suc n) held =
    rw (counted_still F.count f first held, free_in_shared F f (first + 1) n held) refl

pub free_shared : (F F' : FramesValue) (f : ℕ) → F' ≡ shared f F → (F.count f ≡ 0 → ⊥) → (zone : Zone) → free_of F' zone ≡ free_of F zone
free_shared F F' f frames held Movable = ap (λ (x : FramesValue). free_of x Movable) frames ∙ free_in_shared F f 0 F.movable held
free_shared F F' f frames held Normal = ap (λ (x : FramesValue). free_of x Normal) frames ∙ free_in_shared F f F.movable F.normal held

pub some_held : (F F' : FramesValue) (f : ℕ) → F' ≡ with_mark f false F → (F.count f ≡ 0 → ⊥) → 0 < F'.count f
some_held F F' f marked held = let same : F'.count f ≡ F.count f = ap (λ (x : FramesValue). x.count f) marked in omega arith

pub few_held : (F F' : FramesValue) (f most : ℕ) → F' ≡ with_mark f false F → F.count f < most → F'.count f < most
few_held F F' f most marked few = let same : F'.count f ≡ F.count f = ap (λ (x : FramesValue). x.count f) marked in omega arith

pub same_frame : (entry : Option Entry) (e d : Entry) → entry ≡ Some e → entry ≡ Some d → d.frame ≡ e.frame
same_frame entry e d one other = ap (λ (x : Entry). x.frame) (some_same e d (sym one ∙ other))
  where
    some_same : (e d : Entry) → Some e ≡ Some d → d ≡ e
    some_same e d same = cc
