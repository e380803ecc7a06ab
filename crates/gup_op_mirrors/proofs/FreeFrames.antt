-- A frame is free of the zones of a pin where one is counted as free there.
use Rattle.std.proofs.Common.{◌≡◌, ℕ, ◌+◌, ◌==◌, ◌&&◌, ◌||◌, not, nat_lt, Bool, true, false, cond, Some, is_some, refl, sym, ap, ◌∙◌, zero, suc, arith}
use Rattle.std.proofs.Math.Bool.{or-false}
use Rattle.std.proofs.lemmas.Bool.Decides.{nat_tests}
use Rattle.gup_base.specs.declared.entry.Allowed.TheVariants.{Any, Only}
use Rattle.gup_base.specs.declared.entry.Want.{Want}
use Rattle.gup_base.specs.declared.entry.Zone.TheVariants.{Movable, Normal}
use Rattle.gup_plain.specs.Put.{lowest}
use Rattle.gup_frames.specs.Frames.{FramesValue, free_from, free_frame, free_in, free_of}
use Rattle.gup_spec_turns.specs.CoreTurn.{zones_of}

-- one is free of n frames where they count so
one_free : (F : FramesValue) (first n : ℕ) → is_some (free_from F first n) ≡ nat_lt 0 (free_in F first n)
one_free F first zero = refl
one_free F first (suc n) = go (F.count first == 0) (one_free F (first + 1) n)
  where
    go : (free : Bool) → is_some (free_from F (first + 1) n) ≡ nat_lt 0 (free_in F (first + 1) n) → is_some (cond free (Some first) (free_from F (first + 1) n)) ≡ nat_lt 0 ((cond free 1 0) + free_in F (first + 1) n)
    go true later = grind (arith, nat_tests)
    go false later = let same : 0 + free_in F (first + 1) n ≡ free_in F (first + 1) n = omega arith in later ∙ ap (nat_lt 0) (sym same)

-- those of two rows of frames are those of the first and of the second
both_rows : (first n m : ℕ) (test : ℕ → Bool) → is_some (lowest first (n + m) test) ≡ (is_some (lowest first n test) || is_some (lowest (first + n) m test))
both_rows first zero m test =
    let none : 0 + m ≡ m = omega arith in
    let here : first + 0 ≡ first = omega arith in
    rw (none, here) refl
both_rows first (suc n) m test =
    let more : suc n + m ≡ suc (n + m) = omega arith in
    let further : first + suc n ≡ (first + 1) + n = omega arith in
    rw (more, further) (go (test first) (both_rows (first + 1) n m test))
  where
    go : (passes : Bool) → is_some (lowest (first + 1) (n + m) test) ≡ (is_some (lowest (first + 1) n test) || is_some (lowest ((first + 1) + n) m test)) → is_some (cond passes (Some first) (lowest (first + 1) (n + m) test)) ≡ (is_some (cond passes (Some first) (lowest (first + 1) n test)) || is_some (lowest ((first + 1) + n) m test))
    go true later = refl
    go false later = later

pub free_is : (F : FramesValue) (want : Want) → is_some (free_frame F (zones_of want)) ≡ (nat_lt 0 (free_of F Normal) || (not want.long && nat_lt 0 (free_of F Movable)))
free_is F want = go want.long
  where
    swapped : (x y : Bool) → (x || y) ≡ (y || x)
    swapped true true = refl
    swapped true false = refl
    swapped false true = refl
    swapped false false = refl

    go : (long : Bool) → is_some (free_frame F (cond long (Only Normal) Any)) ≡ (nat_lt 0 (free_of F Normal) || (not long && nat_lt 0 (free_of F Movable)))
    go true = one_free F F.movable F.normal ∙ sym (or-false (nat_lt 0 (free_of F Normal)))
    go false =
        let start : 0 + F.movable ≡ F.movable = omega arith in
        both_rows 0 F.movable F.normal (λ f. F.count f == 0)
        ∙ ap (λ (k : ℕ). is_some (free_from F 0 F.movable) || is_some (free_from F k F.normal)) start
        ∙ ap (λ b. b || is_some (free_from F F.movable F.normal)) (one_free F 0 F.movable)
        ∙ ap (λ b. nat_lt 0 (free_of F Movable) || b) (one_free F F.movable F.normal)
        ∙ swapped (nat_lt 0 (free_of F Movable)) (nat_lt 0 (free_of F Normal))
