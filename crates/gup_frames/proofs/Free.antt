-- Which frames are free, and how many.
use Rattle.std.proofs.Common.{◌≡◌, ◌≢◌, ℕ, zero, suc, ◌+◌, ◌<◌, ◌≤◌, eqb, ltb, Bool, true, false, not, cond, Option, Some, None, IfSome, refl, ap, sym, ◌∙◌, arith}
use Rattle.std.proofs.lemmas.Bool.{eqb-true}
use Rattle.std.proofs.lemmas.Bool.Decides.{nat_tests}
use Rattle.gup_base.specs.declared.entry.Allowed.{Allowed}
use Rattle.gup_base.specs.declared.entry.Allowed.TheVariants.{Any, Only}
use Rattle.gup_base.specs.declared.entry.Zone.TheVariants.{Movable, Normal}
use Rattle.gup_plain.specs.Put.{within}
use Rattle.gup_bits.proofs.Lowest.{lowest_some}
use Rattle.gup_frames.specs.Frames.{FramesValue, frames_in, free_in, free_frame}

-- the free frame that is found is there, and has no references
found_free : (s : FramesValue) (allowed : Allowed) (f : ℕ) → free_frame s allowed ≡ Some f → (f < frames_in s) × (s.count f ≡ 0)
found_free s Any f is =
    let h = lowest_some 0 (frames_in s) (λ g. eqb (s.count g) 0) f is in
    (omega (arith, h.1), eqb-true (s.count f) 0 h.2)
found_free s (Only Movable) f is =
    let h = lowest_some 0 s.movable (λ g. eqb (s.count g) 0) f is in
    (omega (arith, h.1), eqb-true (s.count f) 0 h.2)
found_free s (Only Normal) f is =
    let h = lowest_some s.movable s.normal (λ g. eqb (s.count g) 0) f is in
    (omega (arith, h.1), eqb-true (s.count f) 0 h.2)

pub found_there : (s : FramesValue) (allowed : Allowed) (found : Option ℕ) → found ≡ free_frame s allowed → IfSome found (λ f. f < frames_in s)
found_there s allowed None is = tt
found_there s allowed (Some f) is = (found_free s allowed f (sym is)).0

pub found_count : (s : FramesValue) (allowed : Allowed) (found : Option ℕ) → found ≡ free_frame s allowed → IfSome found (λ f. s.count f ≡ 0)
found_count s allowed None is = tt
found_count s allowed (Some f) is = (found_free s allowed f (sym is)).1

-- ---- how many are free

-- all are free
pub free_in-all : (s : FramesValue) (first n : ℕ) → ((j : ℕ) → s.count j ≡ 0) → free_in s first n ≡ n
free_in-all s first zero all = refl
free_in-all s first (suc n) all =
    ap (λ c. cond (eqb c 0) 1 0 + free_in s (first + 1) n) (all first)
    ∙ ap (λ m. 1 + m) (free_in-all s (first + 1) n all)
    ∙ omega arith

-- a frame is freed, which counts where it is one of these
free_step : (first n f a b c d : ℕ) → (first ≡ f → (a ≡ 1) × (b ≡ 0)) → (first ≢ f → a ≡ b) → c ≡ d + cond (within (first + 1) n f) 1 0 → a + c ≡ b + d + cond (within first (suc n) f) 1 0
free_step first n f a b c d here away is = grind (arith, nat_tests)

pub free_in-freed : (s t : FramesValue) (f first n : ℕ) → ((j : ℕ) → j ≢ f → t.count j ≡ s.count j) → 0 < s.count f → t.count f ≡ 0 → free_in t first n ≡ free_in s first n + cond (within first n f) 1 0
free_in-freed s t f first zero others held freed =
    let none : within first 0 f ≡ false = grind (arith, nat_tests) in rw none refl
free_in-freed s t f first (suc n) others held freed =
    let a = cond (eqb (t.count first) 0) 1 0 in
    let b = cond (eqb (s.count first) 0) 1 0 in
    free_step first n f a b (free_in t (first + 1) n) (free_in s (first + 1) n)
    (λ e.
    let zero_count : t.count first ≡ 0 = rw e freed in
    let some_count : 0 < s.count first = rw e held in
    (grind (arith, nat_tests), grind (arith, nat_tests)))
    (λ ne. ap (λ c. cond (eqb c 0) 1 0) (others first ne))
    (free_in-freed s t f (first + 1) n others held freed)

-- no more than there are
pub free_in-le : (s : FramesValue) (first n : ℕ) → free_in s first n ≤ n
free_in-le s first zero = omega arith
free_in-le s first (suc n) = let more : free_in s (first + 1) n ≤ n = free_in-le s (first + 1) n in free_in-le_step (eqb (s.count first) 0) (free_in s (first + 1) n) n more
  where
    free_in-le_step : (b : Bool) (k n : ℕ) → k ≤ n → cond b 1 0 + k ≤ suc n
    free_in-le_step true k n le = omega arith
    free_in-le_step false k n le = omega arith

-- in each zone
pub free_of-freed : (s t : FramesValue) (f m n : ℕ) → f < m + n → ((j : ℕ) → j ≢ f → t.count j ≡ s.count j) → 0 < s.count f → t.count f ≡ 0 → (free_in t 0 m ≡ free_in s 0 m + cond (ltb f m) 1 0) × (free_in t m n ≡ free_in s m n + cond (not (ltb f m)) 1 0)
free_of-freed s t f m n inside others held freed =
    let low : within 0 m f ≡ ltb f m = grind (arith, nat_tests) in
    let high : within m n f ≡ not (ltb f m) = grind (arith, nat_tests) in (
      free_in-freed s t f 0 m others held freed ∙ ap (λ b. free_in s 0 m + cond b 1 0) low,
      free_in-freed s t f m n others held freed ∙ ap (λ b. free_in s m n + cond b 1 0) high,
    )
