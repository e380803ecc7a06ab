-- What a function of numbers is after a change at one place, and what a row is.
use Rattle.std.proofs.Common.{◌≡◌, ℕ, ◌<◌, ◌==◌, Bool, true, false, if◌then◌else◌, List, Option, Some, None, length, get_or, slice_set, refl, sym, ◌∙◌, ap, arith}
use Rattle.std.proofs.Math.Path.{fun_ext}
use Rattle.std.proofs.lemmas.Bool.Decides.{nat_tests}
use Rattle.gup_plain.specs.Put.{put, put2, within}
use Rattle.gup_exec_parts.proofs.TableLemmas.{place_put, place_is}
use Rattle.gup_exec_rows.specs.Row.{or_blank, standing, at}

chosen : {X Y : Type 0} (g : X → Y) (b : Bool) (x x' : X) (y y' : Y) → (b ≡ true → g x ≡ y) → (b ≡ false → g x' ≡ y') → g (if b then x else x') ≡ (if b then y else y')
chosen g true x x' y y' whole part = whole refl
chosen g false x x' y y' whole part = part refl

-- a function after a change at one place
pub through_put : {X Y : Type 0} (g : X → Y) (p : ℕ) (x : X) (f : ℕ → X) (y : Y) → g x ≡ y → (λ q. g (put p x f q)) ≡ put p y (λ q. g (f q))
through_put g p x f y is = fun_ext (λ q. chosen g (q == p) x (f q) y (g (f q)) (λ _. is) (λ _. refl))

same-number : (q p : ℕ) → (q == p) ≡ true → q ≡ p
same-number q p h = grind (arith, nat_tests)

-- the same where only one value of the place changes
pub through_put2 : {X Y : Type 0} (g : X → ℕ → Y) (p : ℕ) (x : X) (f : ℕ → X) (l : ℕ) (w : Y) → g x ≡ put l w (g (f p)) → (λ q. g (put p x f q)) ≡ put2 p l w (λ q. g (f q))
through_put2 g p x f l w is =
    fun_ext
    (λ q. chosen g (q == p) x (f q) (put l w (g (f q))) (g (f q)) (λ here. is ∙ ap (λ n. put l w (g (f n))) (sym (same-number q p here))) (λ _. refl))

-- a row after a change of one of its places
pub at_put : {V : Type 0} (blank : V) (items : List (Option V)) (k : ℕ) (x : V) → k < length items → at (blank, slice_set items k (Some x)) ≡ put k x (at (blank, items))
unfolding at
at_put blank items k x within =
    ap (λ (f : ℕ → Option _). λ q. or_blank blank (f q)) (place_put (λ o. o) None items k k (Some x) refl within)
    ∙ through_put (or_blank blank) k (Some x) (standing items) x refl

pub at_is : {V : Type 0} (blank : V) (items : List (Option V)) (k : ℕ) (o : Option V) → k < length items → o ≡ get_or items k o → at (blank, items) k ≡ or_blank blank o
unfolding at
at_is blank items k o within is = ap (or_blank blank) (place_is (λ o. o) None items k k o refl within is)

pub at_none : {V : Type 0} (blank : V) (items : List (Option V)) → standing items ≡ (λ _. None) → at (blank, items) ≡ (λ _. blank)
unfolding at
at_none blank items none = ap (λ (f : ℕ → Option _). λ q. or_blank blank (f q)) none
