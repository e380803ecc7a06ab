-- The object that a page names, as the plain state shows it, and functions that are equal at each point.
use Rattle.std.proofs.Common.{◌≡◌, ℕ, refl}
use Rattle.std.specs.Prelude.{Option, Some, None, IsSome}
use Rattle.gup_base.specs.declared.entry.Rights.{Rights}
use Rattle.gup_base.specs.declared.entry.Rights.TheVariants.{R, RW}
use Rattle.gup_plain.specs.State.{named_or_zero}

-- equal at each number is equal
pub by_points : {X : Type 0} {f g : ℕ → X} → ((k : ℕ) → f k ≡ g k) → f ≡ g
by_points h = λ i k. h k i

pub by_pages : {X : Type 0} {f g : ℕ → ℕ → X} → ((p k : ℕ) → f p k ≡ g p k) → f ≡ g
by_pages h = λ i p k. h p k i

-- a mapped page shows its object
pub named_here : (r : Option Rights) (o : ℕ) → IsSome r → named_or_zero r o ≡ o
named_here None o mapped = absurd (cc)
named_here (Some r) o mapped = refl

-- rights that are not to read alone are to write
pub is_to_write : (r : Option Rights) → IsSome r → (r ≡ Some R → ⊥) → r ≡ Some RW
is_to_write None mapped other = absurd (cc)
is_to_write (Some R) mapped other = absurd (other refl)
is_to_write (Some RW) mapped other = refl

pub named_twice : (r : Option Rights) (o : ℕ) → named_or_zero r (named_or_zero r o) ≡ named_or_zero r o
named_twice None o = refl
named_twice (Some r) o = refl
