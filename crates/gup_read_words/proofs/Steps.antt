-- What is known of the steps of a chain that gave something.
use Rattle.std.proofs.Common.{◌≡◌, Bool, true, false, cond, Option, Some, None, refl}
use Rattle.gup_read_words.specs.Text.{◌>>=◌}

abbrev given : {A : Type 0} → A → Option A
given x = Some x

-- the value of a step, and what comes of it
pub step_taken : {A B : Type 0} (o : Option A) (f : A → Option B) (y : B) → (o >>= f) ≡ Some y → (x : A) × (o ≡ Some x) × (f x ≡ Some y)
step_taken (Some x) f y e = (x, refl, e)
step_taken None f y e = absurd cc

-- a test that was passed
pub test_passed : {A : Type 0} (b : Bool) (x y : A) → cond b (Some x) None ≡ Some y → (b ≡ true) × (x ≡ y)
test_passed true x y e = (refl, cc)
test_passed false x y e = absurd cc

-- a test that was passed, before further steps
pub way_taken : {A : Type 0} (b : Bool) (o : Option A) (y : A) → cond b o None ≡ Some y → (b ≡ true) × (o ≡ Some y)
way_taken true o y e = (refl, e)
way_taken false o y e = absurd cc

pub same_given : {A : Type 0} (x y : A) → given x ≡ given y → x ≡ y
same_given x y e = cc
