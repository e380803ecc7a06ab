-- Ranges.
use Rattle.std.proofs.Common.{◌≡◌, ℕ, arith}
use Rattle.std.proofs.Math.Path.{fun_ext}
use Rattle.std.proofs.lemmas.Bool.Decides.{nat_tests}
use Rattle.gup_plain.specs.Put.{put, spread}

-- a range of one
pub spread_one : {X : Type 0} (k : ℕ) (x : X) (f : ℕ → X) → spread k 1 (λ _. x) f ≡ put k x f
spread_one k x f = fun_ext (λ q. grind (arith, nat_tests))
