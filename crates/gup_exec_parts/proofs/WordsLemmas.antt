-- Words as a function.
use Rattle.std.proofs.Common.{◌≡◌, ℕ, ◌<◌, arith}
use Rattle.std.proofs.Math.Path.{fun_ext}
use Rattle.std.proofs.lemmas.Bool.Decides.{nat_tests}
use Rattle.std.proofs.lemmas.List.{get_or-replicate}
use Rattle.gup_exec_parts.specs.Words.{word_of, zeros}

at-below : (w : ℕ) → w < 512 → word_of zeros w ≡ 0
unfolding zeros
at-below w small = grind (arith, nat_tests, get_or-replicate {A = ℕ} 512 w 0 0 small)

-- each word of a fresh object is 0
pub zeros-word_of : word_of zeros ≡ (λ _. 0)
zeros-word_of = fun_ext (λ w. grind (arith, nat_tests, at-below w))
