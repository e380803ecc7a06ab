-- Flags as a function.
use Rattle.std.proofs.Common.{◌≡◌, ℕ, ◌<◌, Bool, true, false, List, arith}
use Rattle.std.proofs.Math.Path.{fun_ext}
use Rattle.std.proofs.lemmas.Bool.Decides.{nat_tests}
use Rattle.std.proofs.lemmas.List.{get_or-replicate}
use Rattle.gup_plain.specs.Put.{spread}
use Rattle.gup_exec_parts.specs.Flags.{flag_of, unset, all_set}

at-below : (w : ℕ) → w < 512 → flag_of unset w ≡ false
unfolding unset
at-below w small = grind (arith, nat_tests, get_or-replicate {A = Bool} 512 w false false small)

pub unset-flag_of : flag_of unset ≡ (λ _. false)
unset-flag_of = fun_ext (λ w. grind (arith, nat_tests, at-below w))

set-at : (items : List Bool) (w : ℕ) → flag_of all_set w ≡ spread 0 512 (λ _. true) (flag_of items) w
unfolding all_set
set-at items w = let there = get_or-replicate {A = Bool} 512 w true false in grind (arith, nat_tests, there)

pub all_set-flag_of : (items : List Bool) → flag_of all_set ≡ spread 0 512 (λ _. true) (flag_of items)
all_set-flag_of items = fun_ext (set-at items)
