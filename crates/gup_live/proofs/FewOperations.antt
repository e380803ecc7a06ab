-- An actor has no more operations than the script.
use Rattle.std.proofs.Common.{◌≡◌, ℕ, ◌<◌, ◌≤◌, List, [], ◌∷◌, Some, length, slice_get, refl, ap, arith, suc, zero}
use Rattle.std.specs.List.{sum_by}
use Rattle.std.proofs.lemmas.List.Sums.{sum_by-cons}
use Rattle.gup_script.specs.Script.{Actor}
use Rattle.gup_script.specs.declared.op.Op.{Op}

abbrev many : Actor → ℕ
many actor = length actor.ops

pub some_of_all : (actors : List Actor) (a : ℕ) (ops : List Op) → a < length actors → ((x : Actor) → slice_get actors a ≡ Some x → ops ≡ x.ops) → length ops ≤ sum_by many actors
some_of_all [] a ops below is = absurd (omega (arith, below))
some_of_all (x ∷ actors) zero ops below is =
    let same = ap (λ (o : List Op). length o) (is x refl) in let more = sum_by-cons many x actors in omega (arith, same, more)
some_of_all (x ∷ actors) (suc a) ops below is =
    let later = some_of_all actors a ops (omega (arith, below)) is in let more = sum_by-cons many x actors in omega (arith, later, more)
