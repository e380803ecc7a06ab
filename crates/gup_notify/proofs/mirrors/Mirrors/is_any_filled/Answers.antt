use Rattle.std.proofs.Common.{◌<◌, is_some, count_by, arith}
use Rattle.std.proofs.lemmas.Bool.Decides.{nat_tests}
use Rattle.gup_notify.proofs.Slots.{some_filled, is_counted}
use Rattle.gup_notify.proofs.mirrors.Mirrors.is_any_filled.Goals as goal

pub returns-clause-some : goal.returns-clause-some
returns-clause-some c =
    rw (← c.self.view_is) (
      λ is.
          let counted : 0 < count_by is_some c.self.inside.slots.items = grind (arith, nat_tests, c.self.invariant.1) in
          let filled = some_filled c.self.inside.slots.items counted in
          (filled.0, omega (arith, c.self.invariant.0), filled.2),
      λ any.
          let counted = is_counted c.self.inside.slots.items any.0 any.2 in
          grind (arith, nat_tests, c.self.invariant.1),
    )
