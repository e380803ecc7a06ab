use Rattle.std.proofs.Common.{sym, subst}
use Rattle.gup_space.specs.Space.{SpaceValue, OwnsTables}
use Rattle.gup_test_pages.proofs.tables.touch.Goals as goal

pub returns : goal.returns
returns g c pool owns = subst (λ (s : SpaceValue). OwnsTables s pool) (sym c.set_entry.ensures) owns
