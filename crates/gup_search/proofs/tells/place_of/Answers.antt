use Rattle.gup_search.proofs.Tellings.{before_last}
use Rattle.gup_search.proofs.tells.place_of.Goals as goal

pub returns-else-name-tells-clause-before : goal.returns-else-name-tells-clause-before
returns-else-name-tells-clause-before c =
    λ from end up. before_last from end c.loop-at.at c.args.name c.args.tells.now _ c.loop-at-test.true c.loop-at.invariant.0 c.if-name-tells.false up
