use Rattle.std.proofs.Common.{ℕ, List, ap, ◌∙◌}
use Rattle.std.proofs.lemmas.List.{take_all}
use Rattle.gup_search.specs.Pools.{standing}
use Rattle.gup_search.proofs.Numbers.{standing_next}
use Rattle.gup_search.proofs.pools.read.Goals as goal

pub loop-number-init : goal.loop-number-init
loop-number-init g c = c.in_ok-items.ensures.items

pub loop-number-preserved : goal.loop-number-preserved
loop-number-preserved g c =
    standing_next c.args.pool.now c.loop-number.items.items c.push.new.self.items c.args.numbers.now c.loop-number.number-index c.index-pool-number.result c.loop-number-test.true
    (c.requires c.loop-number.number-index 0 c.loop-number-test.true)
    c.index-pool-number.is c.in_ok-push.ensures.items c.loop-number.invariant

pub returns : goal.returns
returns g c =
    c.loop-number.invariant
    ∙ ap (λ (ns : List ℕ). standing c.args.pool.now ns) (take_all c.loop-number.number-index c.args.numbers.now c.loop-number-test.false)
