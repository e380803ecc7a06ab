use Rattle.std.proofs.Common.{ℕ, List, [], ◌++◌, ◌∷◌, sym, ap, subst, ◌∙◌}
use Rattle.std.proofs.lemmas.List.{take_all}
use Rattle.gup_search.specs.Pools.{AreNumbers}
use Rattle.gup_search.proofs.Numbers.{grows_none, grows_as, grows_on, numbers_put}
use Rattle.gup_search.proofs.pools.put_in.Goals as goal

pub loop-item-init : goal.loop-item-init
loop-item-init g c = (
  grows_none c.args.pool.now.keys,
  subst (λ (ns : List ℕ). AreNumbers g.T.PartialEq.eq c.args.pool.now.keys [] ns) (sym c.in_ok-numbers.ensures.items) tt,
)

pub returns-in_err-number-clause-pool : goal.returns-in_err-number-clause-pool
returns-in_err-number-clause-pool g c = grows_as c.args.pool.now.keys c.loop-item.pool.keys c.insert_full.new.self.keys c.in_err-number.ensures.err c.loop-item.invariant.0

pub returns-in_err-small-clause-pool : goal.returns-in_err-small-clause-pool
returns-in_err-small-clause-pool g c =
    grows_on g.T.PartialEq.eq g.met.T.Eq.laws c.args.pool.now.keys c.loop-item.pool.keys c.insert_full.new.self.keys c.item-item.result c.in_ok-number.ensures.keys c.loop-item.invariant.0

pub returns-in_err-push-clause-pool : goal.returns-in_err-push-clause-pool
returns-in_err-push-clause-pool g c =
    grows_on g.T.PartialEq.eq g.met.T.Eq.laws c.args.pool.now.keys c.loop-item.pool.keys c.insert_full.new.self.keys c.item-item.result c.in_ok-number.ensures.keys c.loop-item.invariant.0

pub loop-item-preserved : goal.loop-item-preserved
loop-item-preserved g c = (
  grows_on g.T.PartialEq.eq g.met.T.Eq.laws c.args.pool.now.keys c.loop-item.pool.keys c.insert_full.new.self.keys c.item-item.result c.in_ok-number.ensures.keys c.loop-item.invariant.0,
  numbers_put g.T.PartialEq.eq g.met.T.Eq.laws c.loop-item.pool.keys c.insert_full.new.self.keys c.args.items.now c.loop-item.numbers.items c.push.new.self.items c.loop-item.item-index c.item-item.result c.in_ok-number.number c.in_ok-number.ensures.keys c.loop-item-test.true c.item-item.is
      (c.in_ok-push.ensures.items ∙ ap (λ (n : ℕ). c.loop-item.numbers.items ++ n ∷ []) c.in_ok-small.ensures)
      c.in_ok-number.ensures.stored c.loop-item.invariant.1,
)

pub returns-clause-pool : goal.returns-clause-pool
returns-clause-pool g c = c.loop-item.invariant.0

pub returns-clause-numbers : goal.returns-clause-numbers
returns-clause-numbers g c =
    subst (λ (xs : List g.row.T.Denot). AreNumbers g.T.PartialEq.eq c.loop-item.pool.keys xs c.loop-item.numbers.items)
    (take_all c.loop-item.item-index c.args.items.now c.loop-item-test.false)
    c.loop-item.invariant.1
