use Rattle.std.proofs.Common.{ℕ, List, [], ◌++◌, ◌∷◌, sym, ap, subst, ◌∙◌}
use Rattle.std.proofs.lemmas.List.{take_all}
use Rattle.gup_search.specs.Pools.{AreNumbers}
use Rattle.gup_search.proofs.Lists.{read_at}
use Rattle.gup_search.proofs.Numbers.{numbers_next, nothing_found, found_passes}
use Rattle.gup_search.proofs.pools.numbers_in.Goals as goal

pub loop-item-init : goal.loop-item-init
loop-item-init g c = subst (λ (ns : List ℕ). AreNumbers g.T.PartialEq.eq c.args.pool.now.keys [] ns) (sym c.in_ok-numbers.ensures.items) tt

pub returns-in_default-clause-lacks : goal.returns-in_default-clause-lacks
returns-in_default-clause-lacks g c = (
  c.loop-item.item-index,
  c.item-item.result,
  read_at c.args.items.now c.loop-item.item-index c.item-item.result c.loop-item-test.true c.item-item.is,
  nothing_found g.T.PartialEq.eq g.met.T.Eq.laws c.args.pool.now.keys c.item-item.result (sym c.in_default.ensures.found),
)

pub loop-item-preserved : goal.loop-item-preserved
loop-item-preserved g c =
    numbers_next g.T.PartialEq.eq c.args.pool.now.keys c.args.items.now c.loop-item.numbers.items c.push.new.self.items c.loop-item.item-index c.item-item.result c.in-Some.number c.loop-item-test.true c.item-item.is
    (c.in_ok-push.ensures.items ∙ ap (λ (n : ℕ). c.loop-item.numbers.items ++ n ∷ []) c.in_ok-small.ensures)
    (c.in-Some.field-0-1.now, c.in-Some.ensures.stored, found_passes (g.T.PartialEq.eq c.item-item.result) c.args.pool.now.keys c.in-Some.field-0-1.now c.in-Some.ensures.key)
    c.loop-item.invariant

pub returns-clause-numbers : goal.returns-clause-numbers
returns-clause-numbers g c =
    subst (λ (xs : List g.row.T.Denot). AreNumbers g.T.PartialEq.eq c.args.pool.now.keys xs c.loop-item.numbers.items)
    (take_all c.loop-item.item-index c.args.items.now c.loop-item-test.false)
    c.loop-item.invariant
