use Rattle.std.proofs.Common.{List, sym, ap, subst, ◌∙◌}
use Rattle.gup_search.specs.States.{AreKept, states_of}
use Rattle.gup_search.specs.declared.states.Row.{Row}
use Rattle.gup_search.proofs.Lists.{on_err}
use Rattle.gup_search.proofs.Numbers.{grows_none}
use Rattle.gup_search.proofs.Kept.{the_state, states_grown, kept_grown, kept_inserted, inserts_kept}
use Rattle.gup_search.proofs.states.States.insert.Goals as goal

pub invariant_of-self : goal.invariant_of-self
invariant_of-self c =
    kept_grown c.self.inside.facts.keys c.put_in.new.pool.keys c.self.inside.tells.keys c.self.inside.tells.keys c.self.inside.rows.keys c.put_in.ensures.pool (grows_none c.self.inside.tells.keys) c.self.invariant

pub returns-in_err-facts-clause-err : goal.returns-in_err-facts-clause-err
returns-in_err-facts-clause-err c =
    on_err c.from_residual.result _
    (states_grown c.self.inside.facts.keys c.put_in.new.pool.keys c.self.inside.tells.keys c.self.inside.tells.keys c.self.inside.rows.keys c.put_in.ensures.pool (grows_none c.self.inside.tells.keys) c.self.invariant.within ∙ c.self.view_is)

pub invariant_of-self-in_err-tells : goal.invariant_of-self-in_err-tells
invariant_of-self-in_err-tells c =
    kept_grown c.self.inside.facts.keys c.put_in.new.pool.keys c.self.inside.tells.keys c.put_in-2.new.pool.keys c.self.inside.rows.keys c.put_in.ensures.pool c.put_in-2.ensures.pool c.self.invariant

pub returns-in_err-tells-clause-err : goal.returns-in_err-tells-clause-err
returns-in_err-tells-clause-err c =
    on_err c.from_residual-in_err-tells.result _
    (states_grown c.self.inside.facts.keys c.put_in.new.pool.keys c.self.inside.tells.keys c.put_in-2.new.pool.keys c.self.inside.rows.keys c.put_in.ensures.pool c.put_in-2.ensures.pool c.self.invariant.within ∙ c.self.view_is)

pub invariant_of-self-in_err-is_new : goal.invariant_of-self-in_err-is_new
invariant_of-self-in_err-is_new c =
    subst (λ (rows : List Row). AreKept c.put_in.new.pool.keys c.put_in-2.new.pool.keys rows) (sym c.in_err-is_new.ensures.err)
    (kept_grown c.self.inside.facts.keys c.put_in.new.pool.keys c.self.inside.tells.keys c.put_in-2.new.pool.keys c.self.inside.rows.keys c.put_in.ensures.pool c.put_in-2.ensures.pool c.self.invariant)

pub returns-in_err-is_new-clause-err : goal.returns-in_err-is_new-clause-err
returns-in_err-is_new-clause-err c =
    on_err c.from_residual-in_err-is_new.result _
    (
    ap (λ (rows : List Row). states_of c.put_in.new.pool.keys c.put_in-2.new.pool.keys rows) c.in_err-is_new.ensures.err
    ∙ states_grown c.self.inside.facts.keys c.put_in.new.pool.keys c.self.inside.tells.keys c.put_in-2.new.pool.keys c.self.inside.rows.keys c.put_in.ensures.pool c.put_in-2.ensures.pool c.self.invariant.within
    ∙ c.self.view_is
    )

pub invariant_of-self-2 : goal.invariant_of-self-2
invariant_of-self-2 c =
    kept_inserted c.put_in.new.pool.keys c.put_in-2.new.pool.keys c.self.inside.rows.keys c.insert.new.self.keys (the_state c.args.facts.now c.args.tells.now) (record { facts = c.in_ok-facts.facts; tells = c.in_ok-tells.tells })
    (record { facts_at = c.in_ok-facts.ensures.numbers; tells_at = c.in_ok-tells.ensures.numbers })
    c.in_ok-is_new.ensures.keys
    (kept_grown c.self.inside.facts.keys c.put_in.new.pool.keys c.self.inside.tells.keys c.put_in-2.new.pool.keys c.self.inside.rows.keys c.put_in.ensures.pool c.put_in-2.ensures.pool c.self.invariant)

pub returns-clause-inserts : goal.returns-clause-inserts
returns-clause-inserts c =
    inserts_kept c.self.inside.facts.keys c.put_in.new.pool.keys c.self.inside.tells.keys c.put_in-2.new.pool.keys c.self.inside.rows.keys c.insert.new.self.keys c.args.self.now (the_state c.args.facts.now c.args.tells.now) (record { facts = c.in_ok-facts.facts; tells = c.in_ok-tells.tells }) c.in_ok-is_new.is_new c.put_in.ensures.pool c.put_in-2.ensures.pool c.self.invariant
    (record { facts_at = c.in_ok-facts.ensures.numbers; tells_at = c.in_ok-tells.ensures.numbers })
    c.in_ok-is_new.ensures.added c.in_ok-is_new.ensures.keys c.self.view_is
