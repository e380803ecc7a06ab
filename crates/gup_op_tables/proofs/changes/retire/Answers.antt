use Rattle.std.proofs.Common.{get_or, refl}
use Rattle.gup_space.specs.Space.{space_of}
use Rattle.gup_op_tables.specs.Alike.{IsAlike}
use Rattle.gup_op_tables.proofs.Replaced.{index_any, index_own, kept_at}
use Rattle.gup_op_tables.proofs.Changed.{each_shown, shrunk_others}
use Rattle.gup_op_tables.proofs.changes.retire.Goals as goal

pub returns-in_default-clause-leads : goal.returns-in_default-clause-leads
returns-in_default-clause-leads c s a pool shown = rw c.in_default.is (pool, shown)

pub retire-requires : goal.retire-requires
retire-requires c =
    (rw c.in-Some.is at c.requires.own) (get_or c.args.spaces.now c.get.result c.index-spaces-get.result)
    (index_any c.args.spaces.now c.get.result c.in-Some.at.proc c.index-spaces-get.result c.get.ensures.value (rw c.in-Some.is at c.requires.there))

pub returns-clause-alike : goal.returns-clause-alike
returns-clause-alike c =
    kept_at (λ x y. IsAlike (space_of x) (space_of y)) c.args.spaces.now c.get.result c.in-Some.at.proc (get_or c.args.spaces.now c.get.result c.index-spaces-get.result) c.retire.new.self (index_own c.args.spaces.now c.get.result c.in-Some.at.proc c.index-spaces-get.result c.get.ensures.value (rw c.in-Some.is at c.requires.there)) c.get.ensures.value
    (rw c.in-Some.is at c.requires.there) (λ x. refl) c.retire.ensures.rest

pub returns-clause-leads : goal.returns-clause-leads
returns-clause-leads c s a pool shown =
    let p = c.in-Some.at.proc in
    let page = c.in-Some.at.page in
    let within = rw c.in-Some.is at c.requires.there in
    let led = c.retire.ensures.leads s a p pool (shown p (get_or c.args.spaces.now c.get.result c.index-spaces-get.result) (index_any c.args.spaces.now c.get.result p c.index-spaces-get.result c.get.ensures.value within)) in
    rw c.in-Some.is
    (led.0, each_shown c.args.spaces.now c.get.result p c.retire.new.self s _ c.get.ensures.value within shown led.1 (shrunk_others s a p page (c.shrinking_is_events.ensures.others s a p page)))
