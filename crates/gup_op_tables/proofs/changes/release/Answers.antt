use Rattle.std.proofs.Common.{ℕ, ◌+◌, Option, sym, ap, subst}
use Rattle.gup_base.specs.declared.entry.Rights.{Rights}
use Rattle.gup_maps.specs.Maps.{IsNextPage}
use Rattle.gup_plain.specs.Event.{page_numbers}
use Rattle.gup_tables.specs.Pool.{pool_of}
use Rattle.gup_space.specs.Shows.{ShowsPool}
use Rattle.gup_spec_events.specs.Event.{run}
use Rattle.gup_spec_turns.specs.TableTurns.{retires_mapped}
use Rattle.gup_op_tables.specs.Alike.{ShowsEach}
use Rattle.gup_op_tables.specs.Released.{HasNone, right_at}
use Rattle.gup_op_tables.proofs.Released.{goes_on, ends, now_rights, state_rights, below_page, fewer_left, there}
use Rattle.gup_op_tables.proofs.changes.release.Goals as goal

pub loop-page-preserved : goal.loop-page-preserved
loop-page-preserved c =
    let same = now_rights c.args.child c.args.parent (pool_of c.args.pool.now) (pool_of c.loop-page.pool) c.args.spaces.now c.loop-page.spaces c.loop-page.from c.get.result c.index-spaces-get.result c.get.ensures.value c.requires.parent c.loop-page.invariant in
    let n : IsNextPage (right_at c.args.spaces.now c.args.parent) c.loop-page.from c.in-Some.page = subst (λ (right : ℕ → Option Rights). IsNextPage right c.loop-page.from c.in-Some.page) same c.in-Some.ensures in
    goes_on c.args.child (right_at c.args.spaces.now c.args.parent) (pool_of c.args.pool.now) c.args.spaces.now (pool_of c.loop-page.pool) (pool_of c.retire.new.pool)
    c.loop-page.spaces c.retire.new.spaces c.loop-page.from c.in-Some.page (c.get-from.result + 1) (ap (λ (k : ℕ). k + 1) c.get-from.ensures.value)
    (below_page _ _ c.get-from.ensures.value c.get-from.ensures.below) n.above n.mapped n.least c.retire.ensures.many c.retire.ensures.owned c.retire.ensures.pool c.retire.ensures.alike
    (λ s a. c.retire.ensures.leads s a) c.loop-page.invariant

pub loop-page-smaller : goal.loop-page-smaller
loop-page-smaller c = fewer_left c.loop-page.from c.in-Some.page c.get-from.result c.in-Some.ensures.above c.get-from.ensures.value c.get-from.ensures.below

pub returns-clause-leads : goal.returns-clause-leads
returns-clause-leads c s a pool shown =
    let same = now_rights c.args.child c.args.parent (pool_of c.args.pool.now) (pool_of c.loop-page.pool) c.args.spaces.now c.loop-page.spaces c.loop-page.from c.get.result c.index-spaces-get.result c.get.ensures.value c.requires.parent c.loop-page.invariant in
    let none : HasNone (right_at c.args.spaces.now c.args.parent) c.loop-page.from = subst (λ (right : ℕ → Option Rights). HasNone right c.loop-page.from) same c.in_default.ensures in
    let parent = there c.args.spaces.now c.args.parent c.requires.parent in
    subst (λ (right : ℕ → Option Rights). ShowsPool (pool_of c.loop-page.pool) (run s (retires_mapped s a c.args.child right 0 page_numbers)) × ShowsEach c.loop-page.spaces (run s (retires_mapped s a c.args.child right 0 page_numbers)))
    (sym (state_rights s c.args.parent c.args.spaces.now parent.0 parent.1 shown))
    (ends c.args.child (right_at c.args.spaces.now c.args.parent) (pool_of c.args.pool.now) c.args.spaces.now (pool_of c.loop-page.pool) c.loop-page.spaces c.loop-page.from none c.loop-page.invariant s a pool shown)
