use Rattle.std.proofs.Common.{◌≡◌, not, sym, ap, subst, ◌∙◌, arith}
use Rattle.gup_spec_tables.specs.Tables.{lacks}
use Rattle.gup_tables.specs.Pool.{pool_of}
use Rattle.gup_page_tables.specs.PageTables.{tables_of, Both, both, IsOf}
use Rattle.gup_space.specs.ShownTables.{IsPool, ShowsTables, grown}
use Rattle.gup_spec_events.specs.Event.{run}
use Rattle.gup_spec_events.specs.Growth.{grows}
use Rattle.gup_space.specs.contracts.space.Space.{the_view}
use Rattle.gup_space.specs.Space.{SpaceParts, space_of}
use Rattle.gup_space.specs.Shows.{ShowsSpace}
use Rattle.gup_space.proofs.Tabled.{tables_shown, grown_leads, grown_by, grown_pool, grown_walks, same_but_tables, not_not}
use Rattle.gup_space.proofs.space.Space.grow.Goals as goal

abbrev old : (c : goal.After-grow) → Both
old c = both c.self.inside.tables (pool_of c.args.pool.now)

abbrev new : (c : goal.After-grow) → Both
new c = both c.grow.new.self (pool_of c.grow.new.pool)

is_pool : (c : goal.After-grow) → IsPool (pool_of c.args.pool.now)
unfolding Rattle.gup_spec_tables.specs.Tables.table_numbers
is_pool c = record { few = c.is_within.ensures.few; no_others = c.is_within.ensures.no_others }

is_of : (c : goal.After-grow) → IsOf (old c)
is_of c = record { room = omega (arith, c.is_within.ensures.few, c.self.invariant); own = rw (← c.self.view_is) at c.requires }

becomes : (c : goal.After-grow) → new c ≡ grown c.args.page (old c)
becomes c = grown_by c.grow.result (old c) (new c) c.args.page c.grow.ensures.refused c.grow.ensures.grown c.grow.ensures.err

pub returns-clause-refused : goal.returns-clause-refused
returns-clause-refused c s a p free shown =
    let before : ShowsSpace p (space_of (the_view c.self.inside)) s = subst (λ (x : SpaceParts). ShowsSpace p (space_of x) s) (sym c.self.view_is) shown in
    let tables = tables_shown p (space_of (the_view c.self.inside)) (tables_of c.self.inside.tables) (pool_of c.args.pool.now) s free before in
    c.grow.ensures.refused
    ∙ sym (ap not (c.growth_is_events.ensures.enough (old c) s a p c.args.page (is_pool c) (is_of c) tables) ∙ not_not _)

pub returns-clause-leads : goal.returns-clause-leads
returns-clause-leads c s a p free shown =
    let before : ShowsSpace p (space_of (the_view c.self.inside)) s = subst (λ (x : SpaceParts). ShowsSpace p (space_of x) s) (sym c.self.view_is) shown in
    let tables = tables_shown p (space_of (the_view c.self.inside)) (tables_of c.self.inside.tables) (pool_of c.args.pool.now) s free before in
    let after : ShowsTables p (new c) (run s (grows s a p c.args.page)) =
    subst (λ (b : Both). ShowsTables p b (run s (grows s a p c.args.page))) (sym (becomes c))
    (c.growth_is_events.ensures.grown (old c) s a p c.args.page (is_pool c) (is_of c) tables) in
    grown_leads p a c.args.page (space_of (the_view c.self.inside)) (tables_of c.self.inside.tables) (new c) s before after

pub returns-clause-pool : goal.returns-clause-pool
returns-clause-pool c = ap (λ (b : Both). b.pool.tables) (becomes c) ∙ grown_pool c.args.page (old c)

pub returns-clause-rest : goal.returns-clause-rest
returns-clause-rest c =
    rw (← c.self.view_is)
    (same_but_tables (space_of (the_view c.self.inside)) (tables_of c.self.inside.tables) (tables_of c.grow.new.self) c.grow.ensures.entries
    (ap (λ (b : Both). b.tables.limbo.walks) (becomes c) ∙ grown_walks c.args.page (old c)))
