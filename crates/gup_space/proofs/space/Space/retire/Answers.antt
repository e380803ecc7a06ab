use Rattle.std.proofs.Common.{◌≡◌, sym, ap, subst, ◌∙◌}
use Rattle.gup_tables.specs.Pool.{pool_of}
use Rattle.gup_page_tables.specs.PageTables.{tables_of, Both, both}
use Rattle.gup_space.specs.ShownTables.{ShowsTables, shrunk}
use Rattle.gup_spec_events.specs.Event.{run}
use Rattle.gup_spec_events.specs.Growth.{retires}
use Rattle.gup_space.specs.contracts.space.Space.{the_view}
use Rattle.gup_space.specs.Space.{SpaceParts, space_of}
use Rattle.gup_space.specs.Shows.{ShowsSpace}
use Rattle.gup_space.proofs.Tabled.{tables_shown, shrunk_leads, shrunk_walks, same_but_tables}
use Rattle.gup_space.proofs.space.Space.retire.Goals as goal

abbrev old : (c : goal.After-retire) → Both
old c = both c.self.inside.tables (pool_of c.args.pool.now)

abbrev new : (c : goal.After-retire) → Both
new c = both c.retire.new.self (pool_of c.retire.new.pool)

becomes : (c : goal.After-retire) → new c ≡ shrunk c.args.page (old c)
becomes c = c.retire.ensures.tables

pub returns-clause-leads : goal.returns-clause-leads
returns-clause-leads c s a p free shown =
    let before : ShowsSpace p (space_of (the_view c.self.inside)) s = subst (λ (x : SpaceParts). ShowsSpace p (space_of x) s) (sym c.self.view_is) shown in
    let tables = tables_shown p (space_of (the_view c.self.inside)) (tables_of c.self.inside.tables) (pool_of c.args.pool.now) s free before in
    let after : ShowsTables p (new c) (run s (retires s a p c.args.page)) =
    subst (λ (b : Both). ShowsTables p b (run s (retires s a p c.args.page))) (sym (becomes c))
    (c.shrinking_is_events.ensures.shrunk (old c) s a p c.args.page tables) in
    shrunk_leads p a c.args.page (space_of (the_view c.self.inside)) (tables_of c.self.inside.tables) (new c) s before after

pub returns-clause-rest : goal.returns-clause-rest
returns-clause-rest c =
    rw (← c.self.view_is)
    (same_but_tables (space_of (the_view c.self.inside)) (tables_of c.self.inside.tables) (tables_of c.retire.new.self) c.retire.ensures.entries
    (ap (λ (b : Both). b.tables.limbo.walks) (becomes c) ∙ shrunk_walks c.args.page (old c)))
