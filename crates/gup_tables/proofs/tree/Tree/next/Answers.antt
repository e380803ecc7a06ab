use Rattle.std.proofs.Common.{◌-◌}
use Rattle.gup_spec_tables.specs.Tables.{on_path}
use Rattle.gup_tables.specs.Rows.{place_in}
use Rattle.gup_tables.proofs.Paths.{next_table}
use Rattle.gup_tables.proofs.Places.{some_there}
use Rattle.gup_tables.proofs.tree.Tree.next.Goals as goal

pub returns-clause-next : goal.returns-clause-next
returns-clause-next c =
    let there = rw (← c.self.view_is) at c.requires.there in
    rw (← c.self.view_is)
    (next_table _ _ _ c.self.invariant c.args.table c.args.level c.args.page c.index.result c.word.result c.linked.result there c.requires.upper.0 c.requires.upper.1 c.index.ensures c.word.ensures c.linked.ensures)

pub returns-clause-there : goal.returns-clause-there
returns-clause-there c =
    some_there (place_in c.args.self.now) (on_path (c.args.level - 1) c.args.page) c.linked.result (returns-clause-next c)
