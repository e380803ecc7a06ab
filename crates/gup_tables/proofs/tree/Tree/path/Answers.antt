use Rattle.std.proofs.Common.{rules}
use Rattle.gup_tables.proofs.Paths.{root_there}
use Rattle.gup_tables.proofs.tree.Tree.path.Goals as goal

pub next-requires-clause-there : goal.next-requires-clause-there
next-requires-clause-there c =
    rw (← c.self.view_is) (root_there _ _ _ c.self.invariant c.in_ok-self.field-0 c.args.page c.in_ok-self.was (search rules))
