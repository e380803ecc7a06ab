use Rattle.std.proofs.Common.{rules, arith}
use Rattle.gup_tables.proofs.Paths.{root_there}
use Rattle.gup_tables.proofs.tree.Tree.descend.Goals as goal

pub loop-level-init : goal.loop-level-init
loop-level-init c = record {
  there = rw (← c.self.view_is) (root_there _ _ _ c.self.invariant c.in-Some.root c.args.page c.in-Some.is (search rules));
  within = (c.requires.1, omega arith);
}
