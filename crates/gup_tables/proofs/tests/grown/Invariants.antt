use Rattle.std.proofs.Common.{◌≡◌}
use Rattle.gup_tables.specs.Tree.{tree_of}
use Rattle.gup_tables.proofs.tests.grown.Given as goal

abbrev pub invariant-loop-page : goal.invariant-loop-page
invariant-loop-page g l = (tree_of l.tree).room ≡ 20
