use Rattle.gup_space.specs.Space.{space_of}
use Rattle.gup_op_pages.specs.Lowered.{IsLowered}
use Rattle.gup_op_pages.proofs.mappings.lower.Given as goal

abbrev pub invariant-loop-k : goal.invariant-loop-k
invariant-loop-k l = IsLowered l.page l.k (space_of l.initial.space) (space_of l.space)
