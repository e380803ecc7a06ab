use Rattle.std.proofs.Common.{◌≡◌, false}
use Rattle.gup_plain.specs.Denial.{any_unmapped}
use Rattle.gup_space.specs.Space.{space_of}
use Rattle.gup_op_mirrors.proofs.ranges.are_mapped.Given as goal

abbrev pub invariant-loop-k : goal.invariant-loop-k
invariant-loop-k l = any_unmapped (space_of l.space).right l.page l.k ≡ false
