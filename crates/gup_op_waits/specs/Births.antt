-- What the machine keeps of births: which process has failed, and what a fork makes of its child.
use Rattle.std.specs.Prelude.{◌≡◌, ℕ, List, Option, Some, None, slice_get}
use Rattle.gup_op_fork.specs.declared.forks.Forked.{Forked}
use Rattle.gup_op_fork.specs.declared.forks.Forked.TheVariants.{Goes}
use Rattle.gup_op_fork.specs.declared.forks.Forked.TheVariants as forked
use Rattle.gup_op_waits.specs.declared.births.Birth.{Birth}
use Rattle.gup_op_waits.specs.declared.births.Birth.TheVariants.{Growing, Born, Failed}

-- it is a process, and it has failed
abbrev pub HasFailed : List Birth → Option ℕ → Type 0
HasFailed births None = ⊥
HasFailed births (Some p) = slice_get births p ≡ Some Failed

-- what the child of a fork is after a turn that comes to this: it grows until the fork ends or fails
abbrev pub birth_by : Forked → Birth
birth_by (Goes place) = Growing
birth_by forked.Born = Born
birth_by forked.Failed = Failed
