use Rattle.std.proofs.Common.{◌≡◌, false}
use Rattle.gup_plain.specs.Denial.{any_mapped}
use Rattle.gup_exec_plain.specs.Parts.{state_of}
use Rattle.gup_check_plain.proofs.pages.any_mapped.Given as goal

-- none of the pages so far is mapped
abbrev pub invariant-loop-k : goal.invariant-loop-k
invariant-loop-k l = any_mapped ((state_of l.plain).right l.p) l.page l.k ≡ false
