use Rattle.std.proofs.Common.{◌≡◌, ℕ, ◌≤◌, ◌<◌, true}
use Rattle.gup_exec_plain.specs.Parts.{state_of}
use Rattle.gup_spec_check.specs.Times.{unnamed_since}
use Rattle.gup_check_pages.specs.Mapped.{mapped_of}
use Rattle.gup_check_pages.proofs.passing.are_unnamed.Given as goal

-- each of the pages so far was unnamed
abbrev pub invariant-loop-page : goal.invariant-loop-page
invariant-loop-page l =
    (page : ℕ) → l.from ≤ page → page < l.page → unnamed_since (state_of l.plain) (mapped_of l.mapped) l.since l.p page ≡ true
