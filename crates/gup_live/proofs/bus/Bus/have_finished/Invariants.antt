use Rattle.std.proofs.Common.{◌≡◌, ℕ, ◌<◌, true}
use Rattle.gup_spec_journal.specs.Place.{has_finished}
use Rattle.gup_spec_turns.specs.Run.{run_start, turned}
use Rattle.gup_live.proofs.bus.Bus.have_finished.Given as goal

-- the first ones have finished
abbrev pub invariant-loop-k : goal.invariant-loop-k
invariant-loop-k g l =
    (a : ℕ) → a < l.k → has_finished g.J.Naming.script a ((turned g.J.Naming.script (run_start g.J.Naming.script) l.self.order).places a) ≡ true
