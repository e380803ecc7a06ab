-- By induction over the turns of the run.
use Rattle.gup_spec_turns.specs.Run.{run_start}
use Rattle.gup_law_journal.proofs.TurnOrder.{order_run}
use Rattle.gup_law_turns.proofs.StandingTurns.{stands_first}
use Rattle.gup_law_journal.proofs.core_run_is_in_order.Goals as goal

pub returns : goal.returns
returns c script notes end valid run =
    let h = stands_first c.starts_sound.ensures script valid in
    (run.0, run.1, order_run c.simulates.ensures script valid run.0 (run_start script) end h (λ some. some) run.2)
