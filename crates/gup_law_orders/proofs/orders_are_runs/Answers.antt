-- The turns of the order are the written ones, and behind them nobody can go.
use Rattle.std.proofs.Common.{◌≡◌, ℕ, ◌+◌, List, ◌++◌, slice_get, refl, ap, arith}
use Rattle.gup_spec_turns.specs.Run.{run_start, turned}
use Rattle.gup_spec_orders.specs.Orders.{setup, turns_in}
use Rattle.gup_law_journal.proofs.RunEnds.{waits_for_birth_or_pin}
use Rattle.gup_law_orders.proofs.OrderRuns.{over_behind, run_in_order, placed, script_in_order}
use Rattle.gup_law_orders.proofs.orders_are_runs.Goals as goal

pub returns-clause-run : goal.returns-clause-run
returns-clause-run c script behind order valid is =
    let start = run_start script in
    let all : List ℕ = setup script behind ++ order in
    let same : (k : ℕ) → 0 + k ≡ k = λ k. omega arith in
    let run = run_in_order script all all start 0 0 (λ k. ap (slice_get all) (same k)) (over_behind script behind order is) in
    (placed (turned script start all) run.0 run.1, record { run = (turns_in script start all, refl, run.2); waits = λ a. refl })

pub returns-clause-written : goal.returns-clause-written
returns-clause-written c script behind order valid is few = script_in_order script behind order valid is few

pub returns-clause-waits : goal.returns-clause-waits
returns-clause-waits c script behind order valid is a waiting waits =
    let all : List ℕ = setup script behind ++ order in
    let stands = c.reached_states_stand.ensures script all valid in
    waits_for_birth_or_pin script valid (turned script (run_start script) all) stands (over_behind script behind order is) a waiting waits
