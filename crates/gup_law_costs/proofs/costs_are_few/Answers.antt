-- By how many turns, operations and processes a script has at most.
use Rattle.std.proofs.Common.{◌+◌, ◌-◌, ◌^◌, ◌<◌, length, arith}
use Rattle.gup_script.specs.Script.{ScriptValue}
use Rattle.gup_script.specs.Valid.{IsScript}
use Rattle.gup_spec_turns.specs.Cost.{cost}
use Rattle.gup_spec_turns.specs.Run.{run_start}
use Rattle.gup_law_costs.proofs.FewForks.{few_forks}
use Rattle.gup_law_costs.proofs.TurnCosts.{first_cost}
use Rattle.gup_law_costs.proofs.costs_are_few.Goals as goal

few_in_all : (script : ScriptValue) → IsScript script → length script.turns + cost script (run_start script) < 2 ^ 32 - 1
few_in_all script valid =
    let turns = valid.few_turns in
    let ops = valid.few_ops in
    let processes = valid.few_processes in
    let start = first_cost script valid in
    let few = few_forks script valid in
    omega (arith, turns, ops, processes, start, few)

pub returns : goal.returns
returns c = few_in_all
