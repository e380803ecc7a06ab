use Rattle.std.proofs.Common.{◌≡◌, ◌+◌, ◌≤◌, ◌++◌, replicate, vec_len, vec_capacity}
use Rattle.gup_read_outline.proofs.drawing.push_times.Given as goal

abbrev pub invariant-loop : goal.invariant-loop
invariant-loop l =
    record {
      done : l.turns.items ≡ l.fn.turns.items ++ replicate l.counter l.actor;
      room : vec_len l.turns + l.times ≤ vec_capacity l.turns + l.counter;
    }
