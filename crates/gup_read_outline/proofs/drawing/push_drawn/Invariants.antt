use Rattle.std.proofs.Common.{◌≡◌, ◌++◌, ◌-◌, ◌+◌, ◌≤◌, vec_len, vec_capacity}
use Rattle.gup_spec_grammar.specs.Outline.{draws}
use Rattle.gup_read_outline.proofs.drawing.push_drawn.Given as goal

abbrev pub invariant-loop : goal.invariant-loop
invariant-loop l =
    record {
      done : l.turns.items ++ draws (l.count - l.counter) l.below l.x ≡ l.fn.turns.items ++ draws l.count l.below l.start;
      room : vec_len l.turns + l.count ≤ vec_capacity l.turns + l.counter;
    }
