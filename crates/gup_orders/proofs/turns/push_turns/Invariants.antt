use Rattle.std.proofs.Common.{◌≡◌, ◌++◌, take, codes}
use Rattle.std.specs.List.{flat_map}
use Rattle.gup_orders.specs.Turns.{repeat_text, repeats}
use Rattle.gup_orders.proofs.turns.push_turns.Given as goal

-- the words so far are written
abbrev pub invariant-loop-k : goal.invariant-loop-k
invariant-loop-k l = l.text.items ≡ (l.fn.text.items ++ codes "turns") ++ flat_map (repeat_text l.script) (take l.k (repeats l.order))
