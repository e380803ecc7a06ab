use Rattle.std.proofs.Common.{◌≡◌, ◌+◌, map, take}
use Rattle.gup_conditions.specs.Reading.{AreConditions}
use Rattle.gup_conditions.proofs.read.read_conditions.Given as goal

abbrev pub invariant-loop-line : goal.invariant-loop-line
invariant-loop-line l = record {
  number : l.number ≡ l.line-index + 1;
  conditions : AreConditions l.script (take l.line-index (map (λ line. line.now) l.line-items)) l.conditions.items;
}
