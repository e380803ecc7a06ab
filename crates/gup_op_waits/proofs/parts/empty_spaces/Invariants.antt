use Rattle.std.proofs.Common.{◌≡◌, length, All}
use Rattle.gup_space.specs.Space.{SpaceParts, space_of, no_space}
use Rattle.gup_op_waits.proofs.parts.empty_spaces.Given as goal

-- so many empty processes so far
abbrev pub invariant-loop-p : goal.invariant-loop-p
invariant-loop-p l =
    record {
      many : length l.spaces.items ≡ l._p;
      empty : All (λ (space : SpaceParts). space_of space ≡ no_space) l.spaces.items;
    }
