use Rattle.std.proofs.Common.{map, length}
use Rattle.std.specs.Prelude.{string_bytes}
use Rattle.gup_picture.specs.Choices.{wish_of}
use Rattle.gup_picture.proofs.Asking.{IsReadOn}
use Rattle.gup_picture.proofs.command.wanted_in.Given as goal

abbrev pub invariant-loop-rest : goal.invariant-loop-rest
invariant-loop-rest l = IsReadOn (map string_bytes l.words) (map string_bytes l.rest) (wish_of l.wanted)

abbrev pub decreases-loop-rest : goal.decreases-loop-rest
decreases-loop-rest l = length l.rest
