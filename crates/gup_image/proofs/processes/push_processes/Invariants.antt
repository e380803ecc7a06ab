use Rattle.std.proofs.Common.{◌≡◌, ◌++◌, slice_get}
use Rattle.gup_space.specs.Space.{SpaceParts}
use Rattle.gup_image.specs.Gathered.{gathered, at_place}
use Rattle.gup_image.specs.Image.{born_facts}
use Rattle.gup_image.proofs.processes.push_processes.Given as goal

abbrev pub invariant-loop-p : goal.invariant-loop-p
invariant-loop-p l =
    l.facts.items ≡ l.initial.facts.items
    ++ gathered (λ k. at_place (λ p (space : SpaceParts). born_facts l.tables p (slice_get l.parts.births.items p) space) k (slice_get l.parts.spaces.items k)) l.p
