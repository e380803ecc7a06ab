use Rattle.std.proofs.Common.{◌≡◌, ◌++◌, slice_get}
use Rattle.gup_image.specs.Gathered.{gathered, at_place}
use Rattle.gup_image.specs.Image.{seat_fact}
use Rattle.gup_image.proofs.actors.push_seats.Given as goal

abbrev pub invariant-loop-a : goal.invariant-loop-a
invariant-loop-a l = l.facts.items ≡ l.initial.facts.items ++ gathered (λ k. at_place seat_fact k (slice_get l.seats.items k)) l.a
