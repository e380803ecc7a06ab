use Rattle.std.proofs.Common.{◌≡◌, ◌++◌, slice_get}
use Rattle.gup_image.specs.Gathered.{gathered, at_place}
use Rattle.gup_image.specs.Image.{stored_fact}
use Rattle.gup_image.proofs.actors.push_words.Given as goal

abbrev pub invariant-loop-slot : goal.invariant-loop-slot
invariant-loop-slot l = l.facts.items ≡ l.initial.facts.items ++ gathered (λ k. at_place (stored_fact l.actor) k (slice_get l.store k)) l.slot
