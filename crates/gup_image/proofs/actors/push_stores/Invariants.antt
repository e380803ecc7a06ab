use Rattle.std.proofs.Common.{◌≡◌, ◌++◌, slice_get}
use Rattle.gup_image.specs.Gathered.{gathered, at_place}
use Rattle.gup_image.specs.Image.{store_facts}
use Rattle.gup_image.proofs.actors.push_stores.Given as goal

abbrev pub invariant-loop-a : goal.invariant-loop-a
invariant-loop-a l = l.facts.items ≡ l.initial.facts.items ++ gathered (λ k. at_place store_facts k (slice_get l.stores.items k)) l.a
