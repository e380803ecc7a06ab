use Rattle.std.proofs.Common.{◌≡◌, [], ◌∷◌, ◌++◌, slice_get}
use Rattle.gup_image.specs.declared.fact.Fact.TheVariants.{Taken}
use Rattle.gup_image.specs.Gathered.{gathered, at_place}
use Rattle.gup_image.proofs.actors.push_taken_by.Given as goal

abbrev pub invariant-loop-place : goal.invariant-loop-place
invariant-loop-place l =
    l.facts.items ≡ l.initial.facts.items ++ gathered (λ k. at_place (λ i frame. Taken l.actor i frame ∷ []) k (slice_get l.frames k)) l.place
