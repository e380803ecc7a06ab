use Rattle.std.proofs.Common.{◌≡◌, [], ◌∷◌, ◌++◌, slice_get}
use Rattle.gup_image.specs.declared.fact.Fact.TheVariants.{Pinned}
use Rattle.gup_image.specs.Gathered.{gathered, at_place}
use Rattle.gup_image.proofs.handles.push_pinned.Given as goal

abbrev pub invariant-loop-place : goal.invariant-loop-place
invariant-loop-place l =
    l.facts.items ≡ l.initial.facts.items ++ gathered (λ k. at_place (λ i frame. Pinned i frame l.handle ∷ []) k (slice_get l.frames k)) l.place
