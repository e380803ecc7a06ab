use Rattle.std.proofs.Common.{◌≡◌, ℕ, [], ◌∷◌, ◌++◌, slice_get}
use Rattle.arrayvec.specs.ArrayVec.{ArrayVec}
use Rattle.gup_image.specs.declared.fact.Fact.TheVariants.{Taken}
use Rattle.gup_image.specs.Gathered.{gathered, at_place, along}
use Rattle.gup_image.proofs.actors.push_taken.Given as goal

abbrev pub invariant-loop-a : goal.invariant-loop-a
invariant-loop-a l =
    l.facts.items ≡ l.initial.facts.items
    ++ gathered (λ k. at_place (λ a (pages : ArrayVec ℕ). along (λ i frame. Taken a i frame ∷ []) pages.items) k (slice_get l.taken.items k)) l.a
