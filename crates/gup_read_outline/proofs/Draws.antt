-- The turns that are drawn, one after another.
use Rattle.std.proofs.Common.{◌≡◌, ℕ, zero, suc, ◌+◌, ◌∷◌, ap, arith}
use Rattle.gup_spec_grammar.specs.Outline.{next_state, drawn, draws}

pub draws_more : (n k below x : ℕ) → n ≡ k + 1 → draws n below x ≡ drawn below (next_state x) ∷ draws k below (next_state x)
draws_more zero k below x h = absurd (omega arith)
draws_more (suc n) k below x h =
    let same : n ≡ k = omega arith in
    ap (λ j. drawn below (next_state x) ∷ draws j below (next_state x)) same
