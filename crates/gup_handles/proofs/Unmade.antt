-- Lists of unmade handles.
use Rattle.std.proofs.Common.{◌≡◌, ℕ, zero, suc, List, [], ◌∷◌, ◌++◌, get_or, refl, ap, ◌∙◌, arith}
use Rattle.std.proofs.Math.Path.{fun_ext}
use Rattle.std.proofs.lemmas.Bool.Decides.{nat_tests}
use Rattle.gup_plain.specs.Put.{put}
use Rattle.gup_handles.specs.Handles.{HandleValue, unmade, handles_of}

one_more : (handles : List HandleValue) (h : ℕ) → get_or handles h unmade ≡ unmade → get_or (handles ++ unmade ∷ []) h unmade ≡ unmade
one_more [] zero is = refl
one_more [] (suc h) is = refl
one_more (x ∷ handles) zero is = is
one_more (x ∷ handles) (suc h) is = one_more handles h is

-- one more unmade handle at the end
pub still_unmade : (handles : List HandleValue) (x : HandleValue) → x ≡ unmade → handles_of handles ≡ (λ _. unmade) → handles_of (handles ++ x ∷ []) ≡ (λ _. unmade)
still_unmade handles x is so_far =
    rw is (fun_ext (λ h. one_more handles h (ap (λ f. f h) so_far)))

other_at : (handles : ℕ → HandleValue) (h other : ℕ) (v : HandleValue) → (other ≡ h → ⊥) → handles other ≡ unmade → put h v handles other ≡ unmade
other_at handles h other v apart is = grind (arith, nat_tests)

-- one handle of unmade ones is made, and another isn't
pub other_unmade : (before after : ℕ → HandleValue) (h : ℕ) (v : HandleValue) (other : ℕ) → after ≡ put h v before → (other ≡ h → ⊥) → before ≡ (λ _. unmade) → after other ≡ unmade
other_unmade before after h v other made apart unmade_before =
    ap (λ (f : ℕ → HandleValue). f other) made
    ∙ other_at before h other v apart (ap (λ (f : ℕ → HandleValue). f other) unmade_before)
