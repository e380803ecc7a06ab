-- The numbers of one process changed, in those of all.
use Rattle.std.proofs.Common.{◌≡◌, ℕ, ◌<◌, List, length, get_or, slice_set, Result, Ok, Err, OnOk, sym, ◌∙◌, ap}
use Rattle.std.specs.BTreeMap.{BTreeMap}
use Rattle.gup_plain.specs.Put.{put}
use Rattle.gup_exec_parts.specs.Tables.{at_place}
use Rattle.gup_exec_parts.proofs.TableLemmas.{place_put, place_is}
use Rattle.gup_check_pages.specs.Mapped.{number_in}

-- what is so of an `Ok`, by what else is
pub on_ok : {T E P Q : Type 0} (r : Result T E) → (P → Q) → OnOk r P → OnOk r Q
on_ok (Ok x) so is = so is
on_ok (Err e) so is = tt

-- the numbers of process p become those that `change` makes of them
pub numbers_put : (spaces : List (BTreeMap ℕ ℕ)) (p index : ℕ) (old new : BTreeMap ℕ ℕ) (change : (ℕ → ℕ) → ℕ → ℕ) → index ≡ p → p < length spaces → old ≡ get_or spaces index old → number_in new ≡ change (number_in old) → at_place number_in (λ _. 0) (slice_set spaces index new) ≡ put p (change (at_place number_in (λ _. 0) spaces p)) (at_place number_in (λ _. 0) spaces)
numbers_put spaces p index old new change at within was changed =
    let there : at_place number_in (λ _. 0) spaces p ≡ number_in old = place_is number_in (λ _. 0) spaces p index old at within was in
    place_put number_in (λ _. 0) spaces p index new at within
    ∙ ap (λ (f : ℕ → ℕ). put p f (at_place number_in (λ _. 0) spaces)) (changed ∙ ap change (sym there))
