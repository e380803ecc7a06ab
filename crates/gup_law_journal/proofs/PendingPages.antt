-- The pages that a pin's walk has taken, as the plain state has them: the first one, and what is left where one is dropped.
use Rattle.std.proofs.Common.{◌≡◌, ℕ, ◌+◌, ◌<◌, ◌==◌, not, true, false, cond, List, [], ◌∷◌, length, refl, ap, ◌∙◌, suc, arith}
use Rattle.std.specs.List.{filter}
use Rattle.std.proofs.lemmas.Bool.Decides.{nat_tests}
use Rattle.gup_plain.specs.Event.{happened}
use Rattle.gup_plain.specs.State.{PlainState, Pending}
use Rattle.gup_plain.specs.declared.event.PlainEvent.TheVariants as events
use Rattle.gup_spec_journal.specs.Plain.{pages_got}
use Rattle.gup_law_turns.proofs.Puts.{put_same}
use Rattle.gup_law_turns.proofs.TurnShapes.{AreFrom}

-- the page of the first one, or 0
abbrev pub first_page : List Pending → ℕ
first_page [] = 0
first_page (t ∷ ts) = t.page

abbrev pub first_pending : PlainState → (a : ℕ) → ℕ
first_pending s a = first_page (s.pending a)

-- all but those of this page
abbrev other_pages : ℕ → List Pending → List Pending
other_pages page ts = filter (λ (t : Pending). not (t.page == page)) ts

differs : (m n : ℕ) → (m ≡ n → ⊥) → not (m == n) ≡ true
differs m n apart = grind (arith, nat_tests)

matches : (m n : ℕ) → m ≡ n → not (m == n) ≡ false
matches m n same = grind (arith, nat_tests)

stays : (page : ℕ) (t : Pending) (ts : List Pending) → (t.page ≡ page → ⊥) → other_pages page (t ∷ ts) ≡ t ∷ other_pages page ts
stays page t ts apart =
    let us : List Pending = other_pages page ts in
    ap (λ b. cond b (t ∷ us) us) (differs t.page page apart)

goes : (page : ℕ) (t : Pending) (ts : List Pending) → t.page ≡ page → other_pages page (t ∷ ts) ≡ other_pages page ts
goes page t ts same =
    let us : List Pending = other_pages page ts in
    ap (λ b. cond b (t ∷ us) us) (matches t.page page same)

-- those after the first
rest_from : (page : ℕ) (t : Pending) (ts : List Pending) → AreFrom page (t ∷ ts) → AreFrom (page + 1) ts
rest_from page t ts are =
    λ k u is. let there : u.page ≡ page + suc k = are (suc k) u is in omega (arith, there)

first_is : (page : ℕ) (t : Pending) (ts : List Pending) → AreFrom page (t ∷ ts) → t.page ≡ page
first_is page t ts are = let there : t.page ≡ page + 0 = are 0 t refl in omega (arith, there)

pub starts_at : (page : ℕ) (ts : List Pending) → 0 < length ts → AreFrom page ts → first_page ts ≡ page
starts_at page [] some are = absurd (omega (arith, some))
starts_at page (t ∷ ts) some are = first_is page t ts are

-- a page before them all isn't one of them
all_stay : (page from : ℕ) (ts : List Pending) → page < from → AreFrom from ts → other_pages page ts ≡ ts
all_stay page from [] less are = refl
all_stay page from (t ∷ ts) less are =
    let here = first_is from t ts are in
    stays page t ts (λ same. omega (arith, here, less, same)) ∙ ap (λ (us : List Pending). t ∷ us) (all_stay page (from + 1) ts (omega (arith, less)) (rest_from from t ts are))

-- the first one is dropped
first_goes : (page : ℕ) (t : Pending) (ts : List Pending) → AreFrom page (t ∷ ts) → other_pages page (t ∷ ts) ≡ ts
first_goes page t ts are =
    goes page t ts (first_is page t ts are) ∙ all_stay page (page + 1) ts (omega arith) (rest_from page t ts are)

-- the last one is
last_goes : (page from : ℕ) (ts : List Pending) → 0 < length ts → page + 1 ≡ from + length ts → AreFrom from ts → length (other_pages page ts) + 1 ≡ length ts
last_goes page from [] some is are = absurd (omega (arith, some))
last_goes page from (t ∷ []) some is are =
    let here = first_is from t [] are in
    let one : page + 1 ≡ from + 1 = is in
    ap (λ (us : List Pending). length us + 1) (goes page t [] (omega (arith, here, one)))
last_goes page from (t ∷ u ∷ ts) some is are =
    let here = first_is from t (u ∷ ts) are in
    let many : length (t ∷ u ∷ ts) ≡ length (u ∷ ts) + 1 = omega arith in
    let less = last_goes page (from + 1) (u ∷ ts) (omega arith) (omega (arith, is, many)) (rest_from from t (u ∷ ts) are) in
    let apart : t.page ≡ page → ⊥ = λ same. (let more : length (u ∷ ts) ≡ length ts + 1 = omega arith in omega (arith, here, is, many, same, more)) in
    let kept : length (other_pages page (t ∷ u ∷ ts)) ≡ length (other_pages page (u ∷ ts)) + 1 = ap (λ (us : List Pending). length us) (stays page t (u ∷ ts) apart) ∙ (omega arith) in
    omega (arith, kept, less, many)

-- what a drop leaves pending
module _ (s : PlainState) (a g : ℕ) where
  dropped : (happened s (events.PinDrop a g)).pending a ≡ other_pages g (s.pending a)
  dropped = put_same a (other_pages g (s.pending a)) s.pending

  pub drops_last : (page : ℕ) → 0 < pages_got s a → g + 1 ≡ page + pages_got s a → AreFrom page (s.pending a) → pages_got (happened s (events.PinDrop a g)) a + 1 ≡ pages_got s a
  drops_last page some is are =
      ap (λ (us : List Pending). length us + 1) dropped ∙ last_goes g page (s.pending a) some is are

  drops_from : (ts : List Pending) → 0 < length ts → AreFrom g ts → (length (other_pages g ts) + 1 ≡ length ts) × (1 < length ts → first_page (other_pages g ts) ≡ g + 1)
  drops_from [] some are = absurd (omega (arith, some))
  drops_from (t ∷ ts) some are =
      let left = first_goes g t ts are in (
        ap (λ (us : List Pending). length us + 1) left ∙ (omega arith),
        (λ more. ap first_page left ∙ starts_at (g + 1) ts (let many : length (t ∷ ts) ≡ length ts + 1 = omega arith in omega (arith, more, many)) (rest_from g t ts are)),
      )

  pub drops_first : 0 < pages_got s a → AreFrom g (s.pending a) → (pages_got (happened s (events.PinDrop a g)) a + 1 ≡ pages_got s a) × (1 < pages_got s a → first_pending (happened s (events.PinDrop a g)) a ≡ g + 1)
  drops_first some are =
      let left = drops_from (s.pending a) some are in
      (ap (λ (us : List Pending). length us + 1) dropped ∙ left.0, (λ more. ap first_page dropped ∙ left.1 more))
