-- What one changed process is to all of them.
use Rattle.std.proofs.Common.{◌≡◌, ℕ, ◌<◌, Bool, List, Option, None, IsSome, length, get_or, slice_set, refl, sym, subst, ◌∙◌, ap, arith}
use Rattle.std.proofs.lemmas.Bool.Decides.{nat_tests}
use Rattle.std.specs.BTreeMap.{get}
use Rattle.std.specs.Ordering.{nat_cmp}
use Rattle.gup_plain.specs.Put.{put, put2}
use Rattle.gup_plain.specs.State.{Birth}
use Rattle.gup_exec_parts.specs.declared.space.Space.{Space}
use Rattle.gup_exec_parts.specs.Space.{SpaceState, seen, blank}
use Rattle.gup_exec_parts.proofs.TableLemmas.{place_put, place_is, put_same}
use Rattle.gup_exec_parts.specs.Tables.{at_place}
use Rattle.gup_exec_rows.proofs.RowLemmas.{through_put, through_put2}

abbrev spaces : List Space → ℕ → SpaceState
spaces items = at_place seen blank items

-- the process with this number is at this index, and is so
pub record AtProc (items : List Space) (p i : ℕ) (was : Space) : Type 0 where
  pub index : i ≡ p
  pub below : p < length items
  pub is : was ≡ get_or items i was

pub was_seen : (items : List Space) (p i : ℕ) (was : Space) → AtProc items p i was → spaces items p ≡ seen was
was_seen items p i was at = place_is seen blank items p i was at.index at.below at.is

pub births_put : (items : List Space) (p i : ℕ) (was x : Space) (b : Birth) → AtProc items p i was → (seen x).birth ≡ b
    → (λ q. (spaces (slice_set items i x) q).birth) ≡ put p b (λ q. (spaces items q).birth)
births_put items p i was x b at is =
    ap (λ (f : ℕ → SpaceState). λ q. (f q).birth) (place_put seen blank items p i x at.index at.below)
    ∙ through_put (λ (s : SpaceState). s.birth) p (seen x) (spaces items) b is

pub births_kept : (items : List Space) (p i : ℕ) (was x : Space) → AtProc items p i was → (seen x).birth ≡ (seen was).birth
    → ◌≡◌ {A = ℕ → Birth} (λ q. (spaces (slice_set items i x) q).birth) (λ q. (spaces items q).birth)
births_kept items p i was x at is =
    let same : (seen x).birth ≡ (spaces items p).birth = is ∙ ap (λ (s : SpaceState). s.birth) (sym (was_seen items p i was at)) in
    births_put items p i was x ((spaces items p).birth) at same ∙ put_same p (λ q. (spaces items q).birth) ((spaces items p).birth) refl

pub copies_put : (items : List Space) (p i : ℕ) (was x : Space) (c : ℕ → ℕ → Bool) → AtProc items p i was → (seen x).copied ≡ c
    → (λ q. (spaces (slice_set items i x) q).copied) ≡ put p c (λ q. (spaces items q).copied)
copies_put items p i was x c at is =
    ap (λ (f : ℕ → SpaceState). λ q. (f q).copied) (place_put seen blank items p i x at.index at.below)
    ∙ through_put (λ (s : SpaceState). s.copied) p (seen x) (spaces items) c is

pub copies_kept : (items : List Space) (p i : ℕ) (was x : Space) → AtProc items p i was → (seen x).copied ≡ (seen was).copied
    → ◌≡◌ {A = ℕ → ℕ → ℕ → Bool} (λ q. (spaces (slice_set items i x) q).copied) (λ q. (spaces items q).copied)
copies_kept items p i was x at is =
    let same : (seen x).copied ≡ (spaces items p).copied = is ∙ ap (λ (s : SpaceState). s.copied) (sym (was_seen items p i was at)) in
    copies_put items p i was x ((spaces items p).copied) at same ∙ put_same p (λ q. (spaces items q).copied) ((spaces items p).copied) refl

pub copies_put2 : (items : List Space) (p i page : ℕ) (was x : Space) (c : (ℕ → Bool) → ℕ → Bool) → AtProc items p i was
    → (seen x).copied ≡ put page (c ((seen was).copied page)) (seen was).copied
    → (λ q. (spaces (slice_set items i x) q).copied) ≡ put2 p page (c ((spaces items p).copied page)) (λ q. (spaces items q).copied)
copies_put2 items p i page was x c at is =
    let moved : (seen x).copied ≡ put page (c ((spaces items p).copied page)) (spaces items p).copied =
    is ∙ ap (λ (s : SpaceState). put page (c (s.copied page)) s.copied) (sym (was_seen items p i was at)) in
    ap (λ (f : ℕ → SpaceState). λ q. (f q).copied) (place_put seen blank items p i x at.index at.below)
    ∙ through_put2 (λ (s : SpaceState). s.copied) p (seen x) (spaces items) page (c ((spaces items p).copied page)) moved

abbrev room_in : (page : ℕ) → List Space → ℕ → Type 0
room_in page items p = IsSome (at_place (λ (s : Space). get nat_cmp s.copied page) None items p)

pub has_room : (items : List Space) (p i page : ℕ) (was : Space) → AtProc items p i was → room_in page items p → IsSome (get nat_cmp was.copied page)
has_room items p i page was at room =
    let P : Option _ → Type 0 = λ o. IsSome o in
    subst P (place_is (λ (s : Space). get nat_cmp s.copied page) None items p i was at.index at.below at.is) room

same-place : (k : ℕ) (x : Option (List Bool)) (f : ℕ → Option (List Bool)) → put k x f k ≡ x
same-place k x f = grind (arith, nat_tests)

pub gets_room : (items : List Space) (p i page : ℕ) (was x : Space) → AtProc items p i was → IsSome (get nat_cmp x.copied page) → room_in page (slice_set items i x) p
gets_room items p i page was x at there =
    let P : Option (List Bool) → Type 0 = λ o. IsSome o in
    let here = ap (λ (f : ℕ → Option (List Bool)). f p) (place_put (λ (s : Space). get nat_cmp s.copied page) None items p i x at.index at.below) in
    subst P (sym (here ∙ same-place p (get nat_cmp x.copied page) (at_place (λ (s : Space). get nat_cmp s.copied page) None items))) there
