-- What the plain state says of a page that a walk drops: it was pending, and all others stay so.
use Rattle.std.proofs.Common.{◌≡◌, ℕ, ◌==◌, true, false, List, [], ◌∷◌, ◌++◌, map, suc, cond, refl, ap, sym, ◌∙◌, arith}
use Rattle.std.specs.Prelude.{Some, not, slice_get, Contains}
use Rattle.std.specs.List.{filter}
use Rattle.std.proofs.lemmas.Bool.Decides.{nat_tests}
use Rattle.std.proofs.lemmas.List.{map-append, append-nil}
use Rattle.std.proofs.lemmas.List.Elements.{filter-append}
use Rattle.gup_plain.specs.Put.{put}
use Rattle.gup_plain.specs.State.{Pending}
use Rattle.gup_plain.specs.Event.{pending_pages}
use Rattle.gup_spec_events.specs.State.{CoreState, Taken, plain_of, pending_of}
use Rattle.gup_law_base.proofs.Rows.{at_contains, mapped_at}
use Rattle.gup_law_base.proofs.PinLists.{put_mapped}

-- a page that was taken is pending
pub told_contains : (ts : List Taken) (k : ℕ) (t : Taken) → slice_get ts k ≡ Some t → Contains (pending_pages (map pending_of ts)) t.page
told_contains ts k t is =
    at_contains (pending_pages (map pending_of ts)) k t.page (mapped_at (λ (u : Pending). u.page) (map pending_of ts) k (pending_of t) (mapped_at pending_of ts k t is))

abbrev pub other_pages : ℕ → List Pending → List Pending
other_pages page us = filter (λ (t : Pending). not (t.page == page)) us

differs : (m n : ℕ) → (m ≡ n → ⊥) → not (m == n) ≡ true
differs m n apart = grind (arith, nat_tests)

matches : (n : ℕ) → not (n == n) ≡ false
matches n = grind (arith, nat_tests)

-- all stay that have another page
stay : (page : ℕ) (ts : List Taken) → ((k : ℕ) (t : Taken) → slice_get ts k ≡ Some t → t.page ≡ page → ⊥) → other_pages page (map pending_of ts) ≡ map pending_of ts
stay page [] apart = refl
stay page (x ∷ xs) apart =
    let us : List Pending = other_pages page (map pending_of xs) in
    ap (λ b. cond b (pending_of x ∷ us) us) (differs x.page page (apart 0 x refl)) ∙ ap (λ (ys : List Pending). pending_of x ∷ ys) (stay page xs (λ k t is. apart (suc k) t is))

-- the page goes
goes : (t : Taken) (us : List Pending) → other_pages t.page (pending_of t ∷ us) ≡ other_pages t.page us
goes t us =
    ap (λ b. cond b (pending_of t ∷ other_pages t.page us) (other_pages t.page us)) (matches t.page)

module _ (left : List Taken) (t : Taken) (ts : List Taken) where
  pub told_first : ts ≡ t ∷ left → ((k : ℕ) (u : Taken) → slice_get left k ≡ Some u → u.page ≡ t.page → ⊥) → other_pages t.page (map pending_of ts) ≡ map pending_of left
  told_first had apart =
      ap (λ (us : List Taken). other_pages t.page (map pending_of us)) had ∙ (goes t (map pending_of left) ∙ stay t.page left apart)

  pub told_last : ts ≡ left ++ t ∷ [] → ((k : ℕ) (u : Taken) → slice_get left k ≡ Some u → u.page ≡ t.page → ⊥) → other_pages t.page (map pending_of ts) ≡ map pending_of left
  told_last had apart =
      let us : List Pending = map pending_of left in
      let whole : other_pages t.page (map pending_of ts) ≡ other_pages t.page (us ++ pending_of t ∷ []) = ap (λ (xs : List Taken). other_pages t.page (map pending_of xs)) had ∙ ap (other_pages t.page) (map-append pending_of left (t ∷ [])) in
      let parts : other_pages t.page (us ++ pending_of t ∷ []) ≡ other_pages t.page us ++ other_pages t.page (pending_of t ∷ []) = filter-append (λ (u : Pending). not (u.page == t.page)) us (pending_of t ∷ []) in
      let kept : other_pages t.page us ++ other_pages t.page (pending_of t ∷ []) ≡ us ++ [] = ap (λ (xs : List Pending). other_pages t.page us ++ xs) (goes t []) ∙ ap (λ (xs : List Pending). xs ++ []) (stay t.page left apart) in
      whole ∙ (parts ∙ (kept ∙ append-nil us))

-- the plain state after
pub told_less : (s : CoreState) (a : ℕ) (left : List Taken) (page : ℕ) → other_pages page (map pending_of (s.taken a)) ≡ map pending_of left → plain_of (record s { taken = put a left s.taken }) ≡ record (plain_of s) { pending = put a (other_pages page (map pending_of (s.taken a))) (λ b. map pending_of (s.taken b)) }
told_less s a left page all =
    let at = λ (b : ℕ). put_mapped (map pending_of) a left s.taken b ∙ ap (λ (x : List Pending). put a x (λ c. map pending_of (s.taken c)) b) (sym all) in
    let pending : (λ b. map pending_of (put a left s.taken b)) ≡ put a (other_pages page (map pending_of (s.taken a))) (λ b. map pending_of (s.taken b)) = λ i b. at b i in
    ap (λ (x : ℕ → List Pending). record (plain_of s) { pending = x }) pending
