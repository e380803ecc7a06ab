-- Things that are declared stand under their names: each is spelled as a name, and is found under it by its number.
use Rattle.std.proofs.Common.{◌≡◌, ◌⊎◌, ℕ, zero, suc, ◌+◌, ◌<◌, Bool, true, false, cond, List, [], ◌∷◌, ◌++◌, length, slice_get, refl, sym, ap, subst, ◌∙◌, Option, Some, None, inl, inr, arith}
use Rattle.std.specs.Prelude.{bytes_eq}
use Rattle.std.proofs.lemmas.List.{length_push}
use Rattle.std.proofs.lemmas.Cmp.{nat_list_eq_equiv}
use Rattle.gup_spec_grammar.specs.Names.{NamedEntry, find, declared}
use Rattle.gup_spec_grammar.specs.declared.named.Named.{Named}
use Rattle.gup_spec_grammar.specs.Said.{Word}
use Rattle.gup_spec_grammar.specs.Spelling.{IsName}

-- ---- look-up

still : (b : Bool) (x : Named) (o p : Option Named) (what : Named) → (o ≡ Some what → p ≡ Some what) → cond b (Some x) o ≡ Some what → cond b (Some x) p ≡ Some what
still true x o p what rest e = e
still false x o p what rest e = rest e

-- what was found is found still behind one more declaration
pub found_still : (es : List NamedEntry) (new word : Word) (x what : Named) → find es word ≡ Some what → find (declared es new x) word ≡ Some what
found_still [] new word x what e = absurd cc
found_still (entry ∷ es) new word x what e =
    still (bytes_eq entry.name word) entry.named (find es word) (find (declared es new x) word) what (found_still es new word x what) e

anew : (b : Bool) (x y : Named) (o p : Option Named) → (o ≡ None → p ≡ Some y) → cond b (Some x) o ≡ None → cond b (Some x) p ≡ Some y
anew true x y o p rest e = absurd cc
anew false x y o p rest e = rest e

-- what was declared now is found, since its name was unused
pub found_anew : (es : List NamedEntry) (name : Word) (x : Named) → find es name ≡ None → find (declared es name x) name ≡ Some x
found_anew [] name x e = ap (λ b. cond b (Some x) None) (nat_list_eq_equiv.refl name)
found_anew (entry ∷ es) name x e =
    anew (bytes_eq entry.name name) entry.named x (find es name) (find (declared es name x) name) (found_anew es name x) e

-- ---- the element behind a list, and those in it

pub at_end : {X : Type 0} (xs : List X) (y : X) → slice_get (xs ++ y ∷ []) (length xs) ≡ Some y
at_end [] y = refl
at_end (x ∷ xs) y = at_end xs y

pub at_front : {X : Type 0} (xs : List X) (y : X) (k : ℕ) → k < length xs → slice_get (xs ++ y ∷ []) k ≡ slice_get xs k
at_front [] y k lt = absurd (omega arith)
at_front (x ∷ xs) y zero lt = refl
at_front (x ∷ xs) y (suc k) lt = at_front xs y k (omega arith)

-- ---- names

-- the name is one, and is found as a thing of this number
pub record IsFoundAt (names : List NamedEntry) (Is : ℕ → Named → Type 0) (k : ℕ) (name : Word) : Type 0 where
  pub spelled : IsName name
  pub named : Named
  pub found : find names name ≡ Some named
  pub is : Is k named

-- things in a list stand under their names
abbrev pub Stand : {X : Type 0} → List NamedEntry → (ℕ → Named → Type 0) → (Option X → Word) → List X → Type 0
Stand names Is name_of xs = (k : ℕ) → k < length xs → IsFoundAt names Is k (name_of (slice_get xs k))

pub stand_still : {X : Type 0} (names : List NamedEntry) (new : Word) (x : Named) (Is : ℕ → Named → Type 0) (name_of : Option X → Word) (xs : List X) → Stand names Is name_of xs → Stand (declared names new x) Is name_of xs
stand_still names new x Is name_of xs h = λ k lt. let old = h k lt in record {
  spelled = old.spelled;
  named = old.named;
  found = found_still names new (name_of (slice_get xs k)) x old.named old.found;
  is = old.is;
}

same_or_below : (k n : ℕ) → k < n + 1 → (k ≡ n) ⊎ (k < n)
same_or_below k n lt = grind arith

-- one more thing, by a name that was unused
pub stand_more : {X : Type 0} (names : List NamedEntry) (new : Word) (x : Named) (Is : ℕ → Named → Type 0) (name_of : Option X → Word) (xs : List X) (y : X) → Stand names Is name_of xs → IsName new → find names new ≡ None → name_of (Some y) ≡ new → Is (length xs) x → Stand (declared names new x) Is name_of (xs ++ y ∷ [])
stand_more names new x Is name_of xs y h spelled unused named is = λ k lt. way k (same_or_below k (length xs) (subst (λ n. k < n) (length_push xs y) lt)) where
  next : List NamedEntry
  next = declared names new x

  here : IsFoundAt (declared names new x) Is (length xs) new
  here = record { spelled = spelled; named = x; found = found_anew names new x unused; is = is }

  way : (k : ℕ) → (k ≡ length xs) ⊎ (k < length xs) → IsFoundAt (declared names new x) Is k (name_of (slice_get (xs ++ y ∷ []) k))
  way k (inl last) =
      let name : new ≡ name_of (slice_get (xs ++ y ∷ []) (length xs)) = sym (ap name_of (at_end xs y) ∙ named) in
      subst (λ n. IsFoundAt (declared names new x) Is n (name_of (slice_get (xs ++ y ∷ []) n))) (sym last) (subst (IsFoundAt (declared names new x) Is (length xs)) name here)
  way k (inr lt) =
      subst (λ o. IsFoundAt (declared names new x) Is k (name_of o)) (sym (at_front xs y k lt)) (stand_still names new x Is name_of xs h k lt)

-- two things of one name are one
pub stand_once : {X : Type 0} (names : List NamedEntry) (Is : ℕ → Named → Type 0) (name_of : Option X → Word) (xs : List X) → Stand names Is name_of xs → ((j k : ℕ) (x : Named) → Is j x → Is k x → j ≡ k) → (j k : ℕ) → j < length xs → k < length xs → name_of (slice_get xs j) ≡ name_of (slice_get xs k) → j ≡ k
stand_once names Is name_of xs h one j k below under same =
    let a = h j below in
    let b = h k under in
    let found : Some a.named ≡ Some b.named = sym a.found ∙ ap (find names) same ∙ b.found in
    let named : a.named ≡ b.named = cc in
    one j k a.named a.is (subst (Is k) (sym named) b.is)
