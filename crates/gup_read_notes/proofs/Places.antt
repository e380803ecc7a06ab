-- The place of a name in a list of names.
use Rattle.std.proofs.Common.{◌≡◌, ℕ, suc, ◌+◌, ◌<◌, ◌≤◌, ◌||◌, not, Bool, true, false, cond, ltb, List, [], ◌∷◌, ◌++◌, length, map, take, get_or, slice_get, Some, None, refl, sym, ap, ap₂, ◌∙◌, add-one, arith}
use Rattle.std.specs.Prelude.{String, string_bytes, position}
use Rattle.std.specs.List.{position_or_len, list_any}
use Rattle.std.specs.Str.{bytes_eq}
use Rattle.std.specs.String.{string_eq}
use Rattle.std.proofs.lemmas.Bool.{ltb-false, lt-ltb, le-ltb}
use Rattle.std.proofs.lemmas.List.{length-map, map-append, get_or-take, length-take}
use Rattle.std.proofs.lemmas.List.Quantifiers.{position-Some}
use Rattle.std.proofs.Math.Seq.{take-suc}
use Rattle.std.proofs.lemmas.List.Sums.{position_or_len_is}
use Rattle.std.proofs.lemmas.Option.{slice_get_within, slice_get-get_or, get_or_from_slice_get}
use Rattle.std.proofs.lemmas.Slice.Eq.{bytes_eq-Decides}
use Rattle.indexmap.specs.IndexSet.{insert_key}
use Rattle.gup_spec_grammar.specs.Said.{Word as Letters}
use Rattle.gup_read_notes.specs.Names.{place_of}

-- ---- in a set of texts

mapped : {X : Type 0} (test : Letters → Bool) (f : X → Letters) (xs : List X) → position_or_len test (map f xs) ≡ position_or_len (λ (x : X). test (f x)) xs
mapped test f [] = refl
mapped test f (x ∷ xs) = ap (λ n. cond (not (test (f x))) (1 + n) 0) (mapped test f xs)

pub looked_up : {A : Type 0} (keys : List (String A)) (name : Letters) → position (λ k. bytes_eq name (string_bytes k)) keys ≡ place_of (map string_bytes keys) name
unfolding place_of
looked_up keys name =
    ap₂ (λ n l. cond (ltb n l) (Some n) None) (sym (mapped (bytes_eq name) string_bytes keys)) (sym (length-map keys string_bytes))

none_any : {X : Type 0} (test : X → Bool) (xs : List X) → length xs ≤ position_or_len test xs → list_any test xs ≡ false
none_any test [] past = refl
none_any test (x ∷ xs) past = way (test x) past (none_any test xs) where
  way : (b : Bool) → suc (length xs) ≤ cond (not b) (1 + position_or_len test xs) 0 → (length xs ≤ position_or_len test xs → list_any test xs ≡ false) → (b || list_any test xs) ≡ false
  way true p rest = absurd (omega arith)
  way false p rest = rest (omega arith)

-- ---- what a place says of a name

module _ (names : List Letters) (name : Letters) where
  abbrev Same : ℕ → Type 0
  Same k = slice_get names k ≡ Some name

  at_place : (k : ℕ) → k < length names → bytes_eq name (get_or names k []) ≡ true → Same k
  at_place k lt e =
      let same : name ≡ get_or names k [] = (bytes_eq-Decides name (get_or names k [])).0 e in
      slice_get-get_or names k [] lt ∙ ap (λ (w : Letters). Some w) (sym same)

  same_at : (k : ℕ) → Same k → bytes_eq name (get_or names k []) ≡ true
  same_at k e = (bytes_eq-Decides name (get_or names k [])).1 (sym (get_or_from_slice_get names k name [] e))

  other_at : (k : ℕ) → k < length names → (Same k → ⊥) → bytes_eq name (get_or names k []) ≡ false
  other_at k lt other = way (bytes_eq name (get_or names k [])) refl where
    way : (b : Bool) → bytes_eq name (get_or names k []) ≡ b → b ≡ false
    way true e = absurd (other (at_place k lt e))
    way false e = refl

  pub place_found : (n : ℕ) → place_of names name ≡ Some n → Same n
  unfolding place_of
  place_found n e = let p = position-Some (bytes_eq name) names n [] e in at_place n p.0 p.1

  pub place_read : (n : ℕ) → Same n → ((k : ℕ) → k < n → Same k → ⊥) → place_of names name ≡ Some n
  unfolding place_of
  place_read n here before =
      let lt = slice_get_within names n name here in
      let at : position_or_len (bytes_eq name) names ≡ n =
      position_or_len_is (bytes_eq name) names n [] (omega arith) (λ k h. other_at k (omega arith) (before k h)) (λ h. same_at n here) in
      rw (at, lt-ltb n (length names) lt) refl

  pub place_none : ((k : ℕ) → Same k → ⊥) → place_of names name ≡ None
  unfolding place_of
  place_none none =
      let at : position_or_len (bytes_eq name) names ≡ length names =
      position_or_len_is (bytes_eq name) names (length names) [] (omega arith) (λ k h. other_at k h (none k)) (λ h. absurd (omega arith)) in
      rw (at, le-ltb (length names) (length names) (omega arith)) refl

past_all : (test : Letters → Bool) (names : List Letters) → position test names ≡ None → length names ≤ position_or_len test names
past_all test names e = way (ltb (position_or_len test names) (length names)) refl e where
  way : (b : Bool) → ltb (position_or_len test names) (length names) ≡ b → cond b (Some (position_or_len test names)) None ≡ None → length names ≤ position_or_len test names
  way true t e = absurd cc
  way false t e = ltb-false _ _ t

pub put_in : {A : Type 0} (keys : List (String A)) (key : String A) (name : Letters) → string_bytes key ≡ name → place_of (map string_bytes keys) name ≡ None → map string_bytes (insert_key string_eq keys key) ≡ map string_bytes keys ++ name ∷ []
unfolding place_of
put_in keys key name spelled none =
    let past = past_all (bytes_eq name) (map string_bytes keys) none in
    let absent : list_any (λ k. bytes_eq name (string_bytes k)) keys ≡ false =
    none_any (λ k. bytes_eq name (string_bytes k)) keys (omega (arith, mapped (bytes_eq name) string_bytes keys, length-map keys string_bytes)) in
    let here : list_any (string_eq key) keys ≡ false = ap (λ (w : Letters). list_any (λ k. bytes_eq w (string_bytes k)) keys) spelled ∙ absent in
    ap (λ b. map string_bytes (cond b keys (keys ++ key ∷ []))) here ∙ map-append string_bytes keys (key ∷ []) ∙ ap (λ (w : Letters). map string_bytes keys ++ w ∷ []) spelled

-- ---- names that are apart

-- no two places have one name
pub record AreApart (names : List Letters) : Type 0 where
  pub one : (j k : ℕ) (name : Letters) → slice_get names j ≡ Some name → slice_get names k ≡ Some name → j ≡ k

pub apart_read : (names : List Letters) (name : Letters) (n : ℕ) → AreApart names → slice_get names n ≡ Some name → place_of names name ≡ Some n
apart_read names name n apart here = place_read names name n here (λ k lt e. let same = apart.one k n name e here in absurd (omega arith))

-- a name is none of those before it
pub new_name : (names : List Letters) (name : Letters) (n : ℕ) → AreApart names → slice_get names n ≡ Some name → place_of (take n names) name ≡ None
new_name names name n apart here =
    place_none (take n names) name (λ k e.
    let lt : k < n = (let within = slice_get_within (take n names) k name e in omega (arith, length-take n names)) in
    let whole : slice_get names k ≡ Some name =
    slice_get-get_or names k [] (let within = slice_get_within names n name here in omega arith)
    ∙ ap (λ (w : Letters). Some w) (sym (get_or-take n names k [] lt) ∙ get_or_from_slice_get (take n names) k name [] e) in
    let same = apart.one k n name whole here in
    absurd (omega arith))

-- and stands behind them
pub name_more : (names : List Letters) (name : Letters) (n : ℕ) → slice_get names n ≡ Some name → take n names ++ name ∷ [] ≡ take (n + 1) names
name_more names name n here =
    let within = slice_get_within names n name here in
    ap (λ (w : Letters). take n names ++ w ∷ []) (sym (get_or_from_slice_get names n name [] here))
    ∙ sym (take-suc names n [] within) ∙ rw add-one refl
