-- Which words ask what.
use Rattle.std.proofs.Common.{◌≡◌, ℕ, ◌<◌, ◌≤◌, Bool, true, false, List, [], ◌∷◌, ◌++◌, Option, Some, None, map, length, get_or, refl, sym, ap, ap₂, ◌∙◌, arith, inl, inr}
use Rattle.std.specs.Prelude.{codes, decimal, IfSome}
use Rattle.std.specs.Str.{bytes_eq}
use Rattle.std.proofs.lemmas.Slice.Eq.{bytes_eq-Decides}
use Rattle.std.proofs.lemmas.Fmt.{decimal_injective}
use Rattle.gup_read_words.specs.Text.{number_in}
use Rattle.gup_read_words.proofs.SpelledNumbers.{decimal_read}
use Rattle.gup_spec_grammar.specs.Spelling.{IsNumber}
use Rattle.gup_orders.specs.Report.{IsAsked, IsLimited, behind_words}
use Rattle.gup_orders.specs.declared.command.Asked.{Asked}

-- lists of one, two and three

pub one_of : {X : Type 0} (f : X → List ℕ) (xs : List X) (x : X) → 1 ≤ length xs → length xs < 2 → x ≡ get_or xs 0 x → map f xs ≡ f x ∷ []
one_of f [] x some few is = absurd (omega arith)
one_of f (y ∷ []) x some few is = ap (λ z. f z ∷ []) (sym is)
one_of f (y ∷ z ∷ ys) x some few is = absurd (omega arith)

pub two_of : {X : Type 0} (f : X → List ℕ) (xs : List X) (x y : X) → 2 ≤ length xs → length xs < 3 → x ≡ get_or xs 0 x → y ≡ get_or xs 1 y → map f xs ≡ f x ∷ f y ∷ []
two_of f [] x y some few is next = absurd (omega arith)
two_of f (a ∷ []) x y some few is next = absurd (omega arith)
two_of f (a ∷ b ∷ []) x y some few is next = ap₂ (λ v w. f v ∷ f w ∷ []) (sym is) (sym next)
two_of f (a ∷ b ∷ c ∷ xs) x y some few is next = absurd (omega arith)

pub three_of : {X : Type 0} (f : X → List ℕ) (xs : List X) (x y z : X) → 3 ≤ length xs → length xs < 4 → x ≡ get_or xs 0 x → y ≡ get_or xs 1 y → z ≡ get_or xs 2 z → map f xs ≡ f x ∷ f y ∷ f z ∷ []
three_of f [] x y z some few is next last = absurd (omega arith)
three_of f (a ∷ []) x y z some few is next last = absurd (omega arith)
three_of f (a ∷ b ∷ []) x y z some few is next last = absurd (omega arith)
three_of f (a ∷ b ∷ c ∷ []) x y z some few is next last =
    ap₂ (λ v w. f v ∷ f w ∷ f c ∷ []) (sym is) (sym next) ∙ ap (λ v. f x ∷ f y ∷ f v ∷ []) (sym last)
three_of f (a ∷ b ∷ c ∷ d ∷ xs) x y z some few is next last = absurd (omega arith)

-- ---- numbers

pub no_number : (word : List ℕ) → number_in word ≡ None → (n : ℕ) → IsNumber word n → ⊥
no_number word unread n is = let read = sym unread ∙ ap number_in is.0 ∙ decimal_read n is.1 in absurd (cc)

-- ---- what is asked

pub asked_behind : (words : List (List ℕ)) (word : List ℕ) (behind : Bool) (limit : ℕ) → words ≡ word ∷ [] → bytes_eq word (codes "behind") ≡ true → behind ≡ true → limit ≡ 1000000 → IsAsked words behind limit
asked_behind words word behind limit are same is usual =
    inl (are ∙ ap (λ (w : List ℕ). w ∷ []) ((bytes_eq-Decides word (codes "behind")).0 same) ∙ ap behind_words (sym is), usual)

pub asked_limited : (words : List (List ℕ)) (behind : Bool) (word : List ℕ) (r : Option Asked) → words ≡ behind_words behind ++ codes "--limit" ∷ word ∷ [] → IsLimited behind word r → IfSome r (λ (asked : Asked). IsAsked words asked.behind asked.limit)
asked_limited words behind word None are is = tt
asked_limited words behind word (Some asked) are is =
    inr (are ∙ ap₂ (λ (b : Bool) (w : List ℕ). behind_words b ++ codes "--limit" ∷ w ∷ []) (sym is.0) is.1.0, is.1.1)

pub asked_from_start : (words : List (List ℕ)) (option limit : List ℕ) (r : Option Asked) → words ≡ option ∷ limit ∷ [] → bytes_eq option (codes "--limit") ≡ true → IsLimited false limit r → IfSome r (λ (asked : Asked). IsAsked words asked.behind asked.limit)
asked_from_start words option limit r are same is =
    asked_limited words false limit r (are ∙ ap (λ (w : List ℕ). w ∷ limit ∷ []) ((bytes_eq-Decides option (codes "--limit")).0 same)) is

pub asked_from_behind : (words : List (List ℕ)) (first option limit : List ℕ) (r : Option Asked) → words ≡ first ∷ option ∷ limit ∷ [] → bytes_eq first (codes "behind") ≡ true → bytes_eq option (codes "--limit") ≡ true → IsLimited true limit r → IfSome r (λ (asked : Asked). IsAsked words asked.behind asked.limit)
asked_from_behind words first option limit r are begins same is =
    asked_limited words true limit r (are ∙ ap₂ (λ (v w : List ℕ). v ∷ w ∷ limit ∷ []) ((bytes_eq-Decides first (codes "behind")).0 begins) ((bytes_eq-Decides option (codes "--limit")).0 same)) is

-- no words ask twice

pub one_asking : (words : List (List ℕ)) (b c : Bool) (n m : ℕ) → IsAsked words b n → IsAsked words c m → (b ≡ c) × (n ≡ m)
one_asking words false false n m (inl one) (inl two) = (refl, one.1 ∙ sym two.1)
one_asking words true true n m (inl one) (inl two) = (refl, one.1 ∙ sym two.1)
one_asking words false true n m (inl one) (inl two) = let e = sym one.0 ∙ two.0 in absurd (cc)
one_asking words true false n m (inl one) (inl two) = let e = sym one.0 ∙ two.0 in absurd (cc)
one_asking words false false n m (inl one) (inr two) = let e = sym one.0 ∙ two.0 in absurd (cc)
one_asking words false true n m (inl one) (inr two) = let e = sym one.0 ∙ two.0 in absurd (cc)
one_asking words true false n m (inl one) (inr two) = let e = sym one.0 ∙ two.0 in absurd (cc)
one_asking words true true n m (inl one) (inr two) = let e = sym one.0 ∙ two.0 in absurd (cc)
one_asking words false false n m (inr one) (inl two) = let e = sym one.0 ∙ two.0 in absurd (cc)
one_asking words false true n m (inr one) (inl two) = let e = sym one.0 ∙ two.0 in absurd (cc)
one_asking words true false n m (inr one) (inl two) = let e = sym one.0 ∙ two.0 in absurd (cc)
one_asking words true true n m (inr one) (inl two) = let e = sym one.0 ∙ two.0 in absurd (cc)
one_asking words false false n m (inr one) (inr two) =
    let e = sym one.0 ∙ two.0 in
    let same : decimal n ≡ decimal m = cc in
    (refl, decimal_injective n m one.1 two.1 same)
one_asking words true true n m (inr one) (inr two) =
    let e = sym one.0 ∙ two.0 in
    let same : decimal n ≡ decimal m = cc in
    (refl, decimal_injective n m one.1 two.1 same)
one_asking words false true n m (inr one) (inr two) = let e = sym one.0 ∙ two.0 in absurd (cc)
one_asking words true false n m (inr one) (inr two) = let e = sym one.0 ∙ two.0 in absurd (cc)
