-- Turns that are taken together, from the last to the first.
use Rattle.std.proofs.Common.{◌≡◌, ℕ, ◌+◌, ◌-◌, ◌<◌, ◌≤◌, ◌==◌, Bool, true, false, if◌then◌else◌, List, [], ◌∷◌, ◌++◌, length, get_or, reverse, set, zero, suc, refl, sym, ap, subst, ◌∙◌, arith}
use Rattle.std.proofs.lemmas.Bool.{eq-eqb, ne_eqb}
use Rattle.std.proofs.lemmas.List.{length-reverse, get_or-reverse, reverse-append, length-append, get_or_at}
use Rattle.gup_orders.specs.Turns.{before_all}
use Rattle.gup_orders.specs.declared.turns.Repeat.{Repeat}

pub reverse-cons : (r : Repeat) (these : List Repeat) → reverse (r ∷ these) ≡ reverse these ++ r ∷ []
reverse-cons r these = reverse-append (r ∷ []) these

-- one more of an actor whose turns stand last
pub one_more_time : (items these : List Repeat) (actor : ℕ) (last : Repeat) → items ≡ reverse these → 0 < length items → last ≡ get_or items (length items - 1) last → last.actor ≡ actor → set items (length items - 1) (record { actor = last.actor; times = last.times + 1 }) ≡ reverse (before_all actor these)
one_more_time items [] actor last is some at same = absurd (omega (arith, some, ap (λ (rs : List Repeat). length rs) is))
one_more_time items (first ∷ more) actor last is some at same =
    let turned : items ≡ reverse more ++ first ∷ [] = is ∙ reverse-cons first more in
    let count : length items ≡ suc (length (reverse more)) =
    ap (λ (rs : List Repeat). length rs) turned ∙ length-append (reverse more) (first ∷ []) ∙ omega arith in
    let place : length items - 1 ≡ length (reverse more) = omega (arith, count) in
    let here : last ≡ first =
    at
    ∙ ap (λ (n : ℕ). get_or items n last) place
    ∙ ap (λ (rs : List Repeat). get_or rs (length (reverse more)) last) turned
    ∙ get_or_at (reverse more) first [] last (length (reverse more)) refl in
    let it : Repeat = record { actor = last.actor; times = last.times + 1 } in
    let named : it ≡ record { actor = actor; times = first.times + 1 } =
    ap (λ (a : ℕ). record { actor = a; times = last.times + 1 }) same ∙ ap (λ (r : Repeat). record { actor = actor; times = r.times + 1 }) here in
    let equal : (first.actor == actor) ≡ true = eq-eqb first.actor actor (ap (λ (r : Repeat). r.actor) (sym here) ∙ same) in
    ap (λ (n : ℕ). set items n it) place
    ∙ ap (λ (rs : List Repeat). set rs (length (reverse more)) it) turned
    ∙ set_last (reverse more) first it
    ∙ ap (λ (r : Repeat). reverse more ++ r ∷ []) named
    ∙ sym (reverse-cons (record { actor = actor; times = first.times + 1 }) more)
    ∙ ap (λ (b : Bool). reverse (if b then record { actor = actor; times = first.times + 1 } ∷ more else record { actor = actor; times = 1 } ∷ first ∷ more)) (sym equal)
  where
    set_last : (xs : List Repeat) (x y : Repeat) → set (xs ++ x ∷ []) (length xs) y ≡ xs ++ y ∷ []
    set_last [] x y = refl
    set_last (z ∷ xs) x y = ap (λ (rs : List Repeat). z ∷ rs) (set_last xs x y)

-- what stands last is of another actor, if there is something
abbrev pub IsOther : List Repeat → (actor : ℕ) → Type 0
IsOther items actor = (last : Repeat) → 0 < length items → last ≡ get_or items (length items - 1) last → last.actor ≡ actor → ⊥

pub first_time : (items these : List Repeat) (actor : ℕ) → items ≡ reverse these → IsOther items actor → items ++ record { actor = actor; times = 1 } ∷ [] ≡ reverse (before_all actor these)
first_time items [] actor is other = ap (λ (rs : List Repeat). rs ++ record { actor = actor; times = 1 } ∷ []) is
first_time items (first ∷ more) actor is other =
    let turned : items ≡ reverse more ++ first ∷ [] = is ∙ reverse-cons first more in
    let count : length items ≡ suc (length (reverse more)) =
    ap (λ (rs : List Repeat). length rs) turned ∙ length-append (reverse more) (first ∷ []) ∙ omega arith in
    let place : length items - 1 ≡ length (reverse more) = omega (arith, count) in
    let here : get_or items (length items - 1) first ≡ first =
    ap (λ (n : ℕ). get_or items n first) place
    ∙ ap (λ (rs : List Repeat). get_or rs (length (reverse more)) first) turned
    ∙ get_or_at (reverse more) first [] first (length (reverse more)) refl in
    let differs : (first.actor == actor) ≡ false = ne_eqb first.actor actor (λ same. other first (omega (arith, count)) (sym here) same) in
    ap (λ (rs : List Repeat). rs ++ record { actor = actor; times = 1 } ∷ []) is
    ∙ sym (reverse-cons (record { actor = actor; times = 1 }) (first ∷ more))
    ∙ ap (λ (b : Bool). reverse (if b then record { actor = actor; times = first.times + 1 } ∷ more else record { actor = actor; times = 1 } ∷ first ∷ more)) (sym differs)

-- the k-th from the end, counted back
pub back_at : (these back : List Repeat) (k : ℕ) (it : Repeat) → back ≡ reverse these → k < length back → it ≡ get_or back (length back - 1 - k) it → it ≡ get_or these k it
back_at these back k it is within at =
    let same : length back ≡ length these = ap (λ (rs : List Repeat). length rs) is ∙ length-reverse these in
    let place : length these - 1 - (length back - 1 - k) ≡ k = omega (arith, same, within) in
    at
    ∙ ap (λ (rs : List Repeat). get_or rs (length back - 1 - k) it) is
    ∙ get_or-reverse these (length back - 1 - k) it (omega (arith, same, within))
    ∙ ap (λ (n : ℕ). get_or these n it) place

-- what is read twice at a place is the same
same_read : (xs : List Repeat) (k : ℕ) (x y : Repeat) → k < length xs → x ≡ get_or xs k x → y ≡ get_or xs k y → x ≡ y
same_read [] k x y within one two = absurd (omega arith)
same_read (z ∷ zs) zero x y within one two = one ∙ sym two
same_read (z ∷ zs) (suc k) x y within one two = same_read zs k x y (omega arith) one two

pub one_more_read : (items these : List Repeat) (actor n : ℕ) (seen last : Repeat) → items ≡ reverse these → n ≡ length items → 0 < n → seen ≡ get_or items (n - 1) seen → last ≡ get_or items (n - 1) last → seen.actor ≡ actor → set items (n - 1) (record { actor = last.actor; times = last.times + 1 }) ≡ reverse (before_all actor these)
one_more_read items these actor n seen last is count some seen_at last_at same =
    let alike : seen ≡ last = same_read items (n - 1) seen last (omega (arith, count, some)) seen_at last_at in
    subst (λ (k : ℕ). set items (k - 1) (record { actor = last.actor; times = last.times + 1 }) ≡ reverse (before_all actor these)) (sym count)
    (
    one_more_time items these actor last is (omega (arith, count, some))
    (last_at ∙ ap (λ (k : ℕ). get_or items (k - 1) last) count)
    (ap (λ (r : Repeat). r.actor) (sym alike) ∙ same)
    )

-- another is read there
pub is_other : (items : List Repeat) (actor n : ℕ) (seen : Repeat) → n ≡ length items → seen ≡ get_or items (n - 1) seen → (seen.actor ≡ actor → ⊥) → IsOther items actor
is_other items actor n seen count at differs last some last_at same =
    let there : seen ≡ get_or items (length items - 1) seen = at ∙ ap (λ (k : ℕ). get_or items (k - 1) seen) count in
    let alike : seen ≡ last = same_read items (length items - 1) seen last (omega (arith, some)) there last_at in
    differs (ap (λ (r : Repeat). r.actor) alike ∙ same)

-- nothing is there
pub no_other : (items : List Repeat) (actor n : ℕ) → n ≡ length items → n ≤ 0 → IsOther items actor
no_other items actor n count none last some last_at same = absurd (omega (arith, count, some, none))
