-- What each event makes of each page.
use Rattle.std.proofs.Common.{◌≡◌, ℕ, ◌+◌, ◌-◌, ◌<◌, ◌==◌, Bool, true, false, is_none, Option, Some, None, IsSome, refl, sym, arith, ◌∙◌, ap}
use Rattle.std.proofs.lemmas.Bool.Decides.{nat_tests}
use Rattle.gup_base.specs.declared.entry.Rights.{Rights}
use Rattle.gup_plain.specs.Event.{CanHappen, happened, IsUnbornOrGrowing}
use Rattle.gup_plain.specs.Put.{within}
use Rattle.gup_plain.specs.State.{PlainState, Birth, unborn, growing, born, failed}
use Rattle.gup_plain.specs.declared.event.PlainEvent.{PlainEvent}
use Rattle.gup_plain.specs.declared.event.PlainEvent.TheVariants.{Map, Unmap, Protect, ForkBegin, ForkEnd, ForkFail}
use Rattle.gup_plain.specs.declared.note.What.TheVariants.{Event}
use Rattle.gup_spec_check.specs.Times.{is_born, mapped_after}
use Rattle.gup_check_pages.proofs.PageChanges.{alike, mapped, unmapped, fresh, ChangesAt, Changes, Stands}
use Rattle.gup_check_pages.proofs.Tests.{equal}

-- a page of a range is so far behind its first
in_range : (P : ℕ → Type 0) (first n g : ℕ) → ((k : ℕ) → k < n → P (first + k)) → within first n g ≡ true → P g
in_range P first n g has is =
    let inside : g - first < n = grind (arith, nat_tests) in
    let same : first + (g - first) ≡ g = grind (arith, nat_tests) in
    rw same at (has (g - first) inside)

some_is : (r : Option Rights) (x : Rights) → IsSome r → is_none (Some x) ≡ is_none r
some_is None x is = absurd (cc)
some_is (Some y) x is = refl

-- where the process is another, and where it is this one
changes-Map : (s : PlainState) (count : ℕ) (times : ℕ → ℕ → ℕ) (a p page n : ℕ) (rights : Rights) → CanHappen s (Map a p page n rights) → Changes s (happened s (Map a p page n rights)) count times (mapped_after (count + 1) (Event (Map a p page n rights)) times)
changes-Map s count times a p page n rights can q g = by (q == p) (within page n g) refl refl
  where
    by : (here inside : Bool) → (q == p) ≡ here → within page n g ≡ inside → ChangesAt s (happened s (Map a p page n rights)) count times (mapped_after (count + 1) (Event (Map a p page n rights)) times) q g
    by false inside at is = rw at (alike refl refl refl)
    by true false at is =
        let same : q ≡ p = equal q p at in
        rw (at, is) (alike refl (ap (λ x. is_none (s.right x g)) (sym same)) (ap (λ x. times x g) (sym same)))
    by true true at is =
        let same : q ≡ p = equal q p at in
        rw (at, is) (mapped (ap s.birth same ∙ can.0) (ap (λ x. s.right x g) same ∙ in_range (λ k. s.right p k ≡ None) page n g can.2 is) (ap s.birth same ∙ can.0) refl)

changes-Unmap : (s : PlainState) (count : ℕ) (times : ℕ → ℕ → ℕ) (a p page : ℕ) → CanHappen s (Unmap a p page) → Changes s (happened s (Unmap a p page)) count times times
changes-Unmap s count times a p page can q g = by (q == p) (g == page) refl refl
  where
    by : (here inside : Bool) → (q == p) ≡ here → (g == page) ≡ inside → ChangesAt s (happened s (Unmap a p page)) count times times q g
    by false inside at is = rw at (alike refl refl refl)
    by true false at is = rw (at, is) (alike refl refl refl)
    by true true at is = rw (at, is) (unmapped (ap s.birth (equal q p at) ∙ can.0) refl refl)

changes-Protect : (s : PlainState) (count : ℕ) (times : ℕ → ℕ → ℕ) (a p page n : ℕ) (rights : Rights) → CanHappen s (Protect a p page n rights) → Changes s (happened s (Protect a p page n rights)) count times times
changes-Protect s count times a p page n rights can q g = by (q == p) (within page n g) refl refl
  where
    by : (here inside : Bool) → (q == p) ≡ here → within page n g ≡ inside → ChangesAt s (happened s (Protect a p page n rights)) count times times q g
    by false inside at is = rw at (alike refl refl refl)
    by true false at is = rw (at, is) (alike refl (ap (λ x. is_none (s.right x g)) (sym (equal q p at))) refl)
    by true true at is =
        rw (at, is) (alike refl (some_is (s.right p g) rights (in_range (λ k. IsSome (s.right p k)) page n g can.1 is) ∙ ap (λ x. is_none (s.right x g)) (sym (equal q p at))) refl)

-- a process that isn't born, and so was never mapped to
never : (s : PlainState) (count : ℕ) (times : ℕ → ℕ → ℕ) (p q : ℕ) → Stands s count times → is_born (s.birth p) ≡ false → (q == p) ≡ true → (g : ℕ) → (is_born (s.birth q) ≡ false) × (times q g ≡ 0)
never s count times p q stands not at g =
    let unborn : is_born (s.birth q) ≡ false = ap (λ x. is_born (s.birth x)) (equal q p at) ∙ not in
    (unborn, stands.unborn q g unborn)

changes-ForkBegin : (s : PlainState) (count : ℕ) (times : ℕ → ℕ → ℕ) (parent child : ℕ) → Stands s count times → CanHappen s (ForkBegin parent child) → Changes s (happened s (ForkBegin parent child)) count times times
changes-ForkBegin s count times parent child stands can q g = by (q == child) refl
  where
    by : (here : Bool) → (q == child) ≡ here → ChangesAt s (happened s (ForkBegin parent child)) count times times q g
    by false at = rw at (alike refl refl refl)
    by true at = let was = never s count times child q stands (ap is_born can.1) at g in fresh was.0 was.1

changes-ForkEnd : (s : PlainState) (count : ℕ) (times : ℕ → ℕ → ℕ) (parent child : ℕ) → Stands s count times → CanHappen s (ForkEnd parent child) → Changes s (happened s (ForkEnd parent child)) count times times
changes-ForkEnd s count times parent child stands can q g = by (q == child) refl
  where
    by : (here : Bool) → (q == child) ≡ here → ChangesAt s (happened s (ForkEnd parent child)) count times times q g
    by false at = rw at (alike refl refl refl)
    by true at = let was = never s count times child q stands (ap is_born can.0) at g in fresh was.0 was.1

not_born : (birth : Birth) → IsUnbornOrGrowing birth → is_born birth ≡ false
not_born unborn is = refl
not_born (growing parent) is = refl
not_born born is = absurd is
not_born failed is = absurd is

changes-ForkFail : (s : PlainState) (count : ℕ) (times : ℕ → ℕ → ℕ) (child : ℕ) → Stands s count times → CanHappen s (ForkFail child) → Changes s (happened s (ForkFail child)) count times times
changes-ForkFail s count times child stands can q g = by (q == child) refl
  where
    by : (here : Bool) → (q == child) ≡ here → ChangesAt s (happened s (ForkFail child)) count times times q g
    by false at = rw at (alike refl refl refl)
    by true at = let was = never s count times child q stands (not_born (s.birth child) can) at g in fresh was.0 was.1

-- all other events leave births and rights as they are
pub changes : (s : PlainState) (count : ℕ) (times : ℕ → ℕ → ℕ) (e : PlainEvent) → Stands s count times → CanHappen s e → Changes s (happened s e) count times (mapped_after (count + 1) (Event e) times)
changes s count times (Map a p page n rights) stands can = changes-Map s count times a p page n rights can
changes s count times (Unmap a p page) stands can = changes-Unmap s count times a p page can
changes s count times (Protect a p page n rights) stands can = changes-Protect s count times a p page n rights can
changes s count times (ForkBegin parent child) stands can = changes-ForkBegin s count times parent child stands can
changes s count times (ForkEnd parent child) stands can = changes-ForkEnd s count times parent child stands can
changes s count times (ForkFail child) stands can = changes-ForkFail s count times child stands can
changes s count times e stands can = λ q g. alike refl refl refl
