-- The count identity where an actor gives back the last page that it has taken, or the first.
use Rattle.std.proofs.Common.{◌≡◌, ℕ, ◌-◌, ◌==◌, Bool, true, false, List, [], ◌∷◌, ◌++◌, map, length, suc, refl, ap, sym, ◌∙◌, subst, arith}
use Rattle.std.specs.Prelude.{Option, Some, None, Contains, sum_by, slice_get, if◌then◌else◌, ◌&&◌}
use Rattle.std.proofs.lemmas.Bool.Decides.{nat_tests}
use Rattle.std.proofs.lemmas.List.Sums.{sum_by-cons}
use Rattle.gup_base.specs.declared.entry.Entry.{Entry}
use Rattle.gup_plain.specs.Put.{put}
use Rattle.gup_spec_events.specs.State.{Taken}
use Rattle.gup_spec_events.specs.Event.{bias}
use Rattle.gup_spec_events.specs.Invariant.{Holder, entry_of_page, cleared_by, prepared_by, owed_by, got_as, page_of_pin, page_taken, grabbed_by, weight, HasNoRepetition, taken_frame}
use Rattle.gup_law_base.specs.Sound.{Moving, held, Tally}
use Rattle.gup_law_base.proofs.Rows.{at_end, at_others, none_past, contains_at, at_contains, at_mapped, mapped_at}
use Rattle.gup_law_base.proofs.Holders.{same_holders, first_element, later_element}
use Rattle.gup_law_base.proofs.Tally.{changed, tally_change, number_here}

-- 1. Holders get other names: `to` is the old name of each, `from` the new name of each that holds a frame.
module _ (to from : Holder → Holder) (back : (x : Holder) → from (to x) ≡ x) (even : (x : Holder) → weight (to x) ≡ weight x) where
  abbrev AreBack : List Holder → Type 0
  AreBack xs = (y : Holder) → Contains xs y → to (from y) ≡ y

  moved_into : (xs : List Holder) (x : Holder) → Contains xs (to x) → Contains (map from xs) x
  moved_into xs x has =
      let at = contains_at xs (to x) has in
      at_contains (map from xs) at.0 x (mapped_at from xs at.0 (to x) at.1 ∙ ap (λ y. Some y) (back x))

  moved_out : (xs : List Holder) → AreBack xs → (x : Holder) → Contains (map from xs) x → Contains xs (to x)
  moved_out xs all x has =
      let at = contains_at (map from xs) x has in
      let was = at_mapped from xs at.0 x at.1 in
      let there : Contains xs was.0 = at_contains xs at.0 was.0 was.1 in
      let same : was.0 ≡ to x = sym (all was.0 there) ∙ ap to was.2 in
      subst (Contains xs) same there

  moved_alone : (xs : List Holder) → AreBack xs → HasNoRepetition xs → HasNoRepetition (map from xs)
  moved_alone [] all alone = tt
  moved_alone (x ∷ xs) all alone =
      let rest : AreBack xs = λ y has. all y (later_element x xs y has) in
      ((λ has. alone.0 (subst (Contains xs) (all x (first_element x xs)) (moved_out xs rest (from x) has))), moved_alone xs rest alone.1)

  moved_weight : (xs : List Holder) → AreBack xs → sum_by weight (map from xs) ≡ sum_by weight xs
  moved_weight [] all = refl
  moved_weight (x ∷ xs) all =
      let rest : AreBack xs = λ y has. all y (later_element x xs y has) in
      let same : weight (from x) ≡ weight x = sym (even (from x)) ∙ ap weight (all x (first_element x xs)) in
      omega (arith, sum_by-cons weight (from x) (map from xs), sum_by-cons weight x xs, same, moved_weight xs rest)

  tally_moved : (count : ℕ → ℕ) (holds now : Holder → Option ℕ) → ((x : Holder) → now x ≡ holds (to x)) → ((y : Holder) (f : ℕ) → holds y ≡ Some f → to (from y) ≡ y) → Tally count holds → Tally count now
  tally_moved count holds now same forth tally f =
      let xs : List Holder = (tally f).0 in
      let all : AreBack xs = λ y has. forth y f (((tally f).2 y).1 has) in
      let into = λ (x : Holder) (is : now x ≡ Some f). moved_into xs x (((tally f).2 (to x)).0 (sym (same x) ∙ is)) in
      let out = λ (x : Holder) (has : Contains (map from xs) x). same x ∙ ((tally f).2 (to x)).1 (moved_out xs all x has) in
      (map from xs, moved_alone xs all (tally f).1, (λ x. (into x, out x)), moved_weight xs all ∙ (tally f).3)

-- 2. The pages that an actor has taken move down by one.

abbrev up_if : Bool → ℕ → ℕ
up_if true k = suc k
up_if false k = k

abbrev down_if : Bool → ℕ → ℕ
down_if true k = k - 1
down_if false k = k

down_up : (b : Bool) (k : ℕ) → down_if b (up_if b k) ≡ k
down_up true k = omega arith
down_up false k = refl

abbrev row_up : (a : ℕ) → Holder → Holder
row_up a (page_taken b k) = page_taken b (up_if (b == a) k)
row_up a (entry_of_page p page) = entry_of_page p page
row_up a (cleared_by b) = cleared_by b
row_up a (prepared_by b) = prepared_by b
row_up a (owed_by b) = owed_by b
row_up a (got_as k) = got_as k
row_up a (page_of_pin i k) = page_of_pin i k
row_up a (grabbed_by b) = grabbed_by b

abbrev row_down : (a : ℕ) → Holder → Holder
row_down a (page_taken b k) = page_taken b (down_if (b == a) k)
row_down a (entry_of_page p page) = entry_of_page p page
row_down a (cleared_by b) = cleared_by b
row_down a (prepared_by b) = prepared_by b
row_down a (owed_by b) = owed_by b
row_down a (got_as k) = got_as k
row_down a (page_of_pin i k) = page_of_pin i k
row_down a (grabbed_by b) = grabbed_by b

row_back : (a : ℕ) (x : Holder) → row_down a (row_up a x) ≡ x
row_back a (page_taken b k) = ap (page_taken b) (down_up (b == a) k)
row_back a (entry_of_page p page) = refl
row_back a (cleared_by b) = refl
row_back a (prepared_by b) = refl
row_back a (owed_by b) = refl
row_back a (got_as k) = refl
row_back a (page_of_pin i k) = refl
row_back a (grabbed_by b) = refl

row_even : (a : ℕ) (x : Holder) → weight (row_up a x) ≡ weight x
row_even a (page_taken b k) = refl
row_even a (entry_of_page p page) = refl
row_even a (cleared_by b) = refl
row_even a (prepared_by b) = refl
row_even a (owed_by b) = refl
row_even a (got_as k) = refl
row_even a (page_of_pin i k) = refl
row_even a (grabbed_by b) = refl

-- all that holders hold, but for the first page that the actor has taken
abbrev without_row : (a : ℕ) → (Holder → Option ℕ) → Holder → Option ℕ
without_row a holds (page_taken b k) = if b == a && k == 0 then None else holds (page_taken b k)
without_row a holds (entry_of_page p page) = holds (entry_of_page p page)
without_row a holds (cleared_by b) = holds (cleared_by b)
without_row a holds (prepared_by b) = holds (prepared_by b)
without_row a holds (owed_by b) = holds (owed_by b)
without_row a holds (got_as k) = holds (got_as k)
without_row a holds (page_of_pin i k) = holds (page_of_pin i k)
without_row a holds (grabbed_by b) = holds (grabbed_by b)

is_first : {X : Type 0} (a : ℕ) (x y : X) → (if a == a && 0 == 0 then x else y) ≡ x
is_first a x y = grind (arith, nat_tests)

is_later : {X : Type 0} (b a k : ℕ) (x y : X) → (b ≡ a → k ≡ 0 → ⊥) → (if b == a && k == 0 then x else y) ≡ y
is_later b a k x y apart = grind (arith, nat_tests)

same_row : (a b : ℕ) (holds : Holder → Option ℕ) (k : ℕ) → (page_taken a 0 ≡ page_taken b k → ⊥) → without_row a holds (page_taken b k) ≡ holds (page_taken b k)
same_row a b holds k apart =
    is_later b a k None (holds (page_taken b k)) (λ i j. apart (same_holders (page_taken a 0) (page_taken b k) refl (sym i) (sym j)))

others_row : (a : ℕ) (holds : Holder → Option ℕ) (x : Holder) → (page_taken a 0 ≡ x → ⊥) → without_row a holds x ≡ holds x
others_row a holds (page_taken b k) apart = same_row a b holds k apart
others_row a holds (entry_of_page p page) apart = refl
others_row a holds (cleared_by b) apart = refl
others_row a holds (prepared_by b) apart = refl
others_row a holds (owed_by b) apart = refl
others_row a holds (got_as k) apart = refl
others_row a holds (page_of_pin i k) apart = refl
others_row a holds (grabbed_by b) apart = refl

row_forth : (a b k f : ℕ) (o : Option ℕ) → (if b == a && k == 0 then None else o) ≡ Some f → up_if (b == a) (down_if (b == a) k) ≡ k
row_forth a b k f o is = go (b == a) is
  where
    go : (t : Bool) → (if t && k == 0 then None else o) ≡ Some f → up_if t (down_if t k) ≡ k
    go false is = refl
    go true is = let some : k ≡ 0 → ⊥ = λ e. let no : ⊥ = grind (arith, nat_tests) in no in omega (arith, some)

down_forth : (a : ℕ) (holds : Holder → Option ℕ) (y : Holder) (f : ℕ) → without_row a holds y ≡ Some f → row_up a (row_down a y) ≡ y
down_forth a holds (page_taken b k) f is = ap (page_taken b) (row_forth a b k f (holds (page_taken b k)) is)
down_forth a holds (entry_of_page p page) f is = refl
down_forth a holds (cleared_by b) f is = refl
down_forth a holds (prepared_by b) f is = refl
down_forth a holds (owed_by b) f is = refl
down_forth a holds (got_as k) f is = refl
down_forth a holds (page_of_pin i k) f is = refl
down_forth a holds (grabbed_by b) f is = refl

-- 3. What an actor gives back

other_rows : (a b : ℕ) (ts us : List Taken) (f : ℕ → List Taken) (k : ℕ) → f a ≡ us → (a ≡ b → slice_get ts k ≡ slice_get us k) → taken_frame (slice_get (put a ts f b) k) ≡ taken_frame (slice_get (f b) k)
other_rows a b ts us f k is same = grind (arith, nat_tests)

row_above : (t : Taken) (ts : List Taken) (k : ℕ) → slice_get (t ∷ ts) (suc k) ≡ slice_get ts k
row_above t ts k = refl

same_actor : (b a : ℕ) → (b == a) ≡ true → b ≡ a
same_actor b a is = grind (arith, nat_tests)

module _ (count : ℕ → ℕ) (entry : ℕ → ℕ → Option Entry) (moves : ℕ → Option Moving) (prepared owed : ℕ → Option ℕ) (got : ℕ → Option (ℕ × ℕ)) (pinned : ℕ → List ℕ) (taken : ℕ → List Taken) where
  -- the last page that it has taken
  pub tally_last : (a : ℕ) (left : List Taken) (t : Taken) → taken a ≡ left ++ t ∷ [] → Tally count (held entry moves prepared owed got pinned taken) → Tally (changed (Some t.frame) None bias count) (held entry moves prepared owed got pinned (put a left taken))
  unfolding held
  tally_last a left t had tally =
      let was : held entry moves prepared owed got pinned taken (page_taken a (length left)) ≡ Some t.frame = subst (λ (ts : List Taken). taken_frame (slice_get ts (length left)) ≡ Some t.frame) (sym had) (ap taken_frame (at_end left t)) in
      let is : held entry moves prepared owed got pinned (put a left taken) (page_taken a (length left)) ≡ None = subst (λ (ts : List Taken). taken_frame (slice_get ts (length left)) ≡ None) (sym (number_here a left taken)) (ap taken_frame (none_past left)) in
      let all : Tally (changed (held entry moves prepared owed got pinned taken (page_taken a (length left))) (held entry moves prepared owed got pinned (put a left taken) (page_taken a (length left))) bias count) (held entry moves prepared owed got pinned (put a left taken)) = tally_change count (held entry moves prepared owed got pinned taken) (held entry moves prepared owed got pinned (put a left taken)) (page_taken a (length left)) others tally in
      subst (λ o. Tally (changed o None bias count) (held entry moves prepared owed got pinned (put a left taken))) was (subst (λ o. Tally (changed (held entry moves prepared owed got pinned taken (page_taken a (length left))) o bias count) (held entry moves prepared owed got pinned (put a left taken))) is all)
    where
      others : (x : Holder) → (page_taken a (length left) ≡ x → ⊥) → held entry moves prepared owed got pinned (put a left taken) x ≡ held entry moves prepared owed got pinned taken x
      others (page_taken b i) apart = other_rows a b left (left ++ t ∷ []) taken i had (λ e. sym (at_others left t i (λ l. apart (same_holders (page_taken a (length left)) (page_taken b i) refl e (sym l)))))
      others (entry_of_page q d) apart = refl
      others (cleared_by b) apart = refl
      others (prepared_by b) apart = refl
      others (owed_by b) apart = refl
      others (got_as b) apart = refl
      others (page_of_pin j i) apart = refl
      others (grabbed_by b) apart = refl

  -- the first of them
  pub tally_first : (a : ℕ) (t : Taken) (left : List Taken) → taken a ≡ t ∷ left → Tally count (held entry moves prepared owed got pinned taken) → Tally (changed (Some t.frame) None bias count) (held entry moves prepared owed got pinned (put a left taken))
  unfolding held
  tally_first a t left had tally =
      tally_moved (row_up a) (row_down a) (row_back a) (row_even a) (changed (Some t.frame) None bias count) (without_row a (held entry moves prepared owed got pinned taken)) (held entry moves prepared owed got pinned (put a left taken)) same (down_forth a (held entry moves prepared owed got pinned taken)) less
    where
      was : held entry moves prepared owed got pinned taken (page_taken a 0) ≡ Some t.frame
      was = subst (λ (ts : List Taken). taken_frame (slice_get ts 0) ≡ Some t.frame) (sym had) refl

      is : without_row a (held entry moves prepared owed got pinned taken) (page_taken a 0) ≡ None
      is = is_first a None (held entry moves prepared owed got pinned taken (page_taken a 0))

      all : Tally (changed (held entry moves prepared owed got pinned taken (page_taken a 0)) (without_row a (held entry moves prepared owed got pinned taken) (page_taken a 0)) bias count) (without_row a (held entry moves prepared owed got pinned taken))
      all = tally_change count (held entry moves prepared owed got pinned taken) (without_row a (held entry moves prepared owed got pinned taken)) (page_taken a 0) (others_row a (held entry moves prepared owed got pinned taken)) tally

      less : Tally (changed (Some t.frame) None bias count) (without_row a (held entry moves prepared owed got pinned taken))
      less = subst (λ o. Tally (changed o None bias count) (without_row a (held entry moves prepared owed got pinned taken))) was (subst (λ o. Tally (changed (held entry moves prepared owed got pinned taken (page_taken a 0)) o bias count) (without_row a (held entry moves prepared owed got pinned taken))) is all)

      rows : (b k : ℕ) (c : Bool) → (b == a) ≡ c → taken_frame (slice_get (if c then left else taken b) k) ≡ (if c && up_if c k == 0 then None else taken_frame (slice_get (taken b) (up_if c k)))
      rows b k false other = refl
      rows b k true here =
          let at : taken b ≡ t ∷ left = ap taken (same_actor b a here) ∙ had in
          let row : taken_frame (slice_get left k) ≡ taken_frame (slice_get (taken b) (suc k)) = ap taken_frame (sym (row_above t left k) ∙ ap (λ (ts : List Taken). slice_get ts (suc k)) (sym at)) in
          let later : (suc k == 0) ≡ false = grind (arith, nat_tests) in
          row ∙ sym (ap (λ c. if c then None else taken_frame (slice_get (taken b) (suc k))) later)

      same : (x : Holder) → held entry moves prepared owed got pinned (put a left taken) x ≡ without_row a (held entry moves prepared owed got pinned taken) (row_up a x)
      same (page_taken b k) = rows b k (b == a) refl
      same (entry_of_page q d) = refl
      same (cleared_by b) = refl
      same (prepared_by b) = refl
      same (owed_by b) = refl
      same (got_as b) = refl
      same (page_of_pin j i) = refl
      same (grabbed_by b) = refl
