-- The count identity where holders change their names, each for one of its weight: what a pin has taken becomes a
-- handle's.
use Rattle.std.proofs.Common.{◌≡◌, ℕ, ◌==◌, Bool, true, false, List, [], ◌∷◌, map, refl, ap, sym, ◌∙◌, subst, arith}
use Rattle.std.specs.Prelude.{Option, Some, None, Contains, sum_by, slice_get, if◌then◌else◌}
use Rattle.std.specs.Option.{option_map}
use Rattle.std.proofs.lemmas.Bool.Decides.{nat_tests}
use Rattle.std.proofs.lemmas.List.Sums.{sum_by-cons}
use Rattle.std.proofs.lemmas.Option.{slice_get-map}
use Rattle.gup_base.specs.declared.entry.Entry.{Entry}
use Rattle.gup_plain.specs.Put.{put}
use Rattle.gup_spec_events.specs.State.{Taken}
use Rattle.gup_spec_events.specs.Event.{taken_frames}
use Rattle.gup_spec_events.specs.Invariant.{Holder, entry_of_page, cleared_by, prepared_by, owed_by, got_as, page_of_pin, page_taken, grabbed_by, weight, HasNoRepetition, taken_frame}
use Rattle.gup_law_base.specs.Sound.{Moving, held, Tally}
use Rattle.gup_law_base.proofs.Rows.{contains_at, at_contains, at_mapped, mapped_at}

module _ (to : Holder → Holder) (back : (x : Holder) → to (to x) ≡ x) (even : (x : Holder) → weight (to x) ≡ weight x) where
  named_again : (xs : List Holder) (x : Holder) → Contains xs x → Contains (map to xs) (to x)
  named_again xs x has =
      let at = contains_at xs x has in
      at_contains (map to xs) at.0 (to x) (mapped_at to xs at.0 x at.1)

  was_named : (xs : List Holder) (y : Holder) → Contains (map to xs) y → Contains xs (to y)
  was_named xs y has =
      let at = contains_at (map to xs) y has in
      let from = at_mapped to xs at.0 y at.1 in
      let same : from.0 ≡ to y = sym (back from.0) ∙ ap to from.2 in
      subst (Contains xs) same (at_contains xs at.0 from.0 from.1)

  still_alone : (xs : List Holder) → HasNoRepetition xs → HasNoRepetition (map to xs)
  still_alone [] alone = tt
  still_alone (x ∷ xs) alone =
      ((λ has. alone.0 (subst (Contains xs) (back x) (was_named xs (to x) has))), still_alone xs alone.1)

  as_heavy : (xs : List Holder) → sum_by weight (map to xs) ≡ sum_by weight xs
  as_heavy [] = refl
  as_heavy (x ∷ xs) = omega (arith, sum_by-cons weight (to x) (map to xs), sum_by-cons weight x xs, even x, as_heavy xs)

  pub tally_renamed : (count : ℕ → ℕ) (holds now : Holder → Option ℕ) → ((x : Holder) → now x ≡ holds (to x)) → Tally count holds → Tally count now
  tally_renamed count holds now same tally f =
      let xs : List Holder = (tally f).0 in
      let into = λ (x : Holder) (is : now x ≡ Some f). subst (Contains (map to xs)) (back x) (named_again xs (to x) (((tally f).2 (to x)).0 (sym (same x) ∙ is))) in
      let out = λ (x : Holder) (has : Contains (map to xs) x). same x ∙ ((tally f).2 (to x)).1 (was_named xs x has) in
      (map to xs, still_alone xs (tally f).1, (λ x. (into x, out x)), as_heavy xs ∙ (tally f).3)

-- the pages that actor a has taken and those of handle h change places
abbrev swapped_pin : (a h i k : ℕ) → Bool → Holder
swapped_pin a h i k true = page_taken a k
swapped_pin a h i k false = page_of_pin i k

abbrev swapped_taken : (a h b k : ℕ) → Bool → Holder
swapped_taken a h b k true = page_of_pin h k
swapped_taken a h b k false = page_taken b k

abbrev swapped : (a h : ℕ) → Holder → Holder
swapped a h (entry_of_page p page) = entry_of_page p page
swapped a h (cleared_by b) = cleared_by b
swapped a h (prepared_by b) = prepared_by b
swapped a h (owed_by b) = owed_by b
swapped a h (got_as k) = got_as k
swapped a h (page_of_pin i k) = swapped_pin a h i k (i == h)
swapped a h (page_taken b k) = swapped_taken a h b k (b == a)
swapped a h (grabbed_by b) = grabbed_by b

is_itself : (n : ℕ) → (n == n) ≡ true
is_itself n = grind (arith, nat_tests)

is_same : (m n : ℕ) → (m == n) ≡ true → n ≡ m
is_same m n is = grind (arith, nat_tests)

pin_back : (a h i k : ℕ) (b : Bool) → (i == h) ≡ b → swapped a h (swapped_pin a h i k b) ≡ page_of_pin i k
pin_back a h i k true is = ap (swapped_taken a h a k) (is_itself a) ∙ ap (λ n. page_of_pin n k) (is_same i h is)
pin_back a h i k false is = ap (swapped_pin a h i k) is

taken_back : (a h c k : ℕ) (b : Bool) → (c == a) ≡ b → swapped a h (swapped_taken a h c k b) ≡ page_taken c k
taken_back a h c k true is = ap (swapped_pin a h h k) (is_itself h) ∙ ap (λ n. page_taken n k) (is_same c a is)
taken_back a h c k false is = ap (swapped_taken a h c k) is

swapped_back : (a h : ℕ) (x : Holder) → swapped a h (swapped a h x) ≡ x
swapped_back a h (entry_of_page p page) = refl
swapped_back a h (cleared_by b) = refl
swapped_back a h (prepared_by b) = refl
swapped_back a h (owed_by b) = refl
swapped_back a h (got_as k) = refl
swapped_back a h (page_of_pin i k) = pin_back a h i k (i == h) refl
swapped_back a h (page_taken b k) = taken_back a h b k (b == a) refl
swapped_back a h (grabbed_by b) = refl

pin_even : (a h i k : ℕ) (b : Bool) → weight (swapped_pin a h i k b) ≡ 1024
pin_even a h i k true = refl
pin_even a h i k false = refl

taken_even : (a h c k : ℕ) (b : Bool) → weight (swapped_taken a h c k b) ≡ 1024
taken_even a h c k true = refl
taken_even a h c k false = refl

swapped_even : (a h : ℕ) (x : Holder) → weight (swapped a h x) ≡ weight x
swapped_even a h (entry_of_page p page) = refl
swapped_even a h (cleared_by b) = refl
swapped_even a h (prepared_by b) = refl
swapped_even a h (owed_by b) = refl
swapped_even a h (got_as k) = refl
swapped_even a h (page_of_pin i k) = pin_even a h i k (i == h)
swapped_even a h (page_taken b k) = taken_even a h b k (b == a)
swapped_even a h (grabbed_by b) = refl

module _ (count : ℕ → ℕ) (entry : ℕ → ℕ → Option Entry) (moves : ℕ → Option Moving) (prepared owed : ℕ → Option ℕ) (got : ℕ → Option (ℕ × ℕ)) (pinned : ℕ → List ℕ) (taken : ℕ → List Taken) where
  frames_at : (a k : ℕ) → slice_get (taken_frames (taken a)) k ≡ taken_frame (slice_get (taken a) k)
  frames_at a k = slice_get-map (λ t. t.frame) (taken a) k ∙ go (slice_get (taken a) k)
    where
      go : (o : Option Taken) → option_map (λ t. t.frame) o ≡ taken_frame o
      go None = refl
      go (Some t) = refl

  -- the handle had no pages, and gets those that were taken
  pub tally_handle : (a h : ℕ) → pinned h ≡ [] → Tally count (held entry moves prepared owed got pinned taken) → Tally count (held entry moves prepared owed got (put h (taken_frames (taken a)) pinned) (put a [] taken))
  unfolding held
  tally_handle a h none tally =
      tally_renamed (swapped a h) (swapped_back a h) (swapped_even a h) count (held entry moves prepared owed got pinned taken) (held entry moves prepared owed got (put h (taken_frames (taken a)) pinned) (put a [] taken)) same tally
    where
      by_pin : (i k : ℕ) (b : Bool) → slice_get (if b then taken_frames (taken a) else pinned i) k ≡ held entry moves prepared owed got pinned taken (swapped_pin a h i k b)
      by_pin i k true = frames_at a k
      by_pin i k false = refl

      by_taken : (c k : ℕ) (b : Bool) → taken_frame (slice_get (if b then [] else taken c) k) ≡ held entry moves prepared owed got pinned taken (swapped_taken a h c k b)
      by_taken c k true = ap (λ (xs : List ℕ). slice_get xs k) (sym none)
      by_taken c k false = refl

      same : (x : Holder) → held entry moves prepared owed got (put h (taken_frames (taken a)) pinned) (put a [] taken) x ≡ held entry moves prepared owed got pinned taken (swapped a h x)
      same (entry_of_page p page) = refl
      same (cleared_by b) = refl
      same (prepared_by b) = refl
      same (owed_by b) = refl
      same (got_as k) = refl
      same (page_of_pin i k) = by_pin i k (i == h)
      same (page_taken b k) = by_taken b k (b == a)
      same (grabbed_by b) = refl
