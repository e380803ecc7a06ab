-- Within the limits few can hold a frame, so its count is small.
use Rattle.std.proofs.Common.{◌≡◌, ℕ, ◌+◌, ◌*◌, ◌^◌, ◌≤◌, ◌<◌, Bool, List, [], ◌∷◌, map, length, refl, ap, sym, subst, ◌∙◌, arith}
use Rattle.std.specs.Prelude.{Option, Some, None, Contains, slice_get, sum_by}
use Rattle.std.proofs.lemmas.List.{length-map}
use Rattle.std.proofs.lemmas.List.Sums.{sum_by-cons}
use Rattle.gup_base.specs.declared.entry.Entry.{Entry}
use Rattle.gup_plain.specs.Event.{page_numbers}
use Rattle.gup_spec_events.specs.State.{CoreState, core_start, Taken, idle}
use Rattle.gup_spec_events.specs.Event.{CoreEvent, happens}
use Rattle.gup_spec_events.specs.Invariant.{Holder, entry_of_page, cleared_by, prepared_by, owed_by, got_as, page_of_pin, page_taken, grabbed_by, frame_of, cleared_frame, got_frame, taken_frame, grabbed_frame, holds, weight, HasNoRepetition, Holds}
use Rattle.gup_law_base.specs.Sound.{IsSound}
use Rattle.gup_law_base.proofs.Holders.{kind, first, second, same_holders}
use Rattle.gup_law_base.proofs.Numbers.{few_below, numbers_alone}
use Rattle.gup_law_base.proofs.Rows.{at_within, at_mapped, at_contains, contains_at}
use Rattle.gup_law_bounds.specs.Limits.{IsWithin}
use Rattle.gup_law_bounds.proofs.EventNumbers.{AreNumbered, few_pages}

-- nothing is beyond the limits
pub record IsLimited (s : CoreState) : Type 0 where
  pub job : (a : ℕ) → 81 ≤ a → s.job a ≡ idle
  pub prepared : (a : ℕ) → 81 ≤ a → s.prepared a ≡ None
  pub owed : (a : ℕ) → 81 ≤ a → s.owed a ≡ None
  pub taken : (a : ℕ) → 81 ≤ a → s.taken a ≡ []
  pub entry : (p page : ℕ) → 16 ≤ p → s.entry p page ≡ None
  pub pinned : (k : ℕ) → 1024 ≤ k → s.pinned k ≡ []
  pub got : (k : ℕ) → 1024 ≤ k → s.got k ≡ None

pub limited_event : (s : CoreState) (e : CoreEvent) → IsWithin e → IsLimited s → IsLimited (happens s e)
limited_event s e within h =
    record {
      job = λ a far. (within.actor s a far).0 ∙ h.job a far;
      prepared = λ a far. (within.actor s a far).1 ∙ h.prepared a far;
      owed = λ a far. (within.actor s a far).2 ∙ h.owed a far;
      taken = λ a far. (within.actor s a far).3 ∙ h.taken a far;
      entry = λ p page far. (within.process s p far).1 page ∙ h.entry p page far;
      pinned = λ k far. (within.name s k far).0 ∙ h.pinned k far;
      got = λ k far. (within.name s k far).1 ∙ h.got k far;
    }

pub limited_first : (movable normal tables : ℕ) (needs_tables : Bool) (is_born : ℕ → Bool) → IsLimited (core_start movable normal tables needs_tables is_born)
limited_first movable normal tables needs_tables is_born =
    record {
      job = λ a far. refl;
      prepared = λ a far. refl;
      owed = λ a far. refl;
      taken = λ a far. refl;
      entry = λ p page far. refl;
      pinned = λ k far. refl;
      got = λ k far. refl;
    }

-- holders as numbers

some_pages : 0 < page_numbers
unfolding page_numbers
some_pages = omega arith

pub few_of_all : (n : ℕ) → n ≤ 1024 * (8192 * page_numbers) → n < 2 ^ 60
unfolding page_numbers
few_of_all n few = omega (arith, few)

kind_below : (x : Holder) → kind x < 8
kind_below (entry_of_page p page) = omega arith
kind_below (cleared_by a) = omega arith
kind_below (prepared_by a) = omega arith
kind_below (owed_by a) = omega arith
kind_below (got_as k) = omega arith
kind_below (page_of_pin j k) = omega arith
kind_below (page_taken a k) = omega arith
kind_below (grabbed_by a) = omega arith

weight_most : (x : Holder) → weight x ≤ 1024
weight_most (entry_of_page p page) = omega arith
weight_most (cleared_by a) = omega arith
weight_most (prepared_by a) = omega arith
weight_most (owed_by a) = omega arith
weight_most (got_as k) = omega arith
weight_most (page_of_pin j k) = omega arith
weight_most (page_taken a k) = omega arith
weight_most (grabbed_by a) = omega arith

weigh_most : (xs : List Holder) → sum_by weight xs ≤ 1024 * length xs
weigh_most [] = omega arith
weigh_most (x ∷ xs) = omega (arith, sum_by-cons weight x xs, weight_most x, weigh_most xs)

abbrev number : Holder → ℕ
number x = kind x + 8 * (first x + 1024 * second x)

-- one of its 1,024 actors, processes or names, and of its 2^35 pages
abbrev IsLow : Holder → Type 0
IsLow x = (first x < 1024) × (second x < page_numbers)

number_below : (x : Holder) → IsLow x → number x < 8192 * page_numbers
number_below x low = omega (arith, kind_below x, low.0, low.1)

one_number : (x y : Holder) → IsLow x → IsLow y → number x ≡ number y → x ≡ y
one_number x y low also same =
    let kinds : kind x ≡ kind y = omega (arith, kind_below x, kind_below y, same) in
    let firsts : first x ≡ first y = omega (arith, kinds, low.0, also.0, same) in
    same_holders x y kinds firsts (omega (arith, kinds, firsts, same))

few_low : (xs : List Holder) → HasNoRepetition xs → ((x : Holder) → Contains xs x → IsLow x) → length xs ≤ 8192 * page_numbers
few_low xs alone low =
    let below = λ (n : ℕ) (has : Contains (map number xs) n). let at = contains_at (map number xs) n has in let x = at_mapped number xs at.0 n at.1 in subst (λ k. k < 8192 * page_numbers) x.2 (number_below x.0 (low x.0 (at_contains xs at.0 x.0 x.1))) in
    let apart = numbers_alone number xs (λ x y has also same. one_number x y (low x has) (low y also) same) alone in
    subst (λ k. k ≤ 8192 * page_numbers) (length-map xs number) (few_below (8192 * page_numbers) (map number xs) apart below)

module _ (n : ℕ) (s : CoreState) (sound : IsSound s) (numbered : AreNumbered n s) (limited : IsLimited s) where
  entry_low : (p page f : ℕ) (o : Option Entry) → s.entry p page ≡ o → frame_of o ≡ Some f → IsLow (entry_of_page p page)
  entry_low p page f None is has = absurd (cc)
  entry_low p page f (Some e) is has =
      let near : 16 ≤ p → ⊥ = λ far. let none : None ≡ Some e = sym (limited.entry p page far) ∙ is in absurd (cc) in
      (omega (arith, near), numbered.entries p page e is)

  taken_low : (a k f : ℕ) (o : Option Taken) → slice_get (s.taken a) k ≡ o → taken_frame o ≡ Some f → IsLow (page_taken a k)
  taken_low a k f None is has = absurd (cc)
  taken_low a k f (Some t) is has =
      let near : 81 ≤ a → ⊥ = λ far. let none : None ≡ Some t = sym (ap (λ (ts : List Taken). slice_get ts k) (limited.taken a far)) ∙ is in absurd (cc) in
      (omega (arith, near), omega (arith, at_within (s.taken a) k t is, few_pages s sound n numbered a))

  holder_low : (x : Holder) (f : ℕ) → holds s x ≡ Some f → IsLow x
  holder_low (entry_of_page p page) f is = entry_low p page f (s.entry p page) refl is
  holder_low (cleared_by a) f is =
      let near : 81 ≤ a → ⊥ = λ far. let none : None ≡ Some f = sym (ap cleared_frame (limited.job a far)) ∙ is in absurd (cc) in
      (omega (arith, near), some_pages)
  holder_low (prepared_by a) f is =
      let near : 81 ≤ a → ⊥ = λ far. let none : None ≡ Some f = sym (limited.prepared a far) ∙ is in absurd (cc) in
      (omega (arith, near), some_pages)
  holder_low (owed_by a) f is =
      let near : 81 ≤ a → ⊥ = λ far. let none : None ≡ Some f = sym (limited.owed a far) ∙ is in absurd (cc) in
      (omega (arith, near), some_pages)
  holder_low (got_as k) f is =
      let near : 1024 ≤ k → ⊥ = λ far. let none : None ≡ Some f = sym (ap got_frame (limited.got k far)) ∙ is in absurd (cc) in
      (omega (arith, near), some_pages)
  holder_low (page_of_pin j k) f is =
      let near : 1024 ≤ j → ⊥ = λ far. let none : None ≡ Some f = sym (ap (λ (fs : List ℕ). slice_get fs k) (limited.pinned j far)) ∙ is in absurd (cc) in
      (omega (arith, near), omega (arith, at_within (s.pinned j) k f is, numbered.pinned j))
  holder_low (page_taken a k) f is = taken_low a k f (slice_get (s.taken a) k) refl is
  holder_low (grabbed_by a) f is =
      let near : 81 ≤ a → ⊥ = λ far. let none : None ≡ Some f = sym (ap grabbed_frame (limited.job a far)) ∙ is in absurd (cc) in
      (omega (arith, near), some_pages)

  -- 2^23 numbers for each of 2^35 pages, each of 1,024 at most
  pub few_counts : Holds s → (f : ℕ) → s.count f < 2 ^ 60
  few_counts known f =
      let counts = known.counts f in
      let few = few_low counts.0 counts.1 (λ x has. holder_low x f ((counts.2 x).1 has)) in
      let total : sum_by weight counts.0 ≡ s.count f = counts.3 in
      few_of_all (s.count f) (omega (arith, total, weigh_most counts.0, few))
