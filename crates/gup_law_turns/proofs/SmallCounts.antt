-- Counts stay small: a frame that an actor has prepared has one reference; where nobody but pages' entries, moves, handles and
-- running pins holds a frame, its count is at most the number of pages of all processes and of all references, that of all actors, and the weight
-- of
-- all pages that may be pinned.
use Rattle.std.proofs.Common.{◌≡◌, ℕ, ◌+◌, ◌*◌, ◌≤◌, ◌<◌, ◌⊎◌, inl, inr, ◌==◌, Bool, true, false, if◌then◌else◌, List, [], ◌∷◌, slice_get, Contains, Option, Some, None, refl, ap, sym, subst, ◌∙◌, eqb-true, arith}
use Rattle.std.specs.Prelude.{sum_by}
use Rattle.std.proofs.lemmas.Bool.Decides.{nat_tests}
use Rattle.std.proofs.lemmas.List.Elements.{Contains-append_right}
use Rattle.std.proofs.lemmas.List.Sums.{sum_by-cons}
use Rattle.gup_base.specs.declared.entry.Entry.{Entry}
use Rattle.gup_base.specs.declared.entry.Rights.{Rights}
use Rattle.gup_plain.specs.Event.{page_numbers}
use Rattle.gup_plain.specs.State.{failed}
use Rattle.gup_spec_events.specs.State.{CoreState, Taken, Job, moving, walking}
use Rattle.gup_spec_events.specs.Event.{bias}
use Rattle.gup_spec_events.specs.Invariant.{Holder, entry_of_page, cleared_by, prepared_by, owed_by, got_as, page_of_pin, page_taken, grabbed_by, frame_of, cleared_frame, got_frame, taken_frame, grabbed_frame, weight, HasNoRepetition}
use Rattle.gup_law_base.specs.Sound.{IsSound, moving_of, walking_of, moved_frame, walk_frame, held, held_by_walk}
use Rattle.gup_plain.specs.Pages.{sum_below}
use Rattle.gup_law_turns.proofs.Puts.{some_same}
use Rattle.gup_law_turns.proofs.TurnShapes.{AtRest}
use Rattle.gup_law_turns.proofs.Sums.{sum_at, sum_both, sum_ones, sum_zero}

-- the job keeps no frame
abbrev pub HoldsNoFrame : Job → Type 0
HoldsNoFrame job = (cleared_frame job ≡ None) × (grabbed_frame job ≡ None)

-- the job of one of 81 actors, or of any other, which keeps none
abbrev pub HoldsFew : (a : ℕ) → Job → Type 0
HoldsFew a job = HoldsNoFrame job ⊎ (a < 81)

-- elements of lists

first_element : {X : Type 0} (x : X) (xs : List X) → Contains (x ∷ xs) x
first_element x xs = (0, omega arith, refl)

later_element : {X : Type 0} (x : X) (xs : List X) (y : X) → Contains xs y → Contains (x ∷ xs) y
later_element x xs y has = Contains-append_right (x ∷ []) xs y has

-- holders as numbers

-- an entry of a page of one of 16 processes, one that one of 81 actors has cleared, a page of one of 1,024 handles, one that
-- one of 81 actors has taken, or a
-- reference got by one of 1,024 handles
data IsPlace : Holder → Type 0 where
  of_entry : (p page : ℕ) → p < 16 → page < page_numbers → IsPlace (entry_of_page p page)
  of_cleared : (a : ℕ) → a < 81 → IsPlace (cleared_by a)
  of_made : (h k : ℕ) → h < 1024 → k < 16 → IsPlace (page_of_pin h k)
  of_taken : (a k : ℕ) → a < 81 → k < 16 → IsPlace (page_taken a k)
  of_got : (h : ℕ) → h < 1024 → IsPlace (got_as h)

-- what a walk of one of 81 actors has grabbed
data IsGrab : Holder → Type 0 where
  of_grab : (a : ℕ) → a < 81 → IsGrab (grabbed_by a)

-- each of a list is such a holder
abbrev AreSuch : (Holder → Type 0) → List Holder → Type 0
AreSuch P [] = Unit {0}
AreSuch P (x ∷ xs) = P x × AreSuch P xs

abbrev ArePlaces : List Holder → Type 0
ArePlaces xs = AreSuch IsPlace xs

-- an entry's number among the pages of those, and that of a reference after them
abbrev entry_number : Holder → Option ℕ
entry_number (entry_of_page p page) = Some (page * 16 + p)
entry_number (got_as h) = Some (16 * page_numbers + h)
entry_number x = None

-- a cleared one's is that of its actor
abbrev cleared_number : Holder → Option ℕ
cleared_number (cleared_by a) = Some a
cleared_number x = None

-- and a pinned page's among those of handles and those taken
abbrev pin_number : Holder → Option ℕ
pin_number (page_of_pin h k) = Some (h * 16 + k)
pin_number (page_taken a k) = Some (16384 + (a * 16 + k))
pin_number x = None

-- and a grab's is that of its actor
abbrev grab_number : Holder → Option ℕ
grab_number (grabbed_by a) = Some a
grab_number x = None

one_entry : (x y : Holder) (j : ℕ) → IsPlace x → IsPlace y → entry_number x ≡ Some j → entry_number y ≡ Some j → x ≡ y
one_entry x y j (of_entry p page low below) (of_entry q other also under) here there =
    let this : page * 16 + p ≡ j = some_same here in
    let that : other * 16 + q ≡ j = some_same there in
    let procs : p ≡ q = omega (arith, this, that, low, also) in
    let pages : page ≡ other = omega (arith, this, that, low, also) in
    ap (λ (k : ℕ). entry_of_page k page) procs ∙ ap (entry_of_page q) pages
one_entry x y j (of_entry p page low below) (of_got h few) here there =
    let this : page * 16 + p ≡ j = some_same here in
    let that : 16 * page_numbers + h ≡ j = some_same there in
    absurd (omega (arith, this, that, low, below))
one_entry x y j (of_entry p page low below) other here there = absurd (cc there)
one_entry x y j (of_got h few) (of_entry p page low below) here there =
    let this : 16 * page_numbers + h ≡ j = some_same here in
    let that : page * 16 + p ≡ j = some_same there in
    absurd (omega (arith, this, that, low, below))
one_entry x y j (of_got h few) (of_got g less) here there =
    let this : 16 * page_numbers + h ≡ j = some_same here in
    let that : 16 * page_numbers + g ≡ j = some_same there in
    let same : h ≡ g = omega (arith, this, that) in
    ap got_as same
one_entry x y j (of_got h few) other here there = absurd (cc there)
one_entry x y j place is here there = absurd (cc here)

one_cleared : (x y : Holder) (j : ℕ) → IsPlace x → IsPlace y → cleared_number x ≡ Some j → cleared_number y ≡ Some j → x ≡ y
one_cleared x y j (of_cleared a low) (of_cleared b also) here there =
    let this : a ≡ j = some_same here in
    let that : b ≡ j = some_same there in
    ap cleared_by (this ∙ sym that)
one_cleared x y j (of_cleared a low) other here there = absurd (cc there)
one_cleared x y j place is here there = absurd (cc here)

one_pin : (x y : Holder) (j : ℕ) → IsPlace x → IsPlace y → pin_number x ≡ Some j → pin_number y ≡ Some j → x ≡ y
one_pin x y j (of_entry p page low below) is here there = absurd (cc here)
one_pin x y j (of_got h few) is here there = absurd (cc here)
one_pin x y j (of_cleared a low) is here there = absurd (cc here)
one_pin x y j (of_made h k less few) (of_entry p page low below) here there = absurd (cc there)
one_pin x y j (of_made h k less few) (of_got g low) here there = absurd (cc there)
one_pin x y j (of_made h k less few) (of_cleared a low) here there = absurd (cc there)
one_pin x y j (of_made h k less few) (of_made g l under low) here there =
    let this : h * 16 + k ≡ j = some_same here in
    let that : g * 16 + l ≡ j = some_same there in
    let handles : h ≡ g = omega (arith, this, that, few, low) in
    let pages : k ≡ l = omega (arith, this, that, few, low) in
    ap (λ (n : ℕ). page_of_pin n k) handles ∙ ap (page_of_pin g) pages
one_pin x y j (of_made h k less few) (of_taken a l under low) here there =
    let this : h * 16 + k ≡ j = some_same here in
    let that : 16384 + (a * 16 + l) ≡ j = some_same there in
    absurd (omega (arith, this, that, less, few))
one_pin x y j (of_taken a k less few) (of_entry p page low below) here there = absurd (cc there)
one_pin x y j (of_taken a k less few) (of_got g low) here there = absurd (cc there)
one_pin x y j (of_taken a k less few) (of_cleared b low) here there = absurd (cc there)
one_pin x y j (of_taken a k less few) (of_made h l under low) here there =
    let this : 16384 + (a * 16 + k) ≡ j = some_same here in
    let that : h * 16 + l ≡ j = some_same there in
    absurd (omega (arith, this, that, under, low))
one_pin x y j (of_taken a k less few) (of_taken b l under low) here there =
    let this : 16384 + (a * 16 + k) ≡ j = some_same here in
    let that : 16384 + (b * 16 + l) ≡ j = some_same there in
    let actors : a ≡ b = omega (arith, this, that, few, low) in
    let pages : k ≡ l = omega (arith, this, that, few, low) in
    ap (λ (n : ℕ). page_taken n k) actors ∙ ap (page_taken b) pages

entry_below : (x : Holder) (j : ℕ) → IsPlace x → entry_number x ≡ Some j → j < 16 * page_numbers + 1024
entry_below x j (of_entry p page low below) is = let this : page * 16 + p ≡ j = some_same is in omega (arith, this, low, below)
entry_below x j (of_got h few) is = let this : 16 * page_numbers + h ≡ j = some_same is in omega (arith, this, few)
entry_below x j place is = absurd (cc is)

cleared_below : (x : Holder) (j : ℕ) → IsPlace x → cleared_number x ≡ Some j → j < 81
cleared_below x j (of_cleared a low) is = let this : a ≡ j = some_same is in omega (arith, this, low)
cleared_below x j place is = absurd (cc is)

pin_below : (x : Holder) (j : ℕ) → IsPlace x → pin_number x ≡ Some j → j < 17680
pin_below x j (of_entry p page low below) is = absurd (cc is)
pin_below x j (of_got h few) is = absurd (cc is)
pin_below x j (of_cleared a low) is = absurd (cc is)
pin_below x j (of_made h k less few) is = let this : h * 16 + k ≡ j = some_same is in omega (arith, this, less, few)
pin_below x j (of_taken a k less few) is = let this : 16384 + (a * 16 + k) ≡ j = some_same is in omega (arith, this, less, few)

-- one where it has a number
abbrev one_of : Option ℕ → ℕ
one_of None = 0
one_of (Some k) = 1

weighs : (x : Holder) → IsPlace x → weight x ≡ one_of (entry_number x) + one_of (cleared_number x) + bias * one_of (pin_number x)
weighs x (of_entry p page low below) = refl
weighs x (of_cleared a low) = refl
weighs x (of_made h k less few) = refl
weighs x (of_taken a k less few) = refl
weighs x (of_got h few) = refl

-- one where it is the number
abbrev is_number : (o : Option ℕ) (j : ℕ) → ℕ
is_number None j = 0
is_number (Some k) j = if j == k then 1 else 0

module _ (P : Holder → Type 0) (number : Holder → Option ℕ) (n : ℕ) (low : (x : Holder) (j : ℕ) → P x → number x ≡ Some j → j < n) (one : (x y : Holder) (j : ℕ) → P x → P y → number x ≡ Some j → number y ≡ Some j → x ≡ y) where
  -- how many of the list have the number
  abbrev having : List Holder → (j : ℕ) → ℕ
  having [] j = 0
  having (x ∷ xs) j = is_number (number x) j + having xs j

  abbrev numbered : List Holder → ℕ
  numbered xs = sum_by (λ (x : Holder). one_of (number x)) xs

  number_sum : (o : Option ℕ) → ((j : ℕ) → o ≡ Some j → j < n) → sum_below n (is_number o) ≡ one_of o
  number_sum None below = sum_zero n (λ j. 0) (λ j. refl)
  number_sum (Some k) below =
      let all = sum_at n (is_number (Some k)) (λ j. 0) k (below k refl) (λ j other. rw other refl) in
      let none = sum_zero n (λ j. 0) (λ j. refl) in
      let here : is_number (Some k) k ≡ 1 = grind (arith, nat_tests) in
      omega (arith, all, none, here)

  -- those of the list that have a number, by their numbers
  all_numbered : (xs : List Holder) → AreSuch P xs → sum_below n (having xs) ≡ numbered xs
  all_numbered [] places = sum_zero n (λ j. 0) (λ j. refl)
  all_numbered (x ∷ xs) places =
      let rest = all_numbered xs places.1 in
      let both = sum_both n (is_number (number x)) (having xs) in
      let first = number_sum (number x) (λ j is. low x j places.0 is) in
      let all = sum_by-cons (λ (y : Holder). one_of (number y)) x xs in
      omega (arith, rest, both, first, all)

  -- no number twice

  having_none : (xs : List Holder) (x : Holder) (j : ℕ) → P x → number x ≡ Some j → AreSuch P xs → (Contains xs x → ⊥) → having xs j ≡ 0
  having_none [] x j is here places lacks = refl
  having_none (y ∷ xs) x j is here places lacks =
      let rest = having_none xs x j is here places.1 (λ has. lacks (later_element y xs x has)) in
      go (number y) refl rest
    where
      other : (k : ℕ) → number y ≡ Some k → (b : Bool) → (j == k) ≡ b → (if b then 1 else 0) + having xs j ≡ having xs j
      other k there true same =
          let equal : Some k ≡ Some j = ap (λ (i : ℕ). Some i) (sym (eqb-true j k same)) in
          absurd (lacks (subst (Contains (y ∷ xs)) (one y x j places.0 is (there ∙ equal) here) (first_element y xs)))
      other k there false same = omega arith

      go : (o : Option ℕ) → number y ≡ o → having xs j ≡ 0 → is_number o j + having xs j ≡ 0
      go None there rest = omega (arith, rest)
      go (Some k) there rest = other k there (j == k) refl ∙ rest

  having_one : (xs : List Holder) → AreSuch P xs → HasNoRepetition xs → (j : ℕ) → having xs j ≤ 1
  having_one [] places alone j = omega arith
  having_one (x ∷ xs) places alone j = go (number x) refl (having_one xs places.1 alone.1 j)
    where
      here : (k : ℕ) → number x ≡ Some k → (b : Bool) → (j == k) ≡ b → having xs j ≤ 1 → (if b then 1 else 0) + having xs j ≤ 1
      here k is true same rest =
          let equal : Some k ≡ Some j = ap (λ (i : ℕ). Some i) (sym (eqb-true j k same)) in
          let none = having_none xs x j places.0 (is ∙ equal) places.1 alone.0 in
          omega (arith, none)
      here k is false same rest = omega (arith, rest)

      go : (o : Option ℕ) → number x ≡ o → having xs j ≤ 1 → is_number o j + having xs j ≤ 1
      go None is rest = omega (arith, rest)
      go (Some k) is rest = here k is (j == k) refl rest

  -- so there are no more than numbers
  few_numbered : (xs : List Holder) → AreSuch P xs → HasNoRepetition xs → numbered xs ≤ n
  few_numbered xs places alone =
      let all = all_numbered xs places in
      let few = sum_ones n (having xs) (having_one xs places alone) in
      omega (arith, all, few)

-- the weight of distinct places is at most that of all
all_weigh : (xs : List Holder) → ArePlaces xs → sum_by weight xs ≡ sum_by (λ (x : Holder). one_of (entry_number x)) xs + sum_by (λ (x : Holder). one_of (cleared_number x)) xs + bias * sum_by (λ (x : Holder). one_of (pin_number x)) xs
all_weigh [] places = refl
all_weigh (x ∷ xs) places =
    let rest = all_weigh xs places.1 in
    let first = weighs x places.0 in
    let all = sum_by-cons weight x xs in
    let entries = sum_by-cons (λ (y : Holder). one_of (entry_number y)) x xs in
    let cleared = sum_by-cons (λ (y : Holder). one_of (cleared_number y)) x xs in
    let pins = sum_by-cons (λ (y : Holder). one_of (pin_number y)) x xs in
    omega (arith, rest, first, all, entries, cleared, pins)

places_weigh : (xs : List Holder) → ArePlaces xs → HasNoRepetition xs → sum_by weight xs ≤ 16 * page_numbers + 1024 + 81 + bias * 17680
places_weigh xs places alone =
    let all = all_weigh xs places in
    let entries = few_numbered IsPlace entry_number (16 * page_numbers + 1024) entry_below one_entry xs places alone in
    let cleared = few_numbered IsPlace cleared_number 81 cleared_below one_cleared xs places alone in
    let pins = few_numbered IsPlace pin_number 17680 pin_below one_pin xs places alone in
    omega (arith, all, entries, cleared, pins)

-- and that of distinct grabs

one_grab : (x y : Holder) (j : ℕ) → IsGrab x → IsGrab y → grab_number x ≡ Some j → grab_number y ≡ Some j → x ≡ y
one_grab x y j (of_grab a low) (of_grab b also) here there =
    let this : a ≡ j = some_same here in
    let that : b ≡ j = some_same there in
    ap grabbed_by (this ∙ sym that)

grab_below : (x : Holder) (j : ℕ) → IsGrab x → grab_number x ≡ Some j → j < 81
grab_below x j (of_grab a low) is = let this : a ≡ j = some_same is in omega (arith, this, low)

grab_weighs : (x : Holder) → IsGrab x → weight x ≡ bias * one_of (grab_number x)
grab_weighs x (of_grab a low) = refl

all_grabs : (xs : List Holder) → AreSuch IsGrab xs → sum_by weight xs ≡ bias * sum_by (λ (x : Holder). one_of (grab_number x)) xs
all_grabs [] grabs = refl
all_grabs (x ∷ xs) grabs =
    let rest = all_grabs xs grabs.1 in
    let first = grab_weighs x grabs.0 in
    let all = sum_by-cons weight x xs in
    let numbers = sum_by-cons (λ (y : Holder). one_of (grab_number y)) x xs in
    omega (arith, rest, first, all, numbers)

grabs_weigh : (xs : List Holder) → AreSuch IsGrab xs → HasNoRepetition xs → sum_by weight xs ≤ bias * 81
grabs_weigh xs grabs alone =
    let all = all_grabs xs grabs in
    let few = few_numbered IsGrab grab_number 81 grab_below one_grab xs grabs alone in
    omega (arith, all, few)

-- the holders of a frame

moved_same : (job : Job) → moved_frame (moving_of job) ≡ cleared_frame job
moved_same (moving p page e allowed count) = refl
moved_same job = refl

walk_same : (job : Job) → walk_frame (walking_of job) ≡ grabbed_frame job
walk_same (walking p write long sequence step) = refl
walk_same job = refl

-- where pins stand: the pages of handles, and those taken
pub record ArePinsFew (s : CoreState) : Type 0 where
  pub made : (h k f : ℕ) → slice_get (s.pinned h) k ≡ Some f → (h < 1024) × (k < 16)
  pub taken : (a k : ℕ) (t : Taken) → slice_get (s.taken a) k ≡ Some t → (a < 81) × (k < 16)

module _ (s : CoreState) (sound : IsSound s) (rest : (a : ℕ) → AtRest s a) (free : (a : ℕ) → HoldsFew a (s.job a)) (emptied : (p page : ℕ) → s.birth p ≡ failed → s.entry p page ≡ None) (few : (p page : ℕ) (e : Entry) → s.entry p page ≡ Some e → p < 16) (pins : ArePinsFew s) (gots : (h : ℕ) → (s.got h ≡ None → ⊥) → h < 1024) where
  abbrev holding : Holder → Option ℕ
  holding = held s.entry sound.0.moves s.prepared s.owed s.got s.pinned s.taken

  entry_is : (p page f : ℕ) (o : Option Entry) → s.entry p page ≡ o → frame_of o ≡ Some f → IsPlace (entry_of_page p page)
  entry_is p page f None is has = absurd (cc has)
  entry_is p page f (Some e) is has = of_entry p page (few p page e is) (mapped (s.right p page) refl)
    where
      whole : sound.0.whole p page ≡ Some e
      whole = sound.1.whole_entry p page e is

      mapped : (o : Option Rights) → s.right p page ≡ o → page < page_numbers
      mapped None none = absurd (let gone : s.entry p page ≡ None = emptied p page (sound.1.entry_mapped p page e whole none) in cc)
      mapped (Some rights) some = sound.1.right_numbered p page rights some

  made_is : (h k f : ℕ) → slice_get (s.pinned h) k ≡ Some f → IsPlace (page_of_pin h k)
  made_is h k f is = let at = pins.made h k f is in of_made h k at.0 at.1

  taken_is : (a k f : ℕ) (o : Option Taken) → slice_get (s.taken a) k ≡ o → taken_frame o ≡ Some f → IsPlace (page_taken a k)
  taken_is a k f None is has = absurd (cc has)
  taken_is a k f (Some t) is has = let at = pins.taken a k t is in of_taken a k at.0 at.1

  -- the frame has one reference alone
  abbrev IsOnce : ℕ → Type 0
  IsOnce f = sound.0.references f ≡ 1

  -- nobody but a page's entry, a move, a handle and a pin holds a frame that isn't prepared
  holder_is_place : (x : Holder) (f : ℕ) → holding x ≡ Some f → IsPlace x ⊎ IsOnce f
  unfolding held
  holder_is_place (entry_of_page p page) f is = inl (entry_is p page f (s.entry p page) refl is)
  holder_is_place (cleared_by a) f is =
      elim (free a) [
        | inl none ↦ absurd (let nothing : moved_frame (sound.0.moves a) ≡ None = ap moved_frame (sound.1.moves_are a) ∙ moved_same (s.job a) ∙ none.0 in cc)
        | inr low ↦ inl (of_cleared a low)
      ]
  holder_is_place (prepared_by a) f is = inr (sound.1.prepared_once a f is)
  holder_is_place (owed_by a) f is = let none = (rest a).owed in absurd (cc)
  holder_is_place (got_as k) f is = inl (of_got k (gots k (λ none. let lacks : got_frame (s.got k) ≡ None = ap got_frame none in cc)))
  holder_is_place (page_of_pin h k) f is = inl (made_is h k f is)
  holder_is_place (page_taken a k) f is = inl (taken_is a k f (slice_get (s.taken a) k) refl is)
  holder_is_place (grabbed_by a) f is = absurd (cc)

  -- and what walks have grabbed is of those actors
  grab_is : (x : Holder) (f : ℕ) → held_by_walk sound.0.walks x ≡ Some f → IsGrab x
  unfolding held_by_walk
  grab_is (grabbed_by a) f is =
      elim (free a) [
        | inl none ↦ absurd (let nothing : walk_frame (sound.0.walks a) ≡ None = ap walk_frame (sound.1.walks_are a) ∙ walk_same (s.job a) ∙ none.1 in cc)
        | inr low ↦ of_grab a low
      ]
  grab_is x f is = absurd (cc is)

  each_place : (f : ℕ) (xs : List Holder) → ((x : Holder) → Contains xs x → holding x ≡ Some f) → ArePlaces xs ⊎ IsOnce f
  each_place f [] hold = inl tt
  each_place f (x ∷ xs) hold =
      elim (holder_is_place x f (hold x (first_element x xs))) [
        | inl first ↦ elim (each_place f xs (λ y has. hold y (later_element x xs y has))) [
          | inl places ↦ inl (first, places)
          | inr once ↦ inr once
        ]
        | inr once ↦ inr once
      ]

  each_grab : (f : ℕ) (xs : List Holder) → ((x : Holder) → Contains xs x → held_by_walk sound.0.walks x ≡ Some f) → AreSuch IsGrab xs
  each_grab f [] hold = tt
  each_grab f (x ∷ xs) hold =
      (grab_is x f (hold x (first_element x xs)), each_grab f xs (λ y has. hold y (later_element x xs y has)))

  few_references : (f : ℕ) → sound.0.references f ≤ 16 * page_numbers + 1024 + 81 + bias * 17680
  few_references f =
      let tally = sound.1.references f in
      elim (each_place f tally.0 (λ x. (tally.2 x).1)) [
        | inl places ↦ (let most = places_weigh tally.0 places tally.1 in omega (arith, most, tally.3))
        | inr once ↦ omega (arith, once)
      ]

  pub few_counts_by : (f : ℕ) → s.count f ≤ 16 * page_numbers + 1024 + 81 + bias * 17761
  few_counts_by f =
      let grabs = sound.1.grabs f in
      let most = few_references f in
      let grabbed = grabs_weigh grabs.0 (each_grab f grabs.0 (λ x. (grabs.2 x).1)) grabs.1 in
      let sum = sound.1.count_is f in
      omega (arith, most, grabbed, sum, grabs.3)

-- each frame's count is at most the number of pages of 16 processes and of 1,024 references, that of 81 actors, and the weight of the pages of
-- 1,024 handles, of those that 81 actors may have taken, and of one that each of them may have grabbed
pub few_counts : (s : CoreState) → IsSound s → ((a : ℕ) → AtRest s a) → ((a : ℕ) → HoldsFew a (s.job a)) → ((p page : ℕ) → s.birth p ≡ failed → s.entry p page ≡ None) → ((p page : ℕ) (e : Entry) → s.entry p page ≡ Some e → p < 16) → ArePinsFew s → ((h : ℕ) → (s.got h ≡ None → ⊥) → h < 1024) → (f : ℕ) → s.count f ≤ 16 * page_numbers + 1024 + 81 + bias * 17761
few_counts s sound rest free emptied few pins gots f = few_counts_by s sound rest free emptied few pins gots f
