-- What the searches of the turn table find: the free frame, the lowest page, and what denies a mapping or a protection.
use Rattle.std.proofs.Common.{◌≡◌, ℕ, ◌+◌, ◌<◌, ◌≤◌, ◌==◌, ◌||◌, nat_lt, Bool, true, false, IsTrue, IsSome, is_some, not, cond, Option, Some, None, refl, sym, ap, subst, ◌∙◌, inl, inr, eq-or-lt_of_le, zero, suc, arith, if◌then◌else◌}
use Rattle.std.proofs.lemmas.Bool.Decides.{nat_tests}
use Rattle.gup_base.specs.declared.entry.Allowed.{Allowed}
use Rattle.gup_base.specs.declared.entry.Allowed.TheVariants.{Any, Only}
use Rattle.gup_base.specs.declared.entry.Rights.{Rights}
use Rattle.gup_base.specs.declared.entry.Zone.TheVariants.{Movable, Normal}
use Rattle.gup_plain.specs.Event.{most_pages}
use Rattle.gup_plain.specs.Put.{lowest}
use Rattle.gup_plain.specs.declared.answer.Answer.{Answer}
use Rattle.gup_plain.specs.declared.answer.Answer.TheVariants as answers
use Rattle.gup_script.specs.declared.op.Op.TheVariants.{Map, Protect}
use Rattle.gup_spec_events.specs.State.{CoreState}
use Rattle.gup_spec_events.specs.Event.{IsAllowed, has_tables}
use Rattle.gup_plain.specs.Denial.{any_below, any_unmapped, map_denial, protect_denial}
use Rattle.gup_spec_journal.specs.Follows.{refuses}
use Rattle.gup_spec_turns.specs.CoreTurn.{free_from, free_in, frame_for}
use Rattle.gup_law_turns.proofs.Puts.{some_same}

-- the lowest number that passes a test: it is in range and passes, and none before it does
pub record IsLowest (first n : ℕ) (test : ℕ → Bool) (f : ℕ) : Type 0 where
  pub from : first ≤ f
  pub below : f < first + n
  pub passes : test f ≡ true
  pub others : (k : ℕ) → first ≤ k → k < f → test k ≡ false

-- one step further: what fails at the first and from the next on, fails from the first on
fails_from : (test : ℕ → Bool) (first k : ℕ) → first ≤ k → test first ≡ false → (first + 1 ≤ k → test k ≡ false) → test k ≡ false
fails_from test first k least e later = elim (eq-or-lt_of_le least) [ inl same ↦ ap test (sym same) ∙ e | inr more ↦ later (omega arith) ]

pub lowest_some : (first n f : ℕ) (test : ℕ → Bool) → lowest first n test ≡ Some f → IsLowest first n test f
lowest_some first zero f test is = absurd (cc is)
lowest_some first (suc n) f test is = go (test first) refl is (lowest_some (first + 1) n f test)
  where
    go : (b : Bool) → test first ≡ b → cond b (Some first) (lowest (first + 1) n test) ≡ Some f → (lowest (first + 1) n test ≡ Some f → IsLowest (first + 1) n test f) → IsLowest first (suc n) test f
    go true e now later =
        let same : first ≡ f = some_same now in
        record {
          from = omega arith;
          below = omega arith;
          passes = subst (λ (k : ℕ). test k ≡ true) same e;
          others = λ k least less. absurd (omega arith);
        }
    go false e now later =
        let found = later now in
        let from : first + 1 ≤ f = found.from in
        let below : f < first + 1 + n = found.below in
        record {
          from = omega arith;
          below = omega arith;
          passes = found.passes;
          others = λ k least less. fails_from test first k least e (λ more. found.others k more less);
        }

-- where none is found, none passes
pub lowest_none : (first n : ℕ) (test : ℕ → Bool) → lowest first n test ≡ None → (k : ℕ) → first ≤ k → k < first + n → test k ≡ false
lowest_none first zero test is k least below = absurd (omega arith)
lowest_none first (suc n) test is k least below = go (test first) refl is (λ e more. lowest_none (first + 1) n test e k more (omega arith))
  where
    go : (b : Bool) → test first ≡ b → cond b (Some first) (lowest (first + 1) n test) ≡ None → (lowest (first + 1) n test ≡ None → first + 1 ≤ k → test k ≡ false) → test k ≡ false
    go true e now later = absurd (cc now)
    go false e now later = fails_from test first k least e (later now)

-- a free frame of n from the first on is one of them, and free
free_from_free : (s : CoreState) (first n f : ℕ) → free_from s first n ≡ Some f → (first ≤ f) × (f < first + n) × (s.count f ≡ 0)
free_from_free s first n f is =
    let found = lowest_some first n f (λ g. s.count g == 0) is in
    let free : (s.count f == 0) ≡ true = found.passes in
    (found.from, found.below, grind (arith, nat_tests))

-- where there is none, each of them has a reference
none_free_from : (s : CoreState) (first n : ℕ) → free_from s first n ≡ None → (f : ℕ) → first ≤ f → f < first + n → s.count f ≡ 0 → ⊥
none_free_from s first n is f from below none =
    let taken : (s.count f == 0) ≡ false = lowest_none first n (λ g. s.count g == 0) is f from below in
    grind (arith, nat_tests)

-- the free frame of these zones is a frame, and free
pub free_in_free : (s : CoreState) (allowed : Allowed) (f : ℕ) → free_in s allowed ≡ Some f → (f < s.movable + s.normal) × (s.count f ≡ 0)
free_in_free s Any f is =
    let found = free_from_free s 0 (s.movable + s.normal) f is in (let below = found.1 in omega (arith, below), found.2)
free_in_free s (Only Movable) f is =
    let found = free_from_free s 0 s.movable f is in (let below = found.1 in omega (arith, below), found.2)
free_in_free s (Only Normal) f is = let found = free_from_free s s.movable s.normal f is in (found.1, found.2)

-- and of these zones
pub free_in_allowed : (s : CoreState) (allowed : Allowed) (f : ℕ) → free_in s allowed ≡ Some f → IsAllowed s allowed f
free_in_allowed s Any f is = tt
free_in_allowed s (Only Movable) f is =
    let found = free_from_free s 0 s.movable f is in let below = found.1 in omega (arith, below)
free_in_allowed s (Only Normal) f is = (free_from_free s s.movable s.normal f is).0

-- where there is none, each frame of these zones has a reference
pub none_free_in : (s : CoreState) (allowed : Allowed) → free_in s allowed ≡ None → (f : ℕ) → f < s.movable + s.normal → IsAllowed s allowed f → s.count f ≡ 0 → ⊥
none_free_in s Any is f below there none = none_free_from s 0 (s.movable + s.normal) is f (omega arith) (omega arith) none
none_free_in s (Only Movable) is f below there none = none_free_from s 0 s.movable is f (omega arith) (omega arith) none
none_free_in s (Only Normal) is f below there none = none_free_from s s.movable s.normal is f there below none

-- the frame that is found for a page is free, and the page lacks no table
pub frame_for_free : (s : CoreState) (p page : ℕ) (allowed : Allowed) (f : ℕ) → frame_for s p page allowed ≡ Some f → (f < s.movable + s.normal) × (s.count f ≡ 0) × (has_tables s p page ≡ true)
frame_for_free s p page allowed f = go (has_tables s p page) refl
  where
    go : (may : Bool) → has_tables s p page ≡ may → (if may then free_in s allowed else None) ≡ Some f → (f < s.movable + s.normal) × (s.count f ≡ 0) × (has_tables s p page ≡ true)
    go true has found = let free = free_in_free s allowed f found in (free.0, free.1, has)
    go false lacks found = absurd (cc found)

-- no number below n passes
pub none_below : (n : ℕ) (test : ℕ → Bool) → any_below n test ≡ false → (k : ℕ) → k < n → test k ≡ false
none_below zero test is k below = absurd (omega arith)
none_below (suc n) test is k below = go (any_below n test) (test n) refl refl is (λ e. none_below n test e k)
  where
    go : (b c : Bool) → any_below n test ≡ b → test n ≡ c → b || c ≡ false → (any_below n test ≡ false → k < n → test k ≡ false) → test k ≡ false
    go true c eb ec e earlier = absurd (cc e)
    go false true eb ec e earlier = absurd (cc e)
    go false false eb ec e earlier = let near : k ≤ n = omega arith in elim (eq-or-lt_of_le near) [ inl same ↦ ap test same ∙ ec | inr less ↦ earlier eb less ]

-- what a mapping that isn't denied may rest on
pub undenied_map : (overlaps : Bool) (pages n : ℕ) → map_denial overlaps pages n ≡ None → (overlaps ≡ false) × (pages + n ≤ most_pages)
undenied_map true pages n is = absurd (cc is)
undenied_map false pages n is = go (nat_lt most_pages (pages + n)) refl is
  where
    go : (b : Bool) → nat_lt most_pages (pages + n) ≡ b → cond b (Some answers.Full) None ≡ None → (false ≡ false) × (pages + n ≤ most_pages)
    go true e now = absurd (cc now)
    go false e now = (refl, grind (arith, nat_tests))

-- what denies a mapping is a refusal of mappings
pub denied_map : (page n : ℕ) (rights : Rights) (overlaps : Bool) (pages : ℕ) (answer : Answer) → map_denial overlaps pages n ≡ Some answer → IsTrue (refuses (Map page n rights) answer)
denied_map page n rights true pages answer is = subst (λ (x : Answer). IsTrue (refuses (Map page n rights) x)) (some_same is) refl
denied_map page n rights false pages answer is = go (nat_lt most_pages (pages + n)) is
  where
    go : (b : Bool) → cond b (Some answers.Full) None ≡ Some answer → IsTrue (refuses (Map page n rights) answer)
    go true now = subst (λ (x : Answer). IsTrue (refuses (Map page n rights) x)) (some_same now) refl
    go false now = absurd (cc now)

-- a protection that isn't denied finds each page mapped
pub undenied_protect : (right : ℕ → Option Rights) (page n : ℕ) → protect_denial (any_unmapped right page n) ≡ None → (k : ℕ) → k < n → IsSome (right (page + k))
undenied_protect right page n is k below = named (right (page + k)) (none_below n (λ j. not (is_some (right (page + j)))) (go (any_unmapped right page n) is) k below)
  where
    go : (b : Bool) → protect_denial b ≡ None → b ≡ false
    go true now = absurd (cc now)
    go false now = refl

    named : (o : Option Rights) → not (is_some o) ≡ false → IsSome o
    named None e = absurd (cc e)
    named (Some rights) e = refl

-- what denies a protection is a refusal of protections
pub denied_protect : (page n : ℕ) (rights : Rights) (lacks : Bool) (answer : Answer) → protect_denial lacks ≡ Some answer → IsTrue (refuses (Protect page n rights) answer)
denied_protect page n rights true answer is = subst (λ (x : Answer). IsTrue (refuses (Protect page n rights) x)) (some_same is) refl
denied_protect page n rights false answer is = absurd (cc is)
