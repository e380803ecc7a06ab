-- What an event makes of one page: of the birth of its process, of its rights and of when it was mapped, and what that makes of whether it
-- was unnamed since.
use Rattle.std.proofs.Common.{◌≡◌, ℕ, ◌+◌, ◌≤◌, ◌&&◌, ◌||◌, nat_lt, Bool, true, false, is_none, Option, None, refl, sym, arith, ◌∙◌, ap}
use Rattle.std.proofs.lemmas.Bool.Decides.{nat_tests}
use Rattle.gup_base.specs.declared.entry.Rights.{Rights}
use Rattle.gup_plain.specs.State.{PlainState, Birth, unborn, growing, born, failed}
use Rattle.gup_spec_accepted.specs.Passing.{lacks_name, is_unnamed}
use Rattle.gup_spec_check.specs.Times.{is_born, unnamed_since}
use Rattle.gup_check_pages.proofs.Tests.{or_true, or_false}

-- the birth, whether the page is unmapped, and when it was mapped, before and after, where the note after has the number count + 1
pub data Change (b B : Birth) (r R : Option Rights) (m M count : ℕ) : Type 0 where
  alike : B ≡ b → is_none R ≡ is_none r → M ≡ m → Change b B r R m M count
  -- it was unnamed just before
  mapped : b ≡ born → r ≡ None → B ≡ born → M ≡ count + 1 → Change b B r R m M count
  -- it is unnamed now
  unmapped : B ≡ born → R ≡ None → M ≡ m → Change b B r R m M count
  -- its process wasn't born
  fresh : is_born b ≡ false → M ≡ 0 → Change b B r R m M count

-- what is known of when pages were mapped: never, of a process that isn't born, and at no note to come
pub record Stands (s : PlainState) (count : ℕ) (times : ℕ → ℕ → ℕ) : Type 0 where
  pub unborn : (p page : ℕ) → is_born (s.birth p) ≡ false → times p page ≡ 0
  pub counted : (p page : ℕ) → times p page ≤ count

-- A note leads there: what was unnamed since, is that, and what is unnamed now.
pub record Leads (s S : PlainState) (count : ℕ) (times after : ℕ → ℕ → ℕ) : Type 0 where
  pub stands : Stands S (count + 1) after
  pub since : (since p page : ℕ) → since ≤ count → (unnamed_since s times since p page || is_unnamed S p page) ≡ unnamed_since S after since p page

not_below : (n : ℕ) → nat_lt n 0 ≡ false
not_below n = grind (arith, nat_tests)

later : (n count : ℕ) → n ≤ count → nat_lt n (count + 1) ≡ true
later n count le = grind (arith, nat_tests)

born_is : is_born born ≡ false → ⊥
born_is wrong = absurd (cc)

pub lacks_as : (b : Birth) (r : Option Rights) → lacks_name b r ≡ (is_born b && is_none r)
lacks_as born r = refl
lacks_as unborn r = refl
lacks_as (growing parent) r = refl
lacks_as failed r = refl

absorbed : (born none late : Bool) → ((born && (none || late)) || (born && none)) ≡ (born && (none || late))
absorbed false none late = refl
absorbed true true late = refl
absorbed true false true = refl
absorbed true false false = refl

same_since : (b : Birth) (r R : Option Rights) (since m : ℕ) → is_none R ≡ is_none r → ((is_born b && (is_none r || nat_lt since m)) || lacks_name b R) ≡ (is_born b && (is_none R || nat_lt since m))
same_since b r R since m same = rw (lacks_as, same) (absorbed (is_born b) (is_none r) (nat_lt since m))

since_at : (b B : Birth) (r R : Option Rights) (m M count since : ℕ) → since ≤ count → Change b B r R m M count → ((is_born b && (is_none r || nat_lt since m)) || lacks_name B R) ≡ (is_born B && (is_none R || nat_lt since M))
since_at b B r R m M count since le (alike birth right time) = rw (birth, time) (same_since b r R since m right)
since_at b B r R m M count since le (mapped was none is time) = rw (was, none, is, time, later since count le) (sym (or_true (is_none R)))
since_at b B r R m M count since le (unmapped is none time) = rw (is, none) (or_true (is_born b && (is_none r || nat_lt since m)))
since_at b B r R m M count since le (fresh wasnt time) = rw (wasnt, time, not_below since) (lacks_as B R ∙ ap (λ (x : Bool). is_born B && x) (sym (or_false (is_none R))))

unborn_at : (b B : Birth) (r R : Option Rights) (m M count : ℕ) → (is_born b ≡ false → m ≡ 0) → Change b B r R m M count → is_born B ≡ false → M ≡ 0
unborn_at b B r R m M count had (alike birth right time) not = time ∙ had (rw birth at not)
unborn_at b B r R m M count had (mapped was none is time) not = absurd (born_is (rw is at not))
unborn_at b B r R m M count had (unmapped is none time) not = absurd (born_is (rw is at not))
unborn_at b B r R m M count had (fresh wasnt time) not = time

counted_at : (b B : Birth) (r R : Option Rights) (m M count : ℕ) → m ≤ count → Change b B r R m M count → M ≤ count + 1
counted_at b B r R m M count had (alike birth right time) = omega arith
counted_at b B r R m M count had (mapped was none is time) = omega arith
counted_at b B r R m M count had (unmapped is none time) = omega arith
counted_at b B r R m M count had (fresh wasnt time) = omega arith

abbrev pub ChangesAt : (s S : PlainState) (count : ℕ) (times after : ℕ → ℕ → ℕ) (p page : ℕ) → Type 0
ChangesAt s S count times after p page =
    Change (s.birth p) (S.birth p) (s.right p page) (S.right p page) (times p page) (after p page) count

abbrev pub Changes : (s S : PlainState) (count : ℕ) (times after : ℕ → ℕ → ℕ) → Type 0
Changes s S count times after = (p page : ℕ) → ChangesAt s S count times after p page

pub leads : (s S : PlainState) (count : ℕ) (times after : ℕ → ℕ → ℕ) → Stands s count times → Changes s S count times after → Leads s S count times after
leads s S count times after stands changes =
    record {
      stands = record {
        unborn = λ p page. unborn_at (s.birth p) (S.birth p) (s.right p page) (S.right p page) (times p page) (after p page) count (stands.unborn p page) (changes p page);
        counted = λ p page. counted_at (s.birth p) (S.birth p) (s.right p page) (S.right p page) (times p page) (after p page) count (stands.counted p page) (changes p page);
      };
      since = λ since p page le. since_at (s.birth p) (S.birth p) (s.right p page) (S.right p page) (times p page) (after p page) count since le (changes p page);
    }
