-- What is known of a chain of tests that gave something, or stopped. `Tried` says that a chain's next test is this
-- one, whatever comes of it, so that the laws in both directions follow from it.
use Rattle.std.proofs.Common.{◌≡◌, ℕ, Bool, true, false, List, Option, Some, None, is_none, Result, Ok, Err, refl, ap, inl, inr}
use Rattle.std.specs.Bool.{Decides}
use Rattle.std.specs.Str.{bytes_eq}
use Rattle.std.proofs.lemmas.Slice.Eq.{bytes_eq-Decides}
use Rattle.gup_spec_grammar.specs.Names.{NamedEntry, find, is_unused}
use Rattle.gup_spec_grammar.specs.declared.fault.Reason.{Reason}
use Rattle.gup_spec_grammar.specs.Fault.{Unless}
use Rattle.gup_read.specs.Reading.{◌>>=◌, check, need}

-- ---- a chain that gave something

-- ---- a chain that stopped

-- ---- words

pub same_word : (word : List ℕ) (text : List ℕ) → bytes_eq word text ≡ true → word ≡ text
same_word word text e = (bytes_eq-Decides word text).0 e

pub word_again : (word : List ℕ) (text : List ℕ) → word ≡ text → bytes_eq word text ≡ true
word_again word text e = (bytes_eq-Decides word text).1 e

pub other_word : (word : List ℕ) (text : List ℕ) → bytes_eq word text ≡ false → word ≡ text → ⊥
other_word word text e same = absurd (cc (word_again word text same))

-- ---- names

pub unused_Decides : (es : List NamedEntry) (name : List ℕ) → Decides (is_unused es name) (find es name ≡ None)
unused_Decides es name = way (find es name) refl where
  way : (o : Option _) → find es name ≡ o → Decides (is_none o) (o ≡ None)
  way None e = (λ h. refl, λ h. refl)
  way (Some n) e = (λ h. absurd cc, λ h. absurd cc)

-- ---- a chain whose next test is this one

-- the chain stops at the test, for its reason, where the test fails, and else goes on after it
pub data Tried {B : Type 0} (this : Reason) (test : Type 0) (behind : Result B Reason → Type 0) (result : Result B Reason) : Type 0 where
  stops : (because : result ≡ Err this) → (failed : test → ⊥) → Tried this test behind result
  goes : (passed : test) → (on : behind result) → Tried this test behind result

pub checked : {B : Type 0} {this : Reason} {b : Bool} {test : Type 0} (f : Unit → Result B Reason) {behind : Result B Reason → Type 0} → Decides b test → (test → behind (f tt)) → Tried this test behind (check this b >>= f)
checked {b = true} f d next = goes (d.0 refl) (next (d.0 refl))
checked {b = false} f d next = stops refl (λ t. absurd (cc (d.1 t)))

pub needed : {A B : Type 0} {this : Reason} {o : Option A} {test : Type 0} (f : A → Result B Reason) {behind : Result B Reason → Type 0} → ((x : A) → o ≡ Some x → test × behind (f x)) → (test → o ≡ None → ⊥) → Tried this test behind (need this o >>= f)
needed {o = Some x} f found read = let h = found x refl in goes h.0 h.1
needed {o = None} f found read = stops refl (λ t. read t refl)

-- two tests of one reason
pub both : {B : Type 0} {this : Reason} {one two : Type 0} {behind : Result B Reason → Type 0} {result : Result B Reason} → Tried this one (Tried this two behind) result → Tried this (one × two) behind result
both (stops because failed) = stops because (λ t. failed t.0)
both (goes first (stops because failed)) = stops because (λ t. failed t.1)
both (goes first (goes second on)) = goes (first, second) on

-- three tests of one reason
pub all_three : {B : Type 0} {this : Reason} {one two three : Type 0} {behind : Result B Reason → Type 0} {result : Result B Reason} → Tried this one (Tried this two (Tried this three behind)) result → Tried this (one × two × three) behind result
all_three (stops because failed) = stops because (λ t. failed t.0)
all_three (goes first (stops because failed)) = stops because (λ t. failed t.1)
all_three (goes first (goes second (stops because failed))) = stops because (λ t. failed t.2)
all_three (goes first (goes second (goes third on))) = goes (first, second, third) on

-- a chain before further steps
pub carried : {A B : Type 0} {this : Reason} {test : Type 0} {behind : Result A Reason → Type 0} {after : Result B Reason → Type 0} (f : A → Result B Reason) {result : Result A Reason} → (behind result → after (result >>= f)) → Tried this test behind result → Tried this test after (result >>= f)
carried f next (stops because failed) = stops (ap (λ r. r >>= f) because) failed
carried f next (goes passed on) = goes passed (next on)

-- what a chain that gave something, or stopped, says of its tests, and the other way round

pub tried_ok : {B : Type 0} {this : Reason} {test : Type 0} {behind : Result B Reason → Type 0} {result : Result B Reason} {x : B} → Tried this test behind result → result ≡ Ok x → test × behind result
tried_ok (stops because failed) e = absurd cc
tried_ok (goes passed on) e = (passed, on)

pub tried_err : {B : Type 0} {this : Reason} {test : Type 0} {behind : Result B Reason → Type 0} {result : Result B Reason} {q : Reason} {later : Type 0} → Tried this test behind result → result ≡ Err q → (behind result → later) → Unless this test q later
tried_err (stops because failed) e next = inl (cc, failed)
tried_err (goes passed on) e next = inr (passed, next on)

pub tried_pass : {B : Type 0} {this : Reason} {test : Type 0} {behind : Result B Reason → Type 0} {result : Result B Reason} → Tried this test behind result → test → behind result
tried_pass (stops because failed) t = absurd (failed t)
tried_pass (goes passed on) t = on

pub tried_stop : {B : Type 0} {this : Reason} {test : Type 0} {behind : Result B Reason → Type 0} {result : Result B Reason} {q : Reason} {later : Type 0} → Tried this test behind result → Unless this test q later → (behind result → later → result ≡ Err q) → result ≡ Err q
tried_stop (stops because failed) (inl h) next = cc
tried_stop (stops because failed) (inr h) next = absurd (failed h.0)
tried_stop (goes passed on) (inl h) next = absurd (h.1 passed)
tried_stop (goes passed on) (inr h) next = next on h.1
