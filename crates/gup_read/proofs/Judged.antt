-- What an `on` line's action comes to: its tests in their order, and then an operation. For each form that a test has in the reader, the condition in the grammar that it tests.
use Rattle.std.proofs.Common.{◌≡◌, ℕ, ◌^◌, ◌<◌, Bool, true, false, not, cond, ltb, List, length, Option, Some, None, Result, Ok, Err, refl, ap, ◌⊎◌, inl, inr, ◌==◌, ◌∙◌}
use Rattle.std.specs.Bool.{Decides}
use Rattle.std.proofs.lemmas.Bool.{ltb-true, lt-ltb}
use Rattle.std.proofs.lemmas.Bool.Decides.{Decides-eqb}
use Rattle.gup_read_words.specs.Text.{number_in, count_in, index_in, page_in, word_no_in, address_in, range_in, is_name}
use Rattle.gup_spec_grammar.specs.Spelling.{IsNumber, IsCount, IsIndex, IsPage, IsWordNo, IsAddress, IsRange, IsName}
use Rattle.gup_read_words.proofs.SpelledNumbers.{number_found, number_read, count_found, count_read, index_found, index_read, page_found, page_read, word_no_found, word_no_read}
use Rattle.gup_read_words.proofs.SpelledPlaces.{address_found, address_read, range_found, range_read}
use Rattle.gup_read_words.proofs.SpelledNames.{name_found, name_read}
use Rattle.gup_spec_grammar.specs.Names.{find}
use Rattle.gup_spec_grammar.specs.declared.named.Named.{Named}
use Rattle.gup_spec_grammar.specs.declared.named.Named.TheVariants as named
use Rattle.gup_script.specs.declared.op.Op.{Op}
use Rattle.gup_spec_grammar.specs.declared.fault.Reason.{Reason}
use Rattle.gup_spec_grammar.specs.declared.fault.Reason.TheVariants as reasons
use Rattle.gup_spec_grammar.specs.Said.{Word, Action, action_words, IsShaped}
use Rattle.gup_spec_grammar.specs.Outline.{Outline, is_child, is_forked, next_handle, slot_of, is_receiver}
use Rattle.gup_script.specs.Limits.{most_handles, most_mirrors}
use Rattle.gup_spec_grammar.specs.Grammar.{ActionNumbers, ActionNames, ActionOnce, DeclaredLimits, Means, NamesProcess, NamesActor, NamesPin, NamesGot, IsUnused, IsMirrorOf, NamesMirror}
use Rattle.gup_read.specs.Reading.{◌>>=◌, check, need}
use Rattle.gup_read_outline.specs.Named.{process_of, actor_of, pin_of, got_of, mirror_of, is_mirror_of, may_mirror}
use Rattle.gup_read.proofs.Chains.{Tried, stops, goes, needed}
use Rattle.gup_read.proofs.ActionWords.{action_in}

-- ---- what an action comes to

pub data Ends (st : Outline) (action : Action) (result : Result Op Reason) : Type 0 where
  built : (op : Op) → (given : result ≡ Ok op) → (means : Means st action op) → Ends st action result

abbrev pub Judged : Outline → (actor : ℕ) → Action → Result Op Reason → Type 0
Judged st a action =
    Tried reasons.Shape (IsShaped action)
    (Tried reasons.Number (ActionNumbers action)
    (Tried reasons.Name (ActionNames st a action)
    (Tried reasons.Twice (ActionOnce st action)
    (Tried reasons.Limit (DeclaredLimits st action) (Ends st action)))))

-- what words come to: they say an action, or none
abbrev pub Told : Outline → (actor : ℕ) → List Word → Result Op Reason → Type 0
Told st a words result =
    ((action : Action) × (words ≡ action_words action) × Judged st a action result)
    ⊎ ((result ≡ Err reasons.Shape) × (action_in words ≡ None))

-- ---- numbers

-- a number of some kind
numbered : {B : Type 0} (find_in : Word → Option ℕ) (Spelled : Word → ℕ → Type 0) (word : Word) (f : ℕ → Result B Reason) {behind : Result B Reason → Type 0} → ((n : ℕ) → find_in word ≡ Some n → Spelled word n) → ((n : ℕ) → Spelled word n → find_in word ≡ Some n) → ((n : ℕ) → Spelled word n → behind (f n)) → Tried reasons.Number ((n : ℕ) × Spelled word n) behind (need reasons.Number (find_in word) >>= f)
numbered find_in Spelled word f found read next =
    needed f (λ n e. ((n, found n e), next n (found n e))) (λ t none. absurd (cc (read t.0 t.1)))

pub number_step : {B : Type 0} (word : Word) (f : ℕ → Result B Reason) {behind : Result B Reason → Type 0} → ((n : ℕ) → IsNumber word n → behind (f n)) → Tried reasons.Number ((n : ℕ) × IsNumber word n) behind (need reasons.Number (number_in word) >>= f)
number_step word f next = numbered number_in IsNumber word f (number_found word) (number_read word) next

pub count_step : {B : Type 0} (least most : ℕ) (word : Word) (f : ℕ → Result B Reason) {behind : Result B Reason → Type 0} → most < 2 ^ 64 → ((n : ℕ) → IsCount least most word n → behind (f n)) → Tried reasons.Number ((n : ℕ) × IsCount least most word n) behind (need reasons.Number (count_in least most word) >>= f)
count_step least most word f few next =
    numbered (count_in least most) (IsCount least most) word f (count_found least most word) (λ n h. count_read least most word n few h) next

pub index_step : {B : Type 0} (word : Word) (f : ℕ → Result B Reason) {behind : Result B Reason → Type 0} → ((n : ℕ) → IsIndex word n → behind (f n)) → Tried reasons.Number ((n : ℕ) × IsIndex word n) behind (need reasons.Number (index_in word) >>= f)
index_step word f next = numbered index_in IsIndex word f (index_found word) (index_read word) next

pub page_step : {B : Type 0} (word : Word) (f : ℕ → Result B Reason) {behind : Result B Reason → Type 0} → ((n : ℕ) → IsPage word n → behind (f n)) → Tried reasons.Number ((n : ℕ) × IsPage word n) behind (need reasons.Number (page_in word) >>= f)
page_step word f next = numbered page_in IsPage word f (page_found word) (page_read word) next

pub word_no_step : {B : Type 0} (word : Word) (f : ℕ → Result B Reason) {behind : Result B Reason → Type 0} → ((n : ℕ) → IsWordNo word n → behind (f n)) → Tried reasons.Number ((n : ℕ) × IsWordNo word n) behind (need reasons.Number (word_no_in word) >>= f)
word_no_step word f next = numbered word_no_in IsWordNo word f (word_no_found word) (word_no_read word) next

pub address_step : {B : Type 0} (word : Word) (f : ℕ × ℕ → Result B Reason) {behind : Result B Reason → Type 0} → ((page w : ℕ) → IsAddress word page w → behind (f (page, w))) → Tried reasons.Number ((page w : ℕ) × IsAddress word page w) behind (need reasons.Number (address_in word) >>= f)
address_step word f next =
    needed f
    (λ at e.
    let h = address_found word at.0 at.1 e in
    ((at.0, at.1, h), next at.0 at.1 h))
    (λ t none. absurd (cc (address_read word t.0 t.1 t.2)))

pub range_step : {B : Type 0} (most : ℕ) (first count : Word) (f : ℕ × ℕ → Result B Reason) {behind : Result B Reason → Type 0} → ((page n : ℕ) → IsRange most first count page n → behind (f (page, n))) → Tried reasons.Number ((page n : ℕ) × IsRange most first count page n) behind (need reasons.Number (range_in most first count) >>= f)
range_step most first count f next =
    needed f
    (λ range e.
    let h = range_found most first count range.0 range.1 e in
    ((range.0, range.1, h), next range.0 range.1 h))
    (λ t none. absurd (cc (range_read most first count t.0 t.1 t.2)))

-- ---- names

pub name_Decides : (word : Word) → Decides (is_name word) (IsName word)
name_Decides word = (name_found word, name_read word)

pub process_found : (o : Option Named) (p : ℕ) → process_of o ≡ Some p → o ≡ Some (named.Process p)
process_found (Some (named.Process q)) p e = cc
process_found _ p e = absurd cc

pub process_step : {B : Type 0} (st : Outline) (word : Word) (f : ℕ → Result B Reason) {behind : Result B Reason → Type 0} → ((p : ℕ) → NamesProcess st word p → behind (f p)) → Tried reasons.Name ((p : ℕ) × NamesProcess st word p) behind (need reasons.Name (process_of (find st.names word)) >>= f)
process_step st word f next =
    needed f
    (λ p e.
    let h = process_found (find st.names word) p e in
    ((p, h), next p h))
    (λ t none. absurd (cc (ap process_of t.1)))

pub actor_found : (o : Option Named) (a : ℕ) → actor_of o ≡ Some a → o ≡ Some (named.Actor a)
actor_found (Some (named.Actor b)) a e = cc
actor_found _ a e = absurd cc

-- something named, that has to pass a test
named_and_tested : {B : Type 0} {behind : Result B Reason → Type 0} (o : Option ℕ) (Fits : ℕ → Type 0) (test : ℕ → Bool) (f : ℕ → Unit → Result B Reason) → ((n : ℕ) → o ≡ Some n → Fits n) → ((n : ℕ) → Fits n → o ≡ Some n) → ((n : ℕ) → Fits n → behind (f n tt)) → Tried reasons.Name ((n : ℕ) × Fits n × (test n ≡ true)) behind (need reasons.Name o >>= λ n. check reasons.Name (test n) >>= f n)
named_and_tested None Fits test f found read next = stops refl (λ h. absurd (cc (read h.0 h.1)))
named_and_tested {behind = behind} (Some n) Fits test f found read next = tested (test n) refl where
  tested : (b : Bool) → test n ≡ b → Tried reasons.Name ((m : ℕ) × Fits m × (test m ≡ true)) behind (check reasons.Name b >>= f n)
  tested true e = goes (n, found n refl, e) (next n (found n refl))
  tested false e = stops refl (λ h. let one : n ≡ h.0 = cc (read h.0 h.1) in absurd (cc (one, e, h.2)))

pub child_step : {B : Type 0} (st : Outline) (word : Word) (f : ℕ → Unit → Result B Reason) {behind : Result B Reason → Type 0} → ((p : ℕ) → NamesProcess st word p → behind (f p tt)) → Tried reasons.Name ((p : ℕ) × NamesProcess st word p × (is_child st p ≡ true)) behind (need reasons.Name (process_of (find st.names word)) >>= λ p. check reasons.Name (is_child st p) >>= f p)
child_step st word f next =
    named_and_tested (process_of (find st.names word)) (NamesProcess st word) (is_child st) f (process_found (find st.names word)) (λ p h. ap process_of h) next

-- a child that no fork brings so far
pub unforked_Decides : (st : Outline) (word : Word) (p : ℕ) → NamesProcess st word p → Decides (not (is_forked st p)) ((q : ℕ) × NamesProcess st word q × (is_forked st q ≡ false))
unforked_Decides st word p named = way (is_forked st p) refl where
  way : (b : Bool) → is_forked st p ≡ b → Decides (not b) ((q : ℕ) × NamesProcess st word q × (is_forked st q ≡ false))
  way true e = (λ t. absurd cc, λ h. let one : p ≡ h.0 = cc (named, h.1) in absurd (cc (one, e, h.2)))
  way false e = (λ t. (p, named, e), λ h. refl)

pub receiver_step : {B : Type 0} (st : Outline) (word : Word) (f : ℕ → Unit → Result B Reason) {behind : Result B Reason → Type 0} → ((a : ℕ) → NamesActor st word a → behind (f a tt)) → Tried reasons.Name ((a : ℕ) × NamesActor st word a × (is_receiver st a ≡ true)) behind (need reasons.Name (actor_of (find st.names word)) >>= λ a. check reasons.Name (is_receiver st a) >>= f a)
receiver_step st word f next =
    named_and_tested (actor_of (find st.names word)) (NamesActor st word) (is_receiver st) f (actor_found (find st.names word)) (λ a h. ap actor_of h) next

pin_found : (o : Option Named) (h : ℕ) → pin_of o ≡ Some h → o ≡ Some (named.Pin h)
pin_found (Some (named.Pin q)) h e = cc
pin_found _ h e = absurd cc

pub pin_step : {B : Type 0} (st : Outline) (word : Word) (f : ℕ → Result B Reason) {behind : Result B Reason → Type 0} → ((h : ℕ) → NamesPin st word h → behind (f h)) → Tried reasons.Name ((h : ℕ) × NamesPin st word h) behind (need reasons.Name (pin_of (find st.names word)) >>= f)
pin_step st word f next =
    needed f
    (λ h e.
    let is = pin_found (find st.names word) h e in
    ((h, is), next h is))
    (λ t none. absurd (cc (ap pin_of t.1)))

got_found : (o : Option Named) (h : ℕ) → got_of o ≡ Some h → o ≡ Some (named.Got h)
got_found (Some (named.Got q)) h e = cc
got_found _ h e = absurd cc

pub got_step : {B : Type 0} (st : Outline) (word : Word) (f : ℕ → Result B Reason) {behind : Result B Reason → Type 0} → ((h : ℕ) → NamesGot st word h → behind (f h)) → Tried reasons.Name ((h : ℕ) × NamesGot st word h) behind (need reasons.Name (got_of (find st.names word)) >>= f)
got_step st word f next =
    needed f
    (λ h e.
    let is = got_found (find st.names word) h e in
    ((h, is), next h is))
    (λ t none. absurd (cc (ap got_of t.1)))

-- ---- one more handle

pub handle_step : {B : Type 0} (st : Outline) (f : ℕ → Result B Reason) {behind : Result B Reason → Type 0} → behind (f (length st.script.handles)) → Tried reasons.Limit (length st.script.handles < most_handles) behind (need reasons.Limit (next_handle st) >>= f)
handle_step st f {behind} next = way (ltb (length st.script.handles) most_handles) refl where
  way : (b : Bool) → ltb (length st.script.handles) most_handles ≡ b → Tried reasons.Limit (length st.script.handles < most_handles) behind (need reasons.Limit (cond b (Some (length st.script.handles)) None) >>= f)
  way true e = goes (ltb-true _ _ e) next
  way false e = stops refl (λ lt. absurd (cc (e, lt-ltb _ _ lt)))

-- ---- mirror slots

pub mirror_Decides : (a : ℕ) (o : Option Named) → Decides (is_mirror_of a o) ((m : ℕ) × (o ≡ Some (named.Mirror m a)))
mirror_Decides a (Some (named.Mirror m b)) = (λ e. (m, ap (λ (n : ℕ). Some (named.Mirror m n)) ((Decides-eqb b a).0 e)), λ h. (Decides-eqb b a).1 (cc h.1))
mirror_Decides a _ = (λ e. absurd cc, λ h. absurd (cc h.1))

-- a mirror line's slot: a name that it may declare, or one of this device
pub slot_Decides : (a : ℕ) (word : Word) (o : Option Named) → Decides (may_mirror a word o) ((IsName word × (o ≡ None)) ⊎ ((m : ℕ) × (o ≡ Some (named.Mirror m a))))
slot_Decides a word None = (λ e. inl (name_found word e, refl), λ h. elim h [ inl n ↦ name_read word n.0 | inr m ↦ absurd (cc m.1) ])
slot_Decides a word (Some n) = (λ e. inr ((mirror_Decides a (Some n)).0 e), λ h. elim h [ inl u ↦ absurd (cc u.1) | inr m ↦ (mirror_Decides a (Some n)).1 m ])

-- a slot of this device: its name, and then its number
pub own_step : {B : Type 0} (st : Outline) (a : ℕ) (word : Word) (f : Unit → ℕ → Result B Reason) {behind : Result B Reason → Type 0} → ((m : ℕ) → NamesMirror st word m → behind (f tt m)) → Tried reasons.Name (IsMirrorOf st a word) behind (check reasons.Name (is_mirror_of a (find st.names word)) >>= λ u. need reasons.Name (mirror_of (find st.names word)) >>= f u)
own_step st a word f {behind} next = way (find st.names word) refl where
  tested : (m owner : ℕ) → find st.names word ≡ Some (named.Mirror m owner) → (b : Bool) → (owner == a) ≡ b → Tried reasons.Name (IsMirrorOf st a word) behind (check reasons.Name b >>= λ u. f u m)
  tested m owner e true own = goes (m, e ∙ ap (λ (n : ℕ). Some (named.Mirror m n)) ((Decides-eqb owner a).0 own)) (next m (owner, e))
  tested m owner e false own = stops refl (λ h. let same : owner ≡ a = cc (e, h.1) in absurd (cc (own, (Decides-eqb owner a).1 same)))

  way : (o : Option Named) → find st.names word ≡ o → Tried reasons.Name (IsMirrorOf st a word) behind (check reasons.Name (is_mirror_of a o) >>= λ u. need reasons.Name (mirror_of o) >>= f u)
  way (Some (named.Mirror m owner)) e = tested m owner e (owner == a) refl
  way None e = stops refl (λ h. absurd (cc (e, h.1)))
  way (Some (named.Process p)) e = stops refl (λ h. absurd (cc (e, h.1)))
  way (Some (named.Actor b)) e = stops refl (λ h. absurd (cc (e, h.1)))
  way (Some (named.Pin h)) e = stops refl (λ g. absurd (cc (e, g.1)))
  way (Some (named.Got h)) e = stops refl (λ g. absurd (cc (e, g.1)))

-- the slot of a mirror: the one that the name names, or the next
abbrev pub IsSlot : Outline → Word → ℕ → Type 0
IsSlot st word m = NamesMirror st word m ⊎ (IsUnused st word × (m ≡ length st.script.mirrors))

pub slot_step : {B : Type 0} (st : Outline) (a : ℕ) (word : Word) (f : ℕ → Result B Reason) {behind : Result B Reason → Type 0} → (IsName word × IsUnused st word) ⊎ IsMirrorOf st a word → ((m : ℕ) → IsSlot st word m → behind (f m)) → Tried reasons.Limit (((m : ℕ) × NamesMirror st word m) ⊎ (length st.script.mirrors < most_mirrors)) behind (need reasons.Limit (slot_of st (find st.names word)) >>= f)
slot_step st a word f {behind} names next = way (find st.names word) refl where
  tested : find st.names word ≡ None → (b : Bool) → ltb (length st.script.mirrors) most_mirrors ≡ b → Tried reasons.Limit (((m : ℕ) × NamesMirror st word m) ⊎ (length st.script.mirrors < most_mirrors)) behind (need reasons.Limit (cond b (Some (length st.script.mirrors)) None) >>= f)
  tested e true few = goes (inr (ltb-true _ _ few)) (next (length st.script.mirrors) (inr (e, refl)))
  tested e false many = stops refl (λ h. elim h [ inl m ↦ absurd (cc (e, m.1.1)) | inr lt ↦ absurd (cc (many, lt-ltb _ _ lt)) ])

  way : (o : Option Named) → find st.names word ≡ o → Tried reasons.Limit (((m : ℕ) × NamesMirror st word m) ⊎ (length st.script.mirrors < most_mirrors)) behind (need reasons.Limit (slot_of st o) >>= f)
  way None e = tested e (ltb (length st.script.mirrors) most_mirrors) refl
  way (Some (named.Mirror m owner)) e = goes (inl (m, (owner, e))) (next m (inl (owner, e)))
  way (Some (named.Process p)) e = absurd (elim names [ inl new ↦ cc (e, new.1) | inr own ↦ cc (e, own.1) ])
  way (Some (named.Actor b)) e = absurd (elim names [ inl new ↦ cc (e, new.1) | inr own ↦ cc (e, own.1) ])
  way (Some (named.Pin h)) e = absurd (elim names [ inl new ↦ cc (e, new.1) | inr own ↦ cc (e, own.1) ])
  way (Some (named.Got h)) e = absurd (elim names [ inl new ↦ cc (e, new.1) | inr own ↦ cc (e, own.1) ])
