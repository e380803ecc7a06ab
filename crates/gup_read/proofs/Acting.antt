-- An action of an actor, with all its tests: what it comes to when its operation is put after the actor's others.
use Rattle.std.proofs.Common.{◌≡◌, ℕ, ◌<◌, List, [], ◌∷◌, Option, Some, unwrap_or, Result, Ok, Err, refl, sym, ap, subst, ◌∙◌, lit<, inl, inr}
use Rattle.std.specs.Prelude.{nat_lt}
use Rattle.std.proofs.lemmas.Bool.Decides.{Decides-ltb}
use Rattle.gup_read_words.proofs.SpelledNumbers.{number_read, page_read, word_no_read, index_read, count_read}
use Rattle.gup_read_words.proofs.SpelledPlaces.{address_read, range_read}
use Rattle.gup_read_words.specs.Text.{page_in, word_no_in, address_in, range_in, index_in, count_in}
use Rattle.gup_script.specs.declared.op.Op.{Op}
use Rattle.gup_spec_grammar.specs.declared.fault.Reason.{Reason}
use Rattle.gup_spec_grammar.specs.declared.fault.Reason.TheVariants as reasons
use Rattle.gup_spec_grammar.specs.Spelling.{IsRange, IsPage, IsWordNo, IsAddress, IsIndex, IsCount}
use Rattle.gup_spec_grammar.specs.Said.{Word, Action, maps, unmaps, protects, discards, loads, stores, exits, pins, gets, puts, forks, unpins, takes, gives, transfers, transfers_parts, mirrors, looks, write_word, action_words, IsShaped, moves, long_words}
use Rattle.gup_spec_grammar.specs.Outline.{Outline, with_operation}
use Rattle.gup_script.specs.Limits.{most_operations, most_pinned, most_words}
use Rattle.gup_spec_grammar.specs.Grammar.{ActionNumbers, ActionNames, ActionOnce, ActionLimits, NamesPin, NamesGot, NamesActor, NamesMirror, Means, with_declared, Does}
use Rattle.gup_spec_grammar.specs.Fault.{ActionFault}
use Rattle.gup_read.specs.Reading.{◌>>=◌, check, with_made}
use Rattle.gup_read.proofs.Chains.{Tried, stops, goes, checked, both, carried, tried_ok, tried_err, tried_pass, tried_stop}
use Rattle.gup_read.proofs.BuiltParts.{segments_one}
use Rattle.gup_read.proofs.Judged.{Ends, built, Judged, IsSlot}

-- ---- what an action means

-- a word, or two, say one pair of numbers at most
one_pair : (o : Option (ℕ × ℕ)) (a b c d : ℕ) → o ≡ Some (a, b) → o ≡ Some (c, d) → (a ≡ c) × (b ≡ d)
one_pair o a b c d x y =
    let same : Some (a, b) ≡ Some (c, d) = sym x ∙ y in
    (ap (λ (v : Option (ℕ × ℕ)). (unwrap_or v (a, b)).0) same, ap (λ (v : Option (ℕ × ℕ)). (unwrap_or v (a, b)).1) same)

one_range : (most : ℕ) (first count : Word) (page n other m : ℕ) → IsRange most first count page n → IsRange most first count other m → (page ≡ other) × (n ≡ m)
one_range most first count page n other m h g =
    one_pair (range_in most first count) page n other m (range_read most first count page n h) (range_read most first count other m g)

one_address : (word : Word) (page w other v : ℕ) → IsAddress word page w → IsAddress word other v → (page ≡ other) × (w ≡ v)
one_address word page w other v h g = one_pair (address_in word) page w other v (address_read word page w h) (address_read word other v g)

one_number : (o : Option ℕ) (m n : ℕ) → o ≡ Some m → o ≡ Some n → m ≡ n
one_number o m n x y = let same : Some m ≡ Some n = sym x ∙ y in ap (λ (v : Option ℕ). unwrap_or v m) same

one_index : (word : Word) (m n : ℕ) → IsIndex word m → IsIndex word n → m ≡ n
one_index word m n h g = one_number (index_in word) m n (index_read word m h) (index_read word n g)

one_count : (word : Word) (m n : ℕ) → IsCount 1 most_words word m → IsCount 1 most_words word n → m ≡ n
one_count word m n h g =
    one_number (count_in 1 most_words word) m n (count_read 1 most_words word m (lit< tt) h) (count_read 1 most_words word n (lit< tt) g)

one_pin : (st : Outline) (word : Word) (m n : ℕ) → NamesPin st word m → NamesPin st word n → m ≡ n
one_pin st word m n h g = cc

one_got : (st : Outline) (word : Word) (m n : ℕ) → NamesGot st word m → NamesGot st word n → m ≡ n
one_got st word m n h g = cc

one_page : (word : Word) (m n : ℕ) → IsPage word m → IsPage word n → m ≡ n
one_page word m n h g = one_number (page_in word) m n (page_read word m h) (page_read word n g)

one_word_no : (word : Word) (m n : ℕ) → IsWordNo word m → IsWordNo word n → m ≡ n
one_word_no word m n h g = one_number (word_no_in word) m n (word_no_read word m h) (word_no_read word n g)

one_mirror : (st : Outline) (word : Word) (m n : ℕ) → NamesMirror st word m → NamesMirror st word n → m ≡ n
one_mirror st word m n h g = cc (h.1, g.1)

one_slot : (st : Outline) (word : Word) (m n : ℕ) → IsSlot st word m → IsSlot st word n → m ≡ n
one_slot st word m n (inl h) (inl g) = one_mirror st word m n h g
one_slot st word m n (inl h) (inr g) = absurd (cc (h.1, g.0))
one_slot st word m n (inr h) (inl g) = absurd (cc (h.0, g.1))
one_slot st word m n (inr h) (inr g) = h.1 ∙ sym g.1

one_actor : (st : Outline) (word : Word) (m n : ℕ) → NamesActor st word m → NamesActor st word n → m ≡ n
one_actor st word m n h g = cc

means_one : (st : Outline) (action : Action) (x y : Op) → Means st action x → Means st action y → x ≡ y
means_one st (maps first count rights) x y h g = let same = one_range 1024 first count h.0 h.1 g.0 g.1 h.2 g.2 in cc (h.3, g.3)
means_one st (unmaps first count) x y h g = let same = one_range 1024 first count h.0 h.1 g.0 g.1 h.2 g.2 in cc (h.3, g.3)
means_one st (protects first count rights) x y h g = let same = one_range 1024 first count h.0 h.1 g.0 g.1 h.2 g.2 in cc (h.3, g.3)
means_one st (discards first count) x y h g = let same = one_range 1024 first count h.0 h.1 g.0 g.1 h.2 g.2 in cc (h.3, g.3)
means_one st (loads address) x y h g = let same = one_address address h.0 h.1 g.0 g.1 h.2 g.2 in cc (h.3, g.3)
means_one st (stores address value) x y h g =
    let same = one_address address h.0 h.1 g.0 g.1 h.3 g.3 in
    cc (h.5, g.5, number_read value h.2 h.4, number_read value g.2 g.4)
means_one st exits x y h g = h ∙ sym g
means_one st (pins fast handle first count write long) x y h g =
    let same = one_range most_pinned first count h.0 h.1 g.0 g.1 h.2 g.2 in cc (h.3, g.3)
means_one st (gets handle page) x y h g = let same = one_page page h.0 g.0 h.1 g.1 in cc (h.2, g.2)
means_one st (puts handle) x y h g = let same = one_got st handle h.0 g.0 h.1 g.1 in cc (h.2, g.2)
means_one st (forks child) x y h g = cc (h.1, h.2, g.1, g.2)
means_one st (moves process page zone) x y h g = let same = one_page page h.1 g.1 h.3 g.3 in cc (h.2, h.4, g.2, g.4)
means_one st (unpins handle) x y h g = let same = one_pin st handle h.0 g.0 h.1 g.1 in cc (h.2, g.2)
means_one st (takes handle) x y h g = let same = one_pin st handle h.0 g.0 h.1 g.1 in cc (h.2, g.2)
means_one st (gives handle to) x y h g =
    let same = one_pin st handle h.0 g.0 h.2 g.2 in
    let other = one_actor st to h.1 g.1 h.3 g.3 in
    cc (h.4, g.4)
means_one st (transfers outward handle index slot count) x y h g =
    let same = one_pin st handle h.0 g.0 h.4 g.4 in
    let first = one_index index h.1 g.1 h.5 g.5 in
    let other = one_index slot h.2 g.2 h.6 g.6 in
    let n = one_count count h.3 g.3 h.7 g.7 in
    cc (h.8, g.8)
means_one st (mirrors mirror process page) x y h g =
    let same = one_slot st mirror h.0 g.0 h.3 g.3 in
    let at = one_page page h.2 g.2 h.5 g.5 in
    cc (h.4, h.6, g.4, g.6)
means_one st (looks mirror word) x y h g =
    let same = one_mirror st mirror h.0 g.0 h.2 g.2 in
    let at = one_word_no word h.1 g.1 h.3 g.3 in
    cc (h.4, g.4)
means_one st (transfers_parts outward handle slot first more) x y h g =
    let same = one_pin st handle h.0 g.0 h.3 g.3 in
    let other = one_index slot h.1 g.1 h.4 g.4 in
    let moved = segments_one (first ∷ more) h.2 g.2 h.5.0 g.5.0 in
    cc (h.6, g.6)

-- ---- what an action declares

abbrev pub behind_first : List Word → List Word
behind_first [] = []
behind_first (word ∷ words) = words

-- the name of its handle, or of its slot, is the first word after the operation's own
pub made_declared : (st : Outline) (a : ℕ) (action : Action) (op : Op) (word : Word) (fields : List Word) → Means st action op → word ∷ fields ≡ action_words action → with_made a op fields st ≡ with_declared a action st
made_declared st a (maps first count rights) op word fields m same = rw m.3 refl
made_declared st a (unmaps first count) op word fields m same = rw m.3 refl
made_declared st a (protects first count rights) op word fields m same = rw m.3 refl
made_declared st a (discards first count) op word fields m same = rw m.3 refl
made_declared st a (loads address) op word fields m same = rw m.3 refl
made_declared st a (stores address value) op word fields m same = rw m.5 refl
made_declared st a exits op word fields m same = rw m refl
made_declared st a (pins fast handle first count write long) op word fields m same =
    let behind : fields ≡ handle ∷ first ∷ count ∷ write_word write ∷ long_words long = ap behind_first same in
    rw (m.3, behind) refl
made_declared st a (gets handle page) op word fields m same =
    let behind : fields ≡ handle ∷ page ∷ [] = ap behind_first same in
    rw (m.2, behind) refl
made_declared st a (puts handle) op word fields m same = rw m.2 refl
made_declared st a (forks child) op word fields m same = rw m.2 refl
made_declared st a (moves process page zone) op word fields m same = rw m.4 refl
made_declared st a (unpins handle) op word fields m same = rw m.2 refl
made_declared st a (takes handle) op word fields m same = rw m.2 refl
made_declared st a (gives handle to) op word fields m same = rw m.4 refl
made_declared st a (transfers outward handle index slot count) op word fields m same = rw m.8 refl
made_declared st a (mirrors mirror process page) op word fields m same =
    let behind : fields ≡ mirror ∷ process ∷ page ∷ [] = ap behind_first same in
    rw (m.6, behind) refl
made_declared st a (looks mirror word) op first fields m same = rw m.4 refl
made_declared st a (transfers_parts outward handle slot first more) op word fields m same = rw m.6 refl

-- ---- an action of an actor, with all its tests

abbrev Done : Outline → (actor : ℕ) → Action → Result Outline Reason → Type 0
Done st a action result = (op : Op) × Means st action op × (result ≡ Ok (with_operation a op (with_declared a action st)))

abbrev Limited : Outline → (actor : ℕ) → Action → Result Outline Reason → Type 0
Limited st a action = Tried reasons.Limit (ActionLimits st action) (Done st a action)

abbrev pub Acts : Outline → (actor : ℕ) → Action → Result Outline Reason → Type 0
Acts st a action =
    Tried reasons.Shape (IsShaped action)
    (Tried reasons.Number (ActionNumbers action)
    (Tried reasons.Name (ActionNames st a action)
    (Tried reasons.Twice (ActionOnce st action) (Limited st a action))))

-- what is left to do once the words are judged
abbrev pub placed : Outline → (actor : ℕ) → (fields : List Word) → Op → Result Outline Reason
placed st a fields op =
    check reasons.Limit (nat_lt st.operations most_operations) >>= λ _. Ok (with_operation a op (with_made a op fields st))

ended : (st : Outline) (a : ℕ) (action : Action) (word : Word) (fields : List Word) (result : Result Op Reason) → word ∷ fields ≡ action_words action → Ends st action result → Tried reasons.Limit (st.operations < most_operations) (Done st a action) (result >>= placed st a fields)
ended st a action word fields result same (built op given means) =
    subst (λ (r : Result Op Reason). Tried reasons.Limit (st.operations < most_operations) (Done st a action) (r >>= placed st a fields)) (sym given)
    (checked _ (Decides-ltb st.operations most_operations) (λ l. (op, means, ap (λ (next : Outline). Ok (with_operation a op next)) (made_declared st a action op word fields means same))))

pub acts : (st : Outline) (a : ℕ) (action : Action) (word : Word) (fields : List Word) (result : Result Op Reason) → word ∷ fields ≡ action_words action → Judged st a action result → Acts st a action (result >>= placed st a fields)
acts st a action word fields result same =
    carried _ (carried _ (carried _ (carried _ (λ t. both (carried _ (ended st a action word fields result same) t)))))

abbrev all_right : Outline → Result Outline Reason
all_right st = Ok st

pub acts_ok : (st : Outline) (a : ℕ) (action : Action) (result : Result Outline Reason) (next : Outline) → Acts st a action result → result ≡ Ok next → Does st a action next
acts_ok st a action result next t e =
    let shaped = tried_ok t e in
    let numbers = tried_ok shaped.1 e in
    let names = tried_ok numbers.1 e in
    let once = tried_ok names.1 e in
    let limits = tried_ok once.1 e in
    let done = limits.1 in
    let given : all_right (with_operation a done.0 (with_declared a action st)) ≡ all_right next = sym done.2 ∙ e in
    (shaped.0, numbers.0, names.0, once.0, limits.0, (done.0, done.1, cc))

pub acts_read : (st : Outline) (a : ℕ) (action : Action) (result : Result Outline Reason) (next : Outline) → Acts st a action result → Does st a action next → result ≡ Ok next
acts_read st a action result next t h =
    let numbers = tried_pass t h.0 in
    let names = tried_pass numbers h.1 in
    let once = tried_pass names h.2 in
    let limits = tried_pass once h.3 in
    let does = h.5 in
    let done = tried_pass limits h.4 in
    let one = means_one st action done.0 does.0 done.1 does.1 in
    done.2 ∙ ap (λ (op : Op). Ok (with_operation a op (with_declared a action st))) one ∙ ap (λ (s : Outline). Ok s) (sym does.2)

pub acts_err : (st : Outline) (a : ℕ) (action : Action) (result : Result Outline Reason) (q : Reason) → Acts st a action result → result ≡ Err q → ActionFault st a action q
acts_err st a action result q t e =
    tried_err t e (λ numbers. tried_err numbers e (λ names. tried_err names e (λ once.
    tried_err once e (λ limits. late limits)))) where
      late : Tried reasons.Limit (ActionLimits st action) (Done st a action) result → (q ≡ reasons.Limit) × (ActionLimits st action → ⊥)
      late (stops because failed) = (cc, failed)
      late (goes passed on) = absurd (cc (on.2))

pub acts_stop : (st : Outline) (a : ℕ) (action : Action) (result : Result Outline Reason) (q : Reason) → Acts st a action result → ActionFault st a action q → result ≡ Err q
acts_stop st a action result q t f =
    tried_stop t f (λ numbers f1. tried_stop numbers f1 (λ names f2. tried_stop names f2 (λ once f3.
    tried_stop once f3 (λ limits f4. late limits f4)))) where
      late : Tried reasons.Limit (ActionLimits st action) (Done st a action) result → (q ≡ reasons.Limit) × (ActionLimits st action → ⊥) → result ≡ Err q
      late (stops because failed) f = cc
      late (goes passed on) f = absurd (f.1 passed)
