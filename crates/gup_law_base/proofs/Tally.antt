-- The count identity: what a change of one holder does to the counts.
use Rattle.std.proofs.Common.{◌≡◌, ℕ, ◌+◌, ◌-◌, ◌≤◌, ◌==◌, Bool, true, false, List, [], ◌∷◌, ◌++◌, length, refl, ap, sym, ◌∙◌, subst, arith}
use Rattle.std.specs.Prelude.{Option, Some, None, Contains, sum_by, slice_get, if◌then◌else◌}
use Rattle.std.proofs.lemmas.Bool.Decides.{nat_tests}
use Rattle.std.proofs.lemmas.List.Sums.{sum_by-cons}
use Rattle.std.proofs.lemmas.Map.Made.{Contains-tail}
use Rattle.gup_base.specs.declared.entry.Entry.{Entry}
use Rattle.gup_plain.specs.Put.{put, put2}
use Rattle.gup_spec_events.specs.State.{Taken}
use Rattle.gup_spec_events.specs.Event.{bias}
use Rattle.gup_spec_events.specs.Invariant.{Holder, entry_of_page, cleared_by, prepared_by, owed_by, got_as, page_of_pin, page_taken, grabbed_by, weight, HasNoRepetition, frame_of, got_frame, taken_frame}
use Rattle.gup_law_base.specs.Sound.{Moving, Walking, moved_frame, walk_frame, held, held_by_walk, Tally}
use Rattle.gup_law_base.proofs.Rows.{at_end, at_others, none_past}
use Rattle.gup_law_base.proofs.Holders.{same_holders, by_holder, first_element, later_element, taken_out, IsWithout, element_weighs, elements_weigh}

-- what a holder of this weight that holds `old` and will hold `new` does to the counts
abbrev pub amount : Option ℕ → (weight f : ℕ) → ℕ
amount None weight f = 0
amount (Some g) weight f = if f == g then weight else 0

abbrev pub changed : (old new : Option ℕ) (weight : ℕ) → (ℕ → ℕ) → ℕ → ℕ
changed old new weight count f = count f + amount new weight f - amount old weight f

-- the holders of one frame
abbrev Listed : (f n : ℕ) (holds : Holder → Option ℕ) → Type 0
Listed f n holds =
    (holders : List Holder)
    × HasNoRepetition holders
    × ((x : Holder) → (holds x ≡ Some f → Contains holders x) × (Contains holders x → holds x ≡ Some f))
    × (sum_by weight holders ≡ n)

-- one more
listed_more : (f n : ℕ) (holds now : Holder → Option ℕ) (y : Holder) → ((x : Holder) → (y ≡ x → ⊥) → now x ≡ holds x) → (holds y ≡ Some f → ⊥) → now y ≡ Some f → Listed f n holds → Listed f (n + weight y) now
listed_more f n holds now y others old new listed =
    let xs : List Holder = listed.0 in
    let fresh : Contains xs y → ⊥ = λ has. old ((listed.2 y).1 has) in
    let into = λ (x : Holder) (is : now x ≡ Some f). by_holder y x (λ same. subst (Contains (y ∷ xs)) same (first_element y xs)) (λ apart. later_element y xs x ((listed.2 x).0 (let e = others x apart in cc))) in
    let out = λ (x : Holder) (has : Contains (y ∷ xs) x). by_holder y x (λ same. subst (λ z. now z ≡ Some f) same new) (λ apart. let e = others x apart in let is = (listed.2 x).1 (Contains-tail y xs x apart has) in cc) in
    let total : sum_by weight (y ∷ xs) ≡ n + weight y = omega (arith, sum_by-cons weight y xs, listed.3) in
    (y ∷ xs, (fresh, listed.1), (λ x. (into x, out x)), total)

-- one less
listed_less : (f n : ℕ) (holds now : Holder → Option ℕ) (y : Holder) → ((x : Holder) → (y ≡ x → ⊥) → now x ≡ holds x) → holds y ≡ Some f → (now y ≡ Some f → ⊥) → Listed f n holds → Listed f (n - weight y) now
listed_less f n holds now y others old new listed =
    let xs : List Holder = listed.0 in
    let rest = taken_out y xs listed.1 ((listed.2 y).0 old) in
    let ys : List Holder = rest.0 in
    let without : IsWithout y xs ys = rest.1 in
    let into = λ (x : Holder) (is : now x ≡ Some f). by_holder y x (λ same. let no : now y ≡ Some f = subst (λ z. now z ≡ Some f) (sym same) is in absurd (new no)) (λ apart. without.rest x apart ((listed.2 x).0 (let e = others x apart in cc))) in
    let out = λ (x : Holder) (has : Contains ys x). by_holder y x (λ same. absurd (without.gone (subst (Contains ys) (sym same) has))) (λ apart. let e = others x apart in let is = (listed.2 x).1 (without.less x has) in cc) in
    let total : sum_by weight ys ≡ n - weight y = omega (arith, without.lighter, listed.3) in
    (ys, without.alone, (λ x. (into x, out x)), total)

-- the same, where the holder neither held it nor holds it, or both
listed_same : (f n : ℕ) (holds now : Holder → Option ℕ) → ((x : Holder) → holds x ≡ Some f → now x ≡ Some f) → ((x : Holder) → now x ≡ Some f → holds x ≡ Some f) → Listed f n holds → Listed f n now
listed_same f n holds now to from listed =
    (listed.0, listed.1, (λ x. (λ is. (listed.2 x).0 (from x is), λ has. to x ((listed.2 x).1 has))), listed.3)

abbrev is_of : Option ℕ → ℕ → Bool
is_of None f = false
is_of (Some g) f = f == g

of_true : (o : Option ℕ) (f w : ℕ) → is_of o f ≡ true → (o ≡ Some f) × (amount o w f ≡ w)
of_true None f w is = absurd (cc)
of_true (Some g) f w is = (grind (arith, nat_tests), grind (arith, nat_tests))

of_false : (o : Option ℕ) (f w : ℕ) → is_of o f ≡ false → (o ≡ Some f → ⊥) × (amount o w f ≡ 0)
of_false None f w is = ((λ e. absurd (cc)), refl)
of_false (Some g) f w is = ((λ e. let no : ⊥ = grind (arith, nat_tests) in no), grind (arith, nat_tests))

-- The count of a frame is that of its holders after the change of one.
pub tally_change : (count : ℕ → ℕ) (holds now : Holder → Option ℕ) (y : Holder) → ((x : Holder) → (y ≡ x → ⊥) → now x ≡ holds x) → Tally count holds → Tally (changed (holds y) (now y) (weight y) count) now
tally_change count holds now y others tally f = go (is_of (holds y) f) (is_of (now y) f) refl refl
  where
    w : ℕ
    w = weight y

    had_it : is_of (holds y) f ≡ true → is_of (now y) f ≡ true → Listed f (changed (holds y) (now y) (weight y) count f) now
    had_it was is =
        let old = of_true (holds y) f (weight y) was in
        let new = of_true (now y) f (weight y) is in
        let to = λ (x : Holder) (h : holds x ≡ Some f). by_holder y x (λ same. subst (λ z. now z ≡ Some f) same new.0) (λ apart. let e = others x apart in let r : now x ≡ Some f = cc in r) in
        let from = λ (x : Holder) (h : now x ≡ Some f). by_holder y x (λ same. subst (λ z. holds z ≡ Some f) same old.0) (λ apart. let e = others x apart in let r : holds x ≡ Some f = cc in r) in
        let n : count f ≡ changed (holds y) (now y) (weight y) count f = omega (arith, old.1, new.1) in
        subst (λ k. Listed f k now) n (listed_same f (count f) holds now to from (tally f))

    gets : is_of (holds y) f ≡ false → is_of (now y) f ≡ true → Listed f (changed (holds y) (now y) (weight y) count f) now
    gets was is =
        let old = of_false (holds y) f (weight y) was in
        let new = of_true (now y) f (weight y) is in
        let n : count f + weight y ≡ changed (holds y) (now y) (weight y) count f = omega (arith, old.1, new.1) in
        subst (λ k. Listed f k now) n (listed_more f (count f) holds now y others old.0 new.0 (tally f))

    drops : is_of (holds y) f ≡ true → is_of (now y) f ≡ false → Listed f (changed (holds y) (now y) (weight y) count f) now
    drops was is =
        let old = of_true (holds y) f (weight y) was in
        let new = of_false (now y) f (weight y) is in
        let n : count f - weight y ≡ changed (holds y) (now y) (weight y) count f = omega (arith, old.1, new.1) in
        subst (λ k. Listed f k now) n (listed_less f (count f) holds now y others old.0 new.0 (tally f))

    lacks : is_of (holds y) f ≡ false → is_of (now y) f ≡ false → Listed f (changed (holds y) (now y) (weight y) count f) now
    lacks was is =
        let old = of_false (holds y) f (weight y) was in
        let new = of_false (now y) f (weight y) is in
        let to = λ (x : Holder) (h : holds x ≡ Some f). by_holder y x (λ same. absurd (old.0 (subst (λ z. holds z ≡ Some f) (sym same) h))) (λ apart. let e = others x apart in let r : now x ≡ Some f = cc in r) in
        let from = λ (x : Holder) (h : now x ≡ Some f). by_holder y x (λ same. absurd (new.0 (subst (λ z. now z ≡ Some f) (sym same) h))) (λ apart. let e = others x apart in let r : holds x ≡ Some f = cc in r) in
        let n : count f ≡ changed (holds y) (now y) (weight y) count f = omega (arith, old.1, new.1) in
        subst (λ k. Listed f k now) n (listed_same f (count f) holds now to from (tally f))

    go : (had has : Bool) → is_of (holds y) f ≡ had → is_of (now y) f ≡ has → Listed f (changed (holds y) (now y) (weight y) count f) now
    go true true was is = had_it was is
    go true false was is = drops was is
    go false true was is = gets was is
    go false false was is = lacks was is

-- the same counts
pub tally_is : (count now : ℕ → ℕ) (holds : Holder → Option ℕ) → Tally count holds → ((f : ℕ) → count f ≡ now f) → Tally now holds
tally_is count now holds tally same f = subst (λ k. Listed f k holds) (same f) (tally f)

-- the same holders
pub tally_alike : (count : ℕ → ℕ) (holds now : Holder → Option ℕ) → ((x : Holder) → now x ≡ holds x) → Tally count holds → Tally count now
tally_alike count holds now same tally f =
    listed_same f (count f) holds now (λ x is. same x ∙ is) (λ x is. sym (same x) ∙ is) (tally f)

-- what a frame's count is at least, of one holder and of two
pub held_weighs : (count : ℕ → ℕ) (holds : Holder → Option ℕ) (x : Holder) (f : ℕ) → Tally count holds → holds x ≡ Some f → weight x ≤ count f
held_weighs count holds x f tally is =
    let t = tally f in
    let all = element_weighs x t.0 t.1 ((t.2 x).0 is) in
    omega (arith, all.1, t.3)

pub held_weigh : (count : ℕ → ℕ) (holds : Holder → Option ℕ) (x y : Holder) (f : ℕ) → Tally count holds → (x ≡ y → ⊥) → holds x ≡ Some f → holds y ≡ Some f → weight x + weight y ≤ count f
held_weigh count holds x y f tally apart is that =
    let t = tally f in
    let all = elements_weigh x y t.0 t.1 apart ((t.2 x).0 is) ((t.2 y).0 that) in
    omega (arith, all.1, t.3)

-- 2. What a change of one field does. The fields are those of a state, but for what movers have cleared.

page_apart : {X : Type 0} (p g q d : ℕ) (x : X) (f : ℕ → ℕ → X) → (entry_of_page p g ≡ entry_of_page q d → ⊥) → put2 p g x f q d ≡ f q d
page_apart p g q d x f apart =
    let no : p ≡ q → g ≡ d → ⊥ = λ i j. apart (same_holders (entry_of_page p g) (entry_of_page q d) refl i j) in
    grind (arith, nat_tests)

number_apart : {X : Type 0} (a b : ℕ) (x : X) (f : ℕ → X) → (a ≡ b → ⊥) → put a x f b ≡ f b
number_apart a b x f apart = grind (arith, nat_tests)

pub number_here : {X : Type 0} (a : ℕ) (x : X) (f : ℕ → X) → put a x f a ≡ x
number_here a x f = grind (arith, nat_tests)

page_here : {X : Type 0} (p g : ℕ) (x : X) (f : ℕ → ℕ → X) → put2 p g x f p g ≡ x
page_here p g x f = grind (arith, nat_tests)

same_number : (b a : ℕ) → (b == a) ≡ true → b ≡ a
same_number b a is = grind (arith, nat_tests)

-- the row of h is another
row_apart : (h j : ℕ) (xs ys : List ℕ) (f : ℕ → List ℕ) (k : ℕ) → f h ≡ ys → (h ≡ j → slice_get xs k ≡ slice_get ys k) → slice_get (put h xs f j) k ≡ slice_get (f j) k
row_apart h j xs ys f k is same = grind (arith, nat_tests)

taken_apart : (a b : ℕ) (ts us : List Taken) (f : ℕ → List Taken) (k : ℕ) → f a ≡ us → (a ≡ b → slice_get ts k ≡ slice_get us k) → taken_frame (slice_get (put a ts f b) k) ≡ taken_frame (slice_get (f b) k)
taken_apart a b ts us f k is same = grind (arith, nat_tests)

module _ (count : ℕ → ℕ) (entry : ℕ → ℕ → Option Entry) (moves : ℕ → Option Moving) (prepared owed : ℕ → Option ℕ) (got : ℕ → Option (ℕ × ℕ)) (pinned : ℕ → List ℕ) (taken : ℕ → List Taken) where
  pub tally_entry : (p g : ℕ) (e : Option Entry) → Tally count (held entry moves prepared owed got pinned taken) → Tally (changed (frame_of (entry p g)) (frame_of e) 1 count) (held (put2 p g e entry) moves prepared owed got pinned taken)
  unfolding held
  tally_entry p g e tally =
      let was : held entry moves prepared owed got pinned taken (entry_of_page p g) ≡ frame_of (entry p g) = refl in
      let is : held (put2 p g e entry) moves prepared owed got pinned taken (entry_of_page p g) ≡ frame_of e = ap frame_of (page_here p g e entry) in
      let all : Tally (changed (held entry moves prepared owed got pinned taken (entry_of_page p g)) (held (put2 p g e entry) moves prepared owed got pinned taken (entry_of_page p g)) 1 count) (held (put2 p g e entry) moves prepared owed got pinned taken) = tally_change count (held entry moves prepared owed got pinned taken) (held (put2 p g e entry) moves prepared owed got pinned taken) (entry_of_page p g) others tally in
      subst (λ o. Tally (changed o (frame_of e) 1 count) (held (put2 p g e entry) moves prepared owed got pinned taken)) was (subst (λ o. Tally (changed (held entry moves prepared owed got pinned taken (entry_of_page p g)) o 1 count) (held (put2 p g e entry) moves prepared owed got pinned taken)) is all)
    where
      others : (x : Holder) → (entry_of_page p g ≡ x → ⊥) → held (put2 p g e entry) moves prepared owed got pinned taken x ≡ held entry moves prepared owed got pinned taken x
      others (entry_of_page q d) apart = ap frame_of (page_apart p g q d e entry apart)
      others (cleared_by b) apart = refl
      others (prepared_by b) apart = refl
      others (owed_by b) apart = refl
      others (got_as b) apart = refl
      others (page_of_pin j i) apart = refl
      others (page_taken b i) apart = refl
      others (grabbed_by b) apart = refl

  pub tally_moves : (a : ℕ) (m : Option Moving) → Tally count (held entry moves prepared owed got pinned taken) → Tally (changed (moved_frame (moves a)) (moved_frame m) 1 count) (held entry (put a m moves) prepared owed got pinned taken)
  unfolding held
  tally_moves a m tally =
      let was : held entry moves prepared owed got pinned taken (cleared_by a) ≡ moved_frame (moves a) = refl in
      let is : held entry (put a m moves) prepared owed got pinned taken (cleared_by a) ≡ moved_frame m = ap moved_frame (number_here a m moves) in
      let all : Tally (changed (held entry moves prepared owed got pinned taken (cleared_by a)) (held entry (put a m moves) prepared owed got pinned taken (cleared_by a)) 1 count) (held entry (put a m moves) prepared owed got pinned taken) = tally_change count (held entry moves prepared owed got pinned taken) (held entry (put a m moves) prepared owed got pinned taken) (cleared_by a) others tally in
      subst (λ o. Tally (changed o (moved_frame m) 1 count) (held entry (put a m moves) prepared owed got pinned taken)) was (subst (λ o. Tally (changed (held entry moves prepared owed got pinned taken (cleared_by a)) o 1 count) (held entry (put a m moves) prepared owed got pinned taken)) is all)
    where
      others : (x : Holder) → (cleared_by a ≡ x → ⊥) → held entry (put a m moves) prepared owed got pinned taken x ≡ held entry moves prepared owed got pinned taken x
      others (entry_of_page q d) apart = refl
      others (cleared_by b) apart = ap moved_frame (number_apart a b m moves (λ e. apart (ap cleared_by e)))
      others (prepared_by b) apart = refl
      others (owed_by b) apart = refl
      others (got_as b) apart = refl
      others (page_of_pin j i) apart = refl
      others (page_taken b i) apart = refl
      others (grabbed_by b) apart = refl

  pub tally_prepared : (a : ℕ) (f : Option ℕ) → Tally count (held entry moves prepared owed got pinned taken) → Tally (changed (prepared a) (f) 1 count) (held entry moves (put a f prepared) owed got pinned taken)
  unfolding held
  tally_prepared a f tally =
      let was : held entry moves prepared owed got pinned taken (prepared_by a) ≡ prepared a = refl in
      let is : held entry moves (put a f prepared) owed got pinned taken (prepared_by a) ≡ f = number_here a f prepared in
      let all : Tally (changed (held entry moves prepared owed got pinned taken (prepared_by a)) (held entry moves (put a f prepared) owed got pinned taken (prepared_by a)) 1 count) (held entry moves (put a f prepared) owed got pinned taken) = tally_change count (held entry moves prepared owed got pinned taken) (held entry moves (put a f prepared) owed got pinned taken) (prepared_by a) others tally in
      subst (λ o. Tally (changed o (f) 1 count) (held entry moves (put a f prepared) owed got pinned taken)) was (subst (λ o. Tally (changed (held entry moves prepared owed got pinned taken (prepared_by a)) o 1 count) (held entry moves (put a f prepared) owed got pinned taken)) is all)
    where
      others : (x : Holder) → (prepared_by a ≡ x → ⊥) → held entry moves (put a f prepared) owed got pinned taken x ≡ held entry moves prepared owed got pinned taken x
      others (entry_of_page q d) apart = refl
      others (cleared_by b) apart = refl
      others (prepared_by b) apart = number_apart a b f prepared (λ e. apart (ap prepared_by e))
      others (owed_by b) apart = refl
      others (got_as b) apart = refl
      others (page_of_pin j i) apart = refl
      others (page_taken b i) apart = refl
      others (grabbed_by b) apart = refl

  pub tally_owed : (a : ℕ) (f : Option ℕ) → Tally count (held entry moves prepared owed got pinned taken) → Tally (changed (owed a) (f) 1 count) (held entry moves prepared (put a f owed) got pinned taken)
  unfolding held
  tally_owed a f tally =
      let was : held entry moves prepared owed got pinned taken (owed_by a) ≡ owed a = refl in
      let is : held entry moves prepared (put a f owed) got pinned taken (owed_by a) ≡ f = number_here a f owed in
      let all : Tally (changed (held entry moves prepared owed got pinned taken (owed_by a)) (held entry moves prepared (put a f owed) got pinned taken (owed_by a)) 1 count) (held entry moves prepared (put a f owed) got pinned taken) = tally_change count (held entry moves prepared owed got pinned taken) (held entry moves prepared (put a f owed) got pinned taken) (owed_by a) others tally in
      subst (λ o. Tally (changed o (f) 1 count) (held entry moves prepared (put a f owed) got pinned taken)) was (subst (λ o. Tally (changed (held entry moves prepared owed got pinned taken (owed_by a)) o 1 count) (held entry moves prepared (put a f owed) got pinned taken)) is all)
    where
      others : (x : Holder) → (owed_by a ≡ x → ⊥) → held entry moves prepared (put a f owed) got pinned taken x ≡ held entry moves prepared owed got pinned taken x
      others (entry_of_page q d) apart = refl
      others (cleared_by b) apart = refl
      others (prepared_by b) apart = refl
      others (owed_by b) apart = number_apart a b f owed (λ e. apart (ap owed_by e))
      others (got_as b) apart = refl
      others (page_of_pin j i) apart = refl
      others (page_taken b i) apart = refl
      others (grabbed_by b) apart = refl

  pub tally_got : (k : ℕ) (g : Option (ℕ × ℕ)) → Tally count (held entry moves prepared owed got pinned taken) → Tally (changed (got_frame (got k)) (got_frame g) 1 count) (held entry moves prepared owed (put k g got) pinned taken)
  unfolding held
  tally_got k g tally =
      let was : held entry moves prepared owed got pinned taken (got_as k) ≡ got_frame (got k) = refl in
      let is : held entry moves prepared owed (put k g got) pinned taken (got_as k) ≡ got_frame g = ap got_frame (number_here k g got) in
      let all : Tally (changed (held entry moves prepared owed got pinned taken (got_as k)) (held entry moves prepared owed (put k g got) pinned taken (got_as k)) 1 count) (held entry moves prepared owed (put k g got) pinned taken) = tally_change count (held entry moves prepared owed got pinned taken) (held entry moves prepared owed (put k g got) pinned taken) (got_as k) others tally in
      subst (λ o. Tally (changed o (got_frame g) 1 count) (held entry moves prepared owed (put k g got) pinned taken)) was (subst (λ o. Tally (changed (held entry moves prepared owed got pinned taken (got_as k)) o 1 count) (held entry moves prepared owed (put k g got) pinned taken)) is all)
    where
      others : (x : Holder) → (got_as k ≡ x → ⊥) → held entry moves prepared owed (put k g got) pinned taken x ≡ held entry moves prepared owed got pinned taken x
      others (entry_of_page q d) apart = refl
      others (cleared_by b) apart = refl
      others (prepared_by b) apart = refl
      others (owed_by b) apart = refl
      others (got_as b) apart = ap got_frame (number_apart k b g got (λ e. apart (ap got_as e)))
      others (page_of_pin j i) apart = refl
      others (page_taken b i) apart = refl
      others (grabbed_by b) apart = refl

  pub tally_pinned : (h f : ℕ) (left : List ℕ) (had : pinned h ≡ left ++ f ∷ []) → Tally count (held entry moves prepared owed got pinned taken) → Tally (changed (Some f) (None) bias count) (held entry moves prepared owed got (put h left pinned) taken)
  unfolding held
  tally_pinned h f left had tally =
      let was : held entry moves prepared owed got pinned taken (page_of_pin h (length left)) ≡ Some f = subst (λ xs. slice_get xs (length left) ≡ Some f) (sym had) (at_end left f) in
      let is : held entry moves prepared owed got (put h left pinned) taken (page_of_pin h (length left)) ≡ None = subst (λ xs. slice_get xs (length left) ≡ None) (sym (number_here h left pinned)) (none_past left) in
      let all : Tally (changed (held entry moves prepared owed got pinned taken (page_of_pin h (length left))) (held entry moves prepared owed got (put h left pinned) taken (page_of_pin h (length left))) bias count) (held entry moves prepared owed got (put h left pinned) taken) = tally_change count (held entry moves prepared owed got pinned taken) (held entry moves prepared owed got (put h left pinned) taken) (page_of_pin h (length left)) others tally in
      subst (λ o. Tally (changed o (None) bias count) (held entry moves prepared owed got (put h left pinned) taken)) was (subst (λ o. Tally (changed (held entry moves prepared owed got pinned taken (page_of_pin h (length left))) o bias count) (held entry moves prepared owed got (put h left pinned) taken)) is all)
    where
      others : (x : Holder) → (page_of_pin h (length left) ≡ x → ⊥) → held entry moves prepared owed got (put h left pinned) taken x ≡ held entry moves prepared owed got pinned taken x
      others (entry_of_page q d) apart = refl
      others (cleared_by b) apart = refl
      others (prepared_by b) apart = refl
      others (owed_by b) apart = refl
      others (got_as b) apart = refl
      others (page_of_pin j i) apart = row_apart h j left (left ++ f ∷ []) pinned i had (λ e. sym (at_others left f i (λ l. apart (same_holders (page_of_pin h (length left)) (page_of_pin j i) refl e (sym l)))))
      others (page_taken b i) apart = refl
      others (grabbed_by b) apart = refl

  pub tally_taken : (a : ℕ) (t : Taken) → Tally count (held entry moves prepared owed got pinned taken) → Tally (changed (None) (Some t.frame) bias count) (held entry moves prepared owed got pinned (put a (taken a ++ t ∷ []) taken))
  unfolding held
  tally_taken a t tally =
      let was : held entry moves prepared owed got pinned taken (page_taken a (length (taken a))) ≡ None = ap taken_frame (none_past (taken a)) in
      let is : held entry moves prepared owed got pinned (put a (taken a ++ t ∷ []) taken) (page_taken a (length (taken a))) ≡ Some t.frame = subst (λ ts. taken_frame (slice_get ts (length (taken a))) ≡ Some t.frame) (sym (number_here a (taken a ++ t ∷ []) taken)) (ap taken_frame (at_end (taken a) t)) in
      let all : Tally (changed (held entry moves prepared owed got pinned taken (page_taken a (length (taken a)))) (held entry moves prepared owed got pinned (put a (taken a ++ t ∷ []) taken) (page_taken a (length (taken a)))) bias count) (held entry moves prepared owed got pinned (put a (taken a ++ t ∷ []) taken)) = tally_change count (held entry moves prepared owed got pinned taken) (held entry moves prepared owed got pinned (put a (taken a ++ t ∷ []) taken)) (page_taken a (length (taken a))) others tally in
      subst (λ o. Tally (changed o (Some t.frame) bias count) (held entry moves prepared owed got pinned (put a (taken a ++ t ∷ []) taken))) was (subst (λ o. Tally (changed (held entry moves prepared owed got pinned taken (page_taken a (length (taken a)))) o bias count) (held entry moves prepared owed got pinned (put a (taken a ++ t ∷ []) taken))) is all)
    where
      others : (x : Holder) → (page_taken a (length (taken a)) ≡ x → ⊥) → held entry moves prepared owed got pinned (put a (taken a ++ t ∷ []) taken) x ≡ held entry moves prepared owed got pinned taken x
      others (entry_of_page q d) apart = refl
      others (cleared_by b) apart = refl
      others (prepared_by b) apart = refl
      others (owed_by b) apart = refl
      others (got_as b) apart = refl
      others (page_of_pin j i) apart = refl
      others (page_taken b i) apart = taken_apart a b (taken a ++ t ∷ []) (taken a) taken i refl (λ e. at_others (taken a) t i (λ l. apart (same_holders (page_taken a (length (taken a))) (page_taken b i) refl e (sym l))))
      others (grabbed_by b) apart = refl

-- 3. What a walk's next step does to the grabs
module _ (grabs : ℕ → ℕ) (walks : ℕ → Option Walking) where
  -- the walk of an actor has grabbed a frame, and has grabbed another, or none, after the change
  pub tally_walk : (a : ℕ) (w : Option Walking) → Tally grabs (held_by_walk walks) → Tally (changed (walk_frame (walks a)) (walk_frame w) bias grabs) (held_by_walk (put a w walks))
  unfolding held_by_walk
  tally_walk a w tally =
      let was : held_by_walk walks (grabbed_by a) ≡ walk_frame (walks a) = refl in
      let is : held_by_walk (put a w walks) (grabbed_by a) ≡ walk_frame w = ap walk_frame (number_here a w walks) in
      let all : Tally (changed (held_by_walk walks (grabbed_by a)) (held_by_walk (put a w walks) (grabbed_by a)) bias grabs) (held_by_walk (put a w walks)) = tally_change grabs (held_by_walk walks) (held_by_walk (put a w walks)) (grabbed_by a) others tally in
      subst (λ o. Tally (changed o (walk_frame w) bias grabs) (held_by_walk (put a w walks))) was (subst (λ o. Tally (changed (held_by_walk walks (grabbed_by a)) o bias grabs) (held_by_walk (put a w walks))) is all)
    where
      others : (x : Holder) → (grabbed_by a ≡ x → ⊥) → held_by_walk (put a w walks) x ≡ held_by_walk walks x
      others (grabbed_by b) apart = ap walk_frame (number_apart a b w walks (λ e. apart (ap grabbed_by e)))
      others (entry_of_page q d) apart = refl
      others (cleared_by b) apart = refl
      others (prepared_by b) apart = refl
      others (owed_by b) apart = refl
      others (got_as b) apart = refl
      others (page_of_pin j i) apart = refl
      others (page_taken b i) apart = refl

  walk_apart : (a : ℕ) (w : Option Walking) → walk_frame (walks a) ≡ walk_frame w → (b : ℕ) → walk_frame (put a w walks b) ≡ walk_frame (walks b)
  walk_apart a w same b = go (b == a) refl
    where
      go : (t : Bool) → (b == a) ≡ t → walk_frame (if t then w else walks b) ≡ walk_frame (walks b)
      go true is = sym same ∙ ap (λ n. walk_frame (walks n)) (sym (same_number b a is))
      go false other = refl

  -- the step grabs and drops nothing
  pub tally_step : (a : ℕ) (w : Option Walking) → walk_frame (walks a) ≡ walk_frame w → Tally grabs (held_by_walk walks) → Tally grabs (held_by_walk (put a w walks))
  unfolding held_by_walk
  tally_step a w same tally =
      tally_alike grabs (held_by_walk walks) (held_by_walk (put a w walks)) each tally
    where
      each : (x : Holder) → held_by_walk (put a w walks) x ≡ held_by_walk walks x
      each (grabbed_by b) = walk_apart a w same b
      each (entry_of_page q d) = refl
      each (cleared_by b) = refl
      each (prepared_by b) = refl
      each (owed_by b) = refl
      each (got_as b) = refl
      each (page_of_pin j i) = refl
      each (page_taken b i) = refl

  -- it grabs a frame
  pub tally_grab : (a f : ℕ) (w : Option Walking) → walk_frame (walks a) ≡ None → walk_frame w ≡ Some f → Tally grabs (held_by_walk walks) → Tally (put f (grabs f + bias) grabs) (held_by_walk (put a w walks))
  tally_grab a f w old new tally =
      tally_is (changed (walk_frame (walks a)) (walk_frame w) bias grabs) (put f (grabs f + bias) grabs) (held_by_walk (put a w walks)) (tally_walk a w tally) (λ d. grind (arith, nat_tests))

  -- it drops the frame that it has grabbed, or passes it on
  pub tally_drop : (a f : ℕ) (w : Option Walking) → walk_frame (walks a) ≡ Some f → walk_frame w ≡ None → Tally grabs (held_by_walk walks) → Tally (put f (grabs f - bias) grabs) (held_by_walk (put a w walks))
  tally_drop a f w old new tally =
      tally_is (changed (walk_frame (walks a)) (walk_frame w) bias grabs) (put f (grabs f - bias) grabs) (held_by_walk (put a w walks)) (tally_walk a w tally) (λ d. grind (arith, nat_tests))
