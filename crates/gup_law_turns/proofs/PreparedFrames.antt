-- A frame that an actor has prepared is one of the machine, has a reference, and stands in no entry.
use Rattle.std.proofs.Common.{◌≡◌, ℕ, ◌+◌, ◌≤◌, ◌<◌, ◌==◌, Bool, true, false, if◌then◌else◌, List, [], ◌∷◌, length, Contains, Some, None, zero, suc, refl, sym, ap, ◌∙◌, subst, arith}
use Rattle.std.specs.Prelude.{sum_by, slice_index_or}
use Rattle.std.proofs.lemmas.List.Sums.{sum_by-cons}
use Rattle.gup_base.specs.declared.entry.Entry.{Entry}
use Rattle.gup_spec_events.specs.State.{CoreState}
use Rattle.gup_spec_events.specs.Event.{CoreEvent, Can, happens, run}
use Rattle.gup_spec_events.specs.Invariant.{AllCan, Holder, entry_of_page, prepared_by, page_of_pin, frame_of, weight}
use Rattle.gup_law_base.specs.Sound.{IsSound}
use Rattle.gup_law_base.specs.Sound as sounds
use Rattle.gup_spec_turns.specs.JobPlace.{IsPrepared}
use Rattle.gup_law_turns.proofs.CalmStates.{Strand, AreTurnEvents, IsTurnEvent, taking, filling, breaking, handling, giving, placing_frame, placing}
use Rattle.gup_law_turns.proofs.Puts.{some_same}

-- frames that actors have prepared are of the machine
abbrev pub ArePreparedThere : CoreState → Type 0
ArePreparedThere s = (b f : ℕ) → s.prepared b ≡ Some f → f < s.movable + s.normal

module _ (s : CoreState) (a p c : ℕ) (strand : Strand) (h : ArePreparedThere s) where
  -- an actor that has one no more
  there_without : (b g : ℕ) → (if b == a then None else s.prepared b) ≡ Some g → g < s.movable + s.normal
  there_without b g = go (b == a)
    where
      go : (t : Bool) → (if t then None else s.prepared b) ≡ Some g → g < s.movable + s.normal
      go true is = absurd (cc)
      go false is = h b g is

  -- and one that takes one
  there_with : (f b g : ℕ) → f < s.movable + s.normal → (if b == a then Some f else s.prepared b) ≡ Some g → g < s.movable + s.normal
  there_with f b g within = go (b == a)
    where
      go : (t : Bool) → (if t then Some f else s.prepared b) ≡ Some g → g < s.movable + s.normal
      go true is = subst (λ (k : ℕ). k < s.movable + s.normal) (some_same is) within
      go false is = h b g is

  there_event : {e : CoreEvent} → IsTurnEvent a p c strand e → Can s e → ArePreparedThere (happens s e)
  there_event (taking f) can = λ b g is. there_with f b g can.2 is
  there_event (filling page f) can = λ b g is. there_without b g is
  there_event (breaking page old new was writable) can = λ b g is. there_without b g is
  there_event (handling handle is (giving to)) can = h
  there_event (placing_frame is page f e allowed) can = λ b g is. there_without b g is
  there_event (placing done page to rights) can = λ b g is. there_without b g is
  there_event event can = h

-- events of a turn keep it
pub there_on : (s : CoreState) (a p c : ℕ) (strand : Strand) (es : List CoreEvent) → AreTurnEvents a p c strand es → AllCan s es → ArePreparedThere s → ArePreparedThere (run s es)
there_on s a p c strand [] kinds can h = h
there_on s a p c strand (e ∷ es) kinds can h =
    there_on (happens s e) a p c strand es kinds.1 can.1 (there_event s a p c strand h kinds.0 can.0)

-- the only holder of a frame of one reference

holds_some : (x : Holder) → 1 ≤ weight x
holds_some (page_of_pin h k) = omega arith
holds_some x = omega arith

weigh_least : (xs : List Holder) → length xs ≤ sum_by weight xs
weigh_least [] = omega arith
weigh_least (x ∷ xs) =
    let rest = weigh_least xs in
    let first = holds_some x in
    let all = sum_by-cons weight x xs in
    omega (arith, rest, first, all)

-- a list of at most one element has no two
first_is : (z x : Holder) (k : ℕ) → k < 1 → slice_index_or (z ∷ []) k x ≡ z
first_is z x zero below = refl
first_is z x (suc k) below = absurd (omega (arith, below))

one_element : (xs : List Holder) (x y : Holder) → length xs ≤ 1 → Contains xs x → Contains xs y → x ≡ y
one_element [] x y short here there = absurd (let none = here.1 in omega (arith, none))
one_element (z ∷ []) x y short here there =
    sym here.2 ∙ first_is z x here.0 here.1 ∙ (sym (first_is z y there.0 there.1) ∙ there.2)
one_element (z ∷ w ∷ zs) x y short here there = absurd (omega (arith, short))

-- so a prepared frame is in no entry
in_no_entry : (s : CoreState) → IsSound s → (a f p page : ℕ) (e : Entry) → s.prepared a ≡ Some f → s.entry p page ≡ Some e → f ≡ e.frame → ⊥
unfolding sounds.held
in_no_entry s sound a f p page e is entry same =
    let tally = sound.1.references f in
    let once = sound.1.prepared_once a f is in
    let least = weigh_least tally.0 in
    let here : Contains tally.0 (prepared_by a) = (tally.2 (prepared_by a)).0 is in
    let there : Contains tally.0 (entry_of_page p page) = (tally.2 (entry_of_page p page)).0 (ap frame_of entry ∙ ap (λ (k : ℕ). Some k) (sym same)) in
    let two : prepared_by a ≡ entry_of_page p page = one_element tally.0 (prepared_by a) (entry_of_page p page) (omega (arith, once, least, tally.3)) here there in
    cc

-- a prepared frame is there, is counted, and is in no entry
pub is_prepared : (s : CoreState) → IsSound s → ArePreparedThere s → (a f : ℕ) → s.prepared a ≡ Some f → IsPrepared s f
is_prepared s sound there a f is =
    record {
      there = there a f is;
      counted = λ none.
          let once = sound.1.prepared_once a f is in
          let sum = sound.1.count_is f in
          omega (arith, once, sum, none);
      apart = λ p page e entry same. in_no_entry s sound a f p page e is entry same;
    }
