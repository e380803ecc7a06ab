-- What the emptying of slots at the front of a turn comes to: it can happen, it says nothing, and it leaves no slot of a page that the
-- turn invalidates filled.
use Rattle.std.proofs.Common.{◌≡◌, ℕ, ◌+◌, ◌<◌, ◌≤◌, ◌==◌, Bool, true, false, List, [], ◌∷◌, ◌++◌, Option, Some, None, IsSome, refl, sym, ap, ◌∙◌, subst, zero, suc, if◌then◌else◌, ◌⊎◌, inl, inr, eq-or-lt_of_le, arith, ◌||◌}
use Rattle.std.proofs.lemmas.Bool.Decides.{nat_tests}
use Rattle.gup_plain.specs.State.{Noted}
use Rattle.gup_spec_events.specs.State.{CoreState}
use Rattle.gup_spec_events.specs.Event.{CoreEvent, happens, run, empty_mirror}
use Rattle.gup_spec_events.specs.Invariant.{AllCan}
use Rattle.gup_law_events.specs.Law.{all_told}
use Rattle.gup_spec_turns.specs.CoreTurn.{CoreTurn}
use Rattle.gup_spec_turns.specs.Emptying.{has_page, invalidated_by, invalidate, is_stale, left_in, empties, emptying}
use Rattle.gup_script.specs.Limits.{most_mirrors}
use Rattle.gup_law_turns.proofs.CalmStates.{Strand, AreTurnEvents, AreHandleEvents, IsHandleEvent, emptying_slot, unpinning}

-- ---- a turn that invalidates nothing

pub stale_by : (es : List CoreEvent) → ((p g : ℕ) → invalidate es p g ≡ false) → (frame : Option ℕ) (noted : Option Noted) → is_stale es frame noted ≡ false
stale_by es none None noted = refl
stale_by es none (Some f) None = refl
stale_by es none (Some f) (Some noted) = none noted.proc noted.page

none_emptied : (s : CoreState) (a : ℕ) (es : List CoreEvent) (m n : ℕ) → ((p g : ℕ) → invalidate es p g ≡ false) → empties s a es m n ≡ []
none_emptied s a es m zero none = refl
none_emptied s a es m (suc n) none = rw (stale_by es none (s.mirrored m) (s.slot m)) (none_emptied s a es (m + 1) n none)

handle_none : (a h p g : ℕ) {e : CoreEvent} → IsHandleEvent a h e → has_page (invalidated_by e) p g ≡ false
handle_none a h p g (unpinning f left) = refl
handle_none a h p g event = refl

handles_none : (a h : ℕ) (es : List CoreEvent) → AreHandleEvents a h es → (p g : ℕ) → invalidate es p g ≡ false
handles_none a h [] about p g = refl
handles_none a h (e ∷ es) about p g = rw (handle_none a h p g about.0) (handles_none a h es about.1 p g)

-- such a turn empties none
pub none_emptying : (s : CoreState) (a : ℕ) (turn : CoreTurn) → ((p g : ℕ) → invalidate turn.events p g ≡ false) → emptying s a turn ≡ turn
none_emptying s a turn none =
    ap (λ (es : List CoreEvent). record { events = es ++ turn.events; whats = turn.whats }) (none_emptied s a turn.events 0 most_mirrors none)

-- and so is a turn about a handle
pub about_same : (s : CoreState) (a h : ℕ) (turn : CoreTurn) → AreHandleEvents a h turn.events → emptying s a turn ≡ turn
about_same s a h turn about = none_emptying s a turn (handles_none a h turn.events about)

pub about_emptying : (s : CoreState) (a h : ℕ) (turn : CoreTurn) → AreHandleEvents a h turn.events → AreHandleEvents a h (emptying s a turn).events
about_emptying s a h turn about = subst (λ (t : CoreTurn). AreHandleEvents a h t.events) (sym (about_same s a h turn about)) about

-- ---- the events that empty slots

pub empties_kinds : (s : CoreState) (a p c : ℕ) (strand : Strand) (es : List CoreEvent) (m n : ℕ) → AreTurnEvents a p c strand (empties s a es m n)
empties_kinds s a p c strand es m zero = tt
empties_kinds s a p c strand es m (suc n) = go (is_stale es (s.mirrored m) (s.slot m)) (empties_kinds s a p c strand es (m + 1) n)
  where
    go : (stale : Bool) → AreTurnEvents a p c strand (empties s a es (m + 1) n) → AreTurnEvents a p c strand ((if stale then empty_mirror a m ∷ [] else []) ++ empties s a es (m + 1) n)
    go true kinds = (emptying_slot m, kinds)
    go false kinds = kinds

pub empties_told : (s : CoreState) (a : ℕ) (es : List CoreEvent) (m n : ℕ) → all_told (empties s a es m n) ≡ []
empties_told s a es m zero = refl
empties_told s a es m (suc n) = go (is_stale es (s.mirrored m) (s.slot m)) (empties_told s a es (m + 1) n)
  where
    go : (stale : Bool) → all_told (empties s a es (m + 1) n) ≡ [] → all_told ((if stale then empty_mirror a m ∷ [] else []) ++ empties s a es (m + 1) n) ≡ []
    go true none = none
    go false none = none

stale_filled : (es : List CoreEvent) (frame : Option ℕ) (noted : Option Noted) → is_stale es frame noted ≡ true → IsSome frame
stale_filled es None noted stale = cc stale
stale_filled es (Some f) noted stale = refl

other_slot : (m k : ℕ) (filled : ℕ → Option ℕ) → m < k → (if k == m then None else filled k) ≡ filled k
other_slot m k filled less = go (k == m) refl
  where
    go : (t : Bool) → (k == m) ≡ t → (if t then None else filled k) ≡ filled k
    go true same = absurd (grind (arith, nat_tests, same, less))
    go false other = refl

-- in a state in which the slots from m on are as they were
pub empties_can : (s t : CoreState) (a : ℕ) (es : List CoreEvent) (m n : ℕ) → ((k : ℕ) → m ≤ k → t.mirrored k ≡ s.mirrored k) → AllCan t (empties s a es m n)
empties_can s t a es m zero same = tt
empties_can s t a es m (suc n) same =
    go (is_stale es (s.mirrored m) (s.slot m)) refl
    (empties_can s t a es (m + 1) n (λ k most. same k (omega (arith, most))))
    (empties_can s (happens t (empty_mirror a m)) a es (m + 1) n (λ k most. other_slot m k t.mirrored (omega (arith, most)) ∙ same k (omega (arith, most))))
  where
    go : (stale : Bool) → is_stale es (s.mirrored m) (s.slot m) ≡ stale → AllCan t (empties s a es (m + 1) n) → AllCan (happens t (empty_mirror a m)) (empties s a es (m + 1) n) → AllCan t ((if stale then empty_mirror a m ∷ [] else []) ++ empties s a es (m + 1) n)
    go true is left emptied = (subst IsSome (sym (same m (omega arith))) (stale_filled es (s.mirrored m) (s.slot m) is), emptied)
    go false is left emptied = left

-- they fill none
pub empties_fill : (s t : CoreState) (a : ℕ) (es : List CoreEvent) (m n k f : ℕ) → (run t (empties s a es m n)).mirrored k ≡ Some f → t.mirrored k ≡ Some f
empties_fill s t a es m zero k f filled = filled
empties_fill s t a es m (suc n) k f filled =
    go (is_stale es (s.mirrored m) (s.slot m)) (empties_fill s t a es (m + 1) n k f) (empties_fill s (happens t (empty_mirror a m)) a es (m + 1) n k f) filled
  where
    kept : (b : Bool) → (if b then None else t.mirrored k) ≡ Some f → t.mirrored k ≡ Some f
    kept true is = absurd (cc is)
    kept false is = is

    go : (stale : Bool) → ((run t (empties s a es (m + 1) n)).mirrored k ≡ Some f → t.mirrored k ≡ Some f) → ((run (happens t (empty_mirror a m)) (empties s a es (m + 1) n)).mirrored k ≡ Some f → (happens t (empty_mirror a m)).mirrored k ≡ Some f) → (run t ((if stale then empty_mirror a m ∷ [] else []) ++ empties s a es (m + 1) n)).mirrored k ≡ Some f → t.mirrored k ≡ Some f
    go true left emptied is = kept (k == m) (emptied is)
    go false left emptied is = left is

-- and a slot that is left filled isn't stale
pub empties_leave : (s t : CoreState) (a : ℕ) (es : List CoreEvent) (m n k f : ℕ) → m ≤ k → k < m + n → (run t (empties s a es m n)).mirrored k ≡ Some f → is_stale es (s.mirrored k) (s.slot k) ≡ false
empties_leave s t a es m zero k f least most filled = absurd (omega (arith, least, most))
empties_leave s t a es m (suc n) k f least most filled =
    go (is_stale es (s.mirrored m) (s.slot m)) refl (eq-or-lt_of_le least) filled
    (λ less. empties_leave s t a es (m + 1) n k f less (omega (arith, most)))
    (λ less. empties_leave s (happens t (empty_mirror a m)) a es (m + 1) n k f less (omega (arith, most)))
    (empties_fill s (happens t (empty_mirror a m)) a es (m + 1) n k f)
  where
    emptied_here : (k ≡ m) → (if k == m then None else t.mirrored k) ≡ Some f → ⊥
    emptied_here same = go (k == m) refl
      where
        go : (b : Bool) → (k == m) ≡ b → (if b then None else t.mirrored k) ≡ Some f → ⊥
        go true is filled = cc filled
        go false other filled = grind (arith, nat_tests, other, same)

    go : (stale : Bool) → is_stale es (s.mirrored m) (s.slot m) ≡ stale → (m ≡ k) ⊎ (m < k) → (run t ((if stale then empty_mirror a m ∷ [] else []) ++ empties s a es (m + 1) n)).mirrored k ≡ Some f → (m + 1 ≤ k → (run t (empties s a es (m + 1) n)).mirrored k ≡ Some f → is_stale es (s.mirrored k) (s.slot k) ≡ false) → (m + 1 ≤ k → (run (happens t (empty_mirror a m)) (empties s a es (m + 1) n)).mirrored k ≡ Some f → is_stale es (s.mirrored k) (s.slot k) ≡ false) → ((run (happens t (empty_mirror a m)) (empties s a es (m + 1) n)).mirrored k ≡ Some f → (happens t (empty_mirror a m)).mirrored k ≡ Some f) → is_stale es (s.mirrored k) (s.slot k) ≡ false
    go true is (inl same) filled left emptied fill = absurd (emptied_here (sym same) (fill filled))
    go true is (inr less) filled left emptied fill = emptied (omega (arith, less)) filled
    go false is (inl same) filled left emptied fill = subst (λ (j : ℕ). is_stale es (s.mirrored j) (s.slot j) ≡ false) same is
    go false is (inr less) filled left emptied fill = left (omega (arith, less)) filled

-- ---- what is left

empties_none : (s : CoreState) (a : ℕ) (es : List CoreEvent) (m n p g : ℕ) → invalidate (empties s a es m n) p g ≡ false
empties_none s a es m zero p g = refl
empties_none s a es m (suc n) p g = go (is_stale es (s.mirrored m) (s.slot m)) (empties_none s a es (m + 1) n p g)
  where
    go : (stale : Bool) → invalidate (empties s a es (m + 1) n) p g ≡ false → invalidate ((if stale then empty_mirror a m ∷ [] else []) ++ empties s a es (m + 1) n) p g ≡ false
    go true none = none
    go false none = none

behind_none : (before es : List CoreEvent) (p g : ℕ) → invalidate before p g ≡ false → invalidate (before ++ es) p g ≡ invalidate es p g
behind_none [] es p g none = refl
behind_none (e ∷ before) es p g none = go (has_page (invalidated_by e) p g) none (behind_none before es p g)
  where
    go : (has : Bool) → (has || invalidate before p g) ≡ false → (invalidate before p g ≡ false → invalidate (before ++ es) p g ≡ invalidate es p g) → (has || invalidate (before ++ es) p g) ≡ invalidate es p g
    go true is later = absurd (cc is)
    go false is later = later is

-- the events that empty slots invalidate no page
pub emptying_stale : (s : CoreState) (a : ℕ) (turn : CoreTurn) (frame : Option ℕ) (noted : Option Noted) → left_in (emptying s a turn).events frame noted ≡ left_in turn.events frame noted
emptying_stale s a turn None noted = refl
emptying_stale s a turn (Some f) None = refl
emptying_stale s a turn (Some f) (Some noted) =
    ap (λ (stale : Bool). if stale then None else Some f)
    (behind_none (empties s a turn.events 0 most_mirrors) turn.events noted.proc noted.page (empties_none s a turn.events 0 most_mirrors noted.proc noted.page))

-- slots below the first of them stay
empties_below : (s t : CoreState) (a : ℕ) (es : List CoreEvent) (m n k : ℕ) → k < m → (run t (empties s a es m n)).mirrored k ≡ t.mirrored k
empties_below s t a es m zero k less = refl
empties_below s t a es m (suc n) k less =
    go (is_stale es (s.mirrored m) (s.slot m)) (empties_below s t a es (m + 1) n k (omega (arith, less)))
    (empties_below s (happens t (empty_mirror a m)) a es (m + 1) n k (omega (arith, less)))
  where
    other : (b : Bool) → (k == m) ≡ b → (if b then None else t.mirrored k) ≡ t.mirrored k
    other true same = absurd (grind (arith, nat_tests, same, less))
    other false apart = refl

    go : (stale : Bool) → (run t (empties s a es (m + 1) n)).mirrored k ≡ t.mirrored k → (run (happens t (empty_mirror a m)) (empties s a es (m + 1) n)).mirrored k ≡ (happens t (empty_mirror a m)).mirrored k → (run t ((if stale then empty_mirror a m ∷ [] else []) ++ empties s a es (m + 1) n)).mirrored k ≡ t.mirrored k
    go true left emptied = emptied ∙ other (k == m) refl
    go false left emptied = left

-- and each of them is left filled unless it is stale
pub empties_left : (s t : CoreState) (a : ℕ) (es : List CoreEvent) (m n k : ℕ) → m ≤ k → k < m + n → ((j : ℕ) → m ≤ j → t.mirrored j ≡ s.mirrored j) → (run t (empties s a es m n)).mirrored k ≡ left_in es (s.mirrored k) (s.slot k)
empties_left s t a es m zero k least most same = absurd (omega (arith, least, most))
empties_left s t a es m (suc n) k least most same =
    go (is_stale es (s.mirrored m) (s.slot m)) refl (eq-or-lt_of_le least)
    (λ less. empties_left s t a es (m + 1) n k less (omega (arith, most)) (λ j more. same j (omega (arith, more))))
    (λ less. empties_left s (happens t (empty_mirror a m)) a es (m + 1) n k less (omega (arith, most)) (λ j more. other_slot m j t.mirrored (omega (arith, more)) ∙ same j (omega (arith, more))))
  where
    emptied_here : (b : Bool) → (k == m) ≡ b → k ≡ m → (if b then None else t.mirrored k) ≡ None
    emptied_here true is here = refl
    emptied_here false apart here = absurd (grind (arith, nat_tests, apart, here))

    go : (stale : Bool) → is_stale es (s.mirrored m) (s.slot m) ≡ stale → (m ≡ k) ⊎ (m < k) → (m + 1 ≤ k → (run t (empties s a es (m + 1) n)).mirrored k ≡ left_in es (s.mirrored k) (s.slot k)) → (m + 1 ≤ k → (run (happens t (empty_mirror a m)) (empties s a es (m + 1) n)).mirrored k ≡ left_in es (s.mirrored k) (s.slot k)) → (run t ((if stale then empty_mirror a m ∷ [] else []) ++ empties s a es (m + 1) n)).mirrored k ≡ left_in es (s.mirrored k) (s.slot k)
    go true is (inl here) left emptied =
        empties_below s (happens t (empty_mirror a m)) a es (m + 1) n k (omega (arith, here)) ∙ emptied_here (k == m) refl (sym here)
        ∙ sym (ap (λ (b : Bool). if b then None else s.mirrored k) (subst (λ (j : ℕ). is_stale es (s.mirrored j) (s.slot j) ≡ true) here is))
    go true is (inr less) left emptied = emptied (omega (arith, less))
    go false is (inl here) left emptied =
        empties_below s t a es (m + 1) n k (omega (arith, here)) ∙ same k (omega (arith, here))
        ∙ sym (ap (λ (b : Bool). if b then None else s.mirrored k) (subst (λ (j : ℕ). is_stale es (s.mirrored j) (s.slot j) ≡ false) here is))
    go false is (inr less) left emptied = left (omega (arith, less))
