-- What a failed fork makes of frames, of the parent and of its child is what its events say.
use Rattle.std.proofs.Common.{◌≡◌, ℕ, zero, suc, ◌+◌, ◌<◌, ◌≤◌, ◌⊎◌, ◌&&◌, not, is_some, inl, inr, Bool, true, false, List, ◌++◌, Option, Some, None, refl, ap, sym, subst, ◌∙◌, arith, eq-or-lt_of_le}
use Rattle.std.proofs.lemmas.Bool.Decides.{nat_tests}
use Rattle.gup_base.specs.declared.entry.Entry.{Entry}
use Rattle.gup_plain.specs.Event.{page_numbers}
use Rattle.gup_frames.specs.Frames.{FramesValue}
use Rattle.gup_space.specs.Space.{SpaceValue, with_entry}
use Rattle.gup_space.proofs.After.{IsShownAs}
use Rattle.gup_spec_events.specs.State.{ForkStep}
use Rattle.gup_spec_events.specs.Event.{CoreEvent, fail_fork, put_child}
use Rattle.gup_spec_events.specs.Failure.{are_gone, puts_entry, puts_entries, fails}
use Rattle.gup_spec_events.proofs.Gone.{no_puts}
use Rattle.gup_fork.specs.Forks.{with_structure, with_table, AreForkEvents, without_entry, without_entries, table_behind, without_maps, emptied}
use Rattle.gup_fork.proofs.ForkAfter.{AreOfFork, failing_at, putting, parent_behind, all_frames_behind, all_parent_behind, all_child_behind}
use Rattle.gup_fork.proofs.ForkLemmas.{are_shown_fork_events}
use Rattle.gup_fork.proofs.Steps.{change}

-- ---- the references that are given back, one entry and then all

own_put : (a p c : ℕ) (done : List ℕ) (page : ℕ) (o : Option Entry) (ends : Bool) (rest : List CoreEvent) → AreOfFork a p c rest → AreOfFork a p c (puts_entry a p c done page o ends ++ rest)
own_put a p c done page None ends rest own = own
own_put a p c done page (Some e) ends rest own = (putting done page e ends, own)

own_puts : (a p c : ℕ) (done : List ℕ) (entry : ℕ → Option Entry) (first n : ℕ) → AreOfFork a p c (puts_entries a p c done entry first n)
own_puts a p c done entry first zero = tt
own_puts a p c done entry first (suc n) =
    own_put a p c done first (entry first) (are_gone entry (first + 1) n) (puts_entries a p c done entry (first + 1) n) (own_puts a p c done entry (first + 1) n)

frames_put : (a p c : ℕ) (done : List ℕ) (page : ℕ) (o : Option Entry) (ends : Bool) (rest : List CoreEvent) (F : FramesValue) → all_frames_behind (puts_entry a p c done page o ends ++ rest) F ≡ all_frames_behind rest (without_entry o F)
frames_put a p c done page None ends rest F = refl
frames_put a p c done page (Some e) ends rest F = refl

frames_puts : (a p c : ℕ) (done : List ℕ) (entry : ℕ → Option Entry) (first n : ℕ) (F : FramesValue) → all_frames_behind (puts_entries a p c done entry first n) F ≡ without_entries entry first n F
frames_puts a p c done entry first zero F = refl
frames_puts a p c done entry first (suc n) F =
    frames_put a p c done first (entry first) (are_gone entry (first + 1) n) (puts_entries a p c done entry (first + 1) n) F
    ∙ frames_puts a p c done entry (first + 1) n (without_entry (entry first) F)

-- with the last entry the structure lock is free
parent_puts : (a p c : ℕ) (done : List ℕ) (entry : ℕ → Option Entry) (first n : ℕ) (P : SpaceValue) → are_gone entry first n ≡ false → all_parent_behind (puts_entries a p c done entry first n) P ≡ record P { structure = None }
parent_puts a p c done entry first zero P some = absurd (cc)
parent_puts a p c done entry first (suc n) P some =
    at_entry (entry first) some (λ Q left. parent_puts a p c done entry (first + 1) n Q left)
  where
    rest : List CoreEvent
    rest = puts_entries a p c done entry (first + 1) n

    Later : Type 0
    Later = (Q : SpaceValue) → are_gone entry (first + 1) n ≡ false → all_parent_behind rest Q ≡ record Q { structure = None }

    by_last : (e : Entry) (ends : Bool) → are_gone entry (first + 1) n ≡ ends → Later → all_parent_behind rest (parent_behind (put_child a p c done first e ends) P) ≡ record P { structure = None }
    by_last e true gone later =
        ap (λ (es : List CoreEvent). all_parent_behind es (record P { structure = None })) (no_puts a p c done entry (first + 1) n gone)
    by_last e false gone later = later P gone

    at_entry : (here : Option Entry) → not (is_some here) && are_gone entry (first + 1) n ≡ false → Later → all_parent_behind (puts_entry a p c done first here (are_gone entry (first + 1) n) ++ rest) P ≡ record P { structure = None }
    at_entry None left later = later P left
    at_entry (Some e) left later = by_last e (are_gone entry (first + 1) n) refl later

parent_fails : (a p c : ℕ) (done : List ℕ) (step : ForkStep) (entry : ℕ → Option Entry) (n : ℕ) (P : SpaceValue) (ends : Bool) → are_gone entry 0 n ≡ ends → all_parent_behind (puts_entries a p c done entry 0 n) (parent_behind (fail_fork a p c done step ends) P) ≡ record P { sequence = P.sequence + 1; table = table_behind step P.table; structure = None }
parent_fails a p c done step entry n P true gone =
    ap (λ (es : List CoreEvent). all_parent_behind es (record P { sequence = P.sequence + 1; table = table_behind step P.table; structure = None })) (no_puts a p c done entry 0 n gone)
parent_fails a p c done step entry n P false gone =
    parent_puts a p c done entry 0 n (record P { sequence = P.sequence + 1; table = table_behind step P.table }) gone

-- the child on the way: its entries below the next page are gone, and the others are still there
record IsPutTo (C0 C : SpaceValue) (entry : ℕ → Option Entry) (next : ℕ) : Type 0 where
  rest : IsShownAs (record C { entry = λ _. None }) C0
  gone : (g : ℕ) → g < next → C.entry g ≡ None
  left : (g : ℕ) → next ≤ g → C.entry g ≡ entry g

-- the child after the reference of one entry
abbrev child_with : (next : ℕ) → Option Entry → SpaceValue → SpaceValue
child_with next None C = C
child_with next (Some e) C = with_entry next None C

child_put : (a p c : ℕ) (done : List ℕ) (page : ℕ) (o : Option Entry) (ends : Bool) (rest : List CoreEvent) (P C : SpaceValue) → (Q : SpaceValue) × (all_child_behind (puts_entry a p c done page o ends ++ rest) P C ≡ all_child_behind rest Q (child_with page o C))
child_put a p c done page None ends rest P C = (P, refl)
child_put a p c done page (Some e) ends rest P C = (parent_behind (put_child a p c done page e ends) P, refl)

put_to : (C0 C : SpaceValue) (entry : ℕ → Option Entry) (next : ℕ) (o : Option Entry) → entry next ≡ o → IsPutTo C0 C entry next → IsPutTo C0 (child_with next o C) entry (next + 1)
put_to C0 C entry next None none h =
    record {
      rest = h.rest;
      gone = λ g below. here g (eq-or-lt g next below);
      left = λ g above. h.left g (omega arith);
    }
  where
    eq-or-lt : (g k : ℕ) → g < k + 1 → (g ≡ k) ⊎ (g < k)
    eq-or-lt g k below = eq-or-lt_of_le (omega arith)

    here : (g : ℕ) → (g ≡ next) ⊎ (g < next) → C.entry g ≡ None
    here g (inl same) = ap C.entry same ∙ h.left next (omega arith) ∙ none
    here g (inr less) = h.gone g less
put_to C0 C entry next (Some e) some h =
    record {
      rest = record {
        right = h.rest.right;
        pages = h.rest.pages;
        entry = h.rest.entry;
        sequence = h.rest.sequence;
        has_pinned = h.rest.has_pinned;
        structure = h.rest.structure;
        table = h.rest.table;
        walks = h.rest.walks;
        place = h.rest.place;
        retired = h.rest.retired;
      };
      gone = λ g below. grind (arith, nat_tests, h.gone g);
      left = λ g above. grind (arith, nat_tests, h.left g);
    }

lt-or-le : (g k : ℕ) → (g < k) ⊎ (k ≤ g)
lt-or-le g zero = inr (omega arith)
lt-or-le zero (suc k) = inl (omega arith)
lt-or-le (suc g) (suc k) = go (lt-or-le g k)
  where
    go : (g < k) ⊎ (k ≤ g) → (suc g < suc k) ⊎ (suc k ≤ suc g)
    go (inl less) = inl (omega arith)
    go (inr least) = inr (omega arith)

child_puts : (a p c : ℕ) (done : List ℕ) (entry : ℕ → Option Entry) (first n : ℕ) (P C0 C : SpaceValue) → ((g : ℕ) → C0.entry g ≡ None) → ((g : ℕ) → first + n ≤ g → entry g ≡ None) → IsPutTo C0 C entry first → IsShownAs (all_child_behind (puts_entries a p c done entry first n) P C) C0
child_puts a p c done entry first zero P C0 C none high h =
    record {
      right = h.rest.right;
      pages = h.rest.pages;
      entry = λ g. all_gone g (lt-or-le g first) ∙ sym (none g);
      sequence = h.rest.sequence;
      has_pinned = h.rest.has_pinned;
      structure = h.rest.structure;
      table = h.rest.table;
      walks = h.rest.walks;
      place = h.rest.place;
      retired = h.rest.retired;
    }
  where
    all_gone : (g : ℕ) → (g < first) ⊎ (first ≤ g) → C.entry g ≡ None
    all_gone g (inl below) = h.gone g below
    all_gone g (inr above) = h.left g above ∙ high g (omega arith)
child_puts a p c done entry first (suc n) P C0 C none high h =
    let one = child_put a p c done first (entry first) (are_gone entry (first + 1) n) (puts_entries a p c done entry (first + 1) n) P C in
    subst (λ (x : SpaceValue). IsShownAs x C0) (sym one.1)
    (child_puts a p c done entry (first + 1) n one.0 C0 (child_with first (entry first) C) none (λ g above. high g (omega arith)) (put_to C0 C entry first (entry first) refl h))

-- ---- the whole failure

pub failed : (F F' : FramesValue) (P P' C C' : SpaceValue) (a : ℕ) (done : List ℕ) (step : ForkStep) → P' ≡ record P { sequence = P.sequence + 1 } → C' ≡ emptied C → F' ≡ without_entries C.entry 0 page_numbers F → ((g : ℕ) → page_numbers ≤ g → C.entry g ≡ None) → AreForkEvents (with_structure None (with_table (table_behind step P.table) (change F F' P P' C C'))) (λ p c. fails a p c done step C.entry)
failed F F' P P' C C' a done step parent child frames below =
    are_shown_fork_events (with_structure None (with_table (table_behind step P.table) (change F F' P P' C C'))) a (λ p c. fails a p c done step C.entry)
    (λ p c.
    let ends : Bool = are_gone C.entry 0 page_numbers in
    let Q : SpaceValue = parent_behind (fail_fork a p c done step ends) P in
    record {
      own = (failing_at done step ends, own_puts a p c done C.entry 0 page_numbers);
      frames = frames ∙ sym (frames_puts a p c done C.entry 0 page_numbers F);
      parent =
          ap (λ (x : SpaceValue). record x { table = table_behind step P.table; structure = None }) parent
          ∙ sym (parent_fails a p c done step C.entry page_numbers P ends refl);
      child =
          subst (λ (x : SpaceValue). IsShownAs (all_child_behind (puts_entries a p c done C.entry 0 page_numbers) Q (without_maps C)) x) (sym child)
          (child_puts a p c done C.entry 0 page_numbers Q (emptied C) (without_maps C) (λ g. refl) (λ g high. below g (omega (arith, high)))
          (record {
            rest = record { right = λ g. refl; pages = refl; entry = λ g. refl; sequence = refl; has_pinned = refl; structure = refl; table = refl; walks = refl; place = refl; retired = refl };
            gone = λ g less. absurd (omega arith);
            left = λ g least. refl;
          }));
    })
