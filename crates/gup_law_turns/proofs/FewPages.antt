-- Few pages are mapped, and few forks begin.
use Rattle.std.proofs.Common.{◌≡◌, ℕ, ◌+◌, ◌-◌, ◌*◌, ◌≤◌, ◌<◌, ◌==◌, ◌%◌, Bool, true, false, not, if◌then◌else◌, List, [], ◌∷◌, Option, Some, None, IsSome, refl, ap, sym, subst, ◌∙◌, arith}
use Rattle.std.proofs.lemmas.Bool.Decides.{nat_tests}
use Rattle.gup_base.specs.declared.entry.Entry.{Entry}
use Rattle.gup_base.specs.declared.entry.Rights.{Rights}
use Rattle.gup_plain.specs.Put.{put, put2, spread}
use Rattle.gup_plain.specs.Event.{most_pages, page_numbers}
use Rattle.gup_plain.specs.State.{Birth, unborn, growing, born, failed}
use Rattle.gup_spec_events.specs.State.{CoreState, core_start, ForkStep, between, failing}
use Rattle.gup_spec_events.specs.Event.{CoreEvent, Can, happens, MayFail, is_odd, map_pages, protect_pages, drop_entry, begin_fork, end_fork, fail_fork, fail_unborn, run}
use Rattle.gup_spec_events.specs.Invariant.{AllCan}
use Rattle.gup_law_base.specs.Sound.{IsSound, Forking, forking_of, is_failing}
use Rattle.gup_plain.specs.Pages.{mapped_pages}
use Rattle.gup_law_turns.proofs.CalmStates.{Strand, AreTurnEvents, IsTurnEvent, mapping, protecting, dropping, handling, IsHandleEvent, AreHandleEvents, unpinning, beginning, ending, failing_at, failing_unborn}
use Rattle.gup_law_turns.proofs.MappedCounts.{mapped_spread, mapped_same, mapped_lost, mapped_none}
use Rattle.gup_law_turns.proofs.Puts.{put_same, put_other}
use Rattle.gup_law_turns.proofs.StandingStates.{brought, all_brought, IsFew}
use Rattle.gup_law_turns.proofs.Sums.{sum_at, sum_ones}
use Rattle.gup_law_turns.proofs.EventLists.{Law}

-- births

brought_most : (b : Birth) → brought b ≤ 1
brought_most unborn = omega arith
brought_most b = omega arith

-- a process whose birth changes
brought_change : (n : ℕ) (birth : ℕ → Birth) (c : ℕ) (b : Birth) → c < n → all_brought n (put c b birth) + brought (birth c) ≡ all_brought n birth + brought b
brought_change n birth c b below =
    let here : brought (put c b birth c) ≡ brought b = ap brought (put_same c b birth) in
    let all = sum_at n (λ p. brought (put c b birth p)) (λ p. brought (birth p)) c below (λ j other. ap brought (put_other c j b birth other)) in
    omega (arith, here, all)

-- an odd number that is at most an even one is less
odd_less : (k n : ℕ) → is_odd k ≡ true → k ≤ 2 * n → k + 1 ≤ 2 * n
odd_less k n odd most =
    let one : k % 2 ≡ 1 = grind (arith, nat_tests) in
    omega arith

-- what a change at one process keeps
at_put : {X Y : Type 0} (P : X → Y → Type 0) (p : ℕ) (x : X) (y : Y) (f : ℕ → X) (g : ℕ → Y) → P x y → ((q : ℕ) → P (f q) (g q)) → (q : ℕ) → P (put p x f q) (put p y g q)
at_put P p x y f g here there q = go (q == p)
  where
    go : (b : Bool) → P (if b then x else f q) (if b then y else g q)
    go true = here
    go false = there q

-- a change of one page of a process is one of its pages
put2_put : {X : Type 0} (p page : ℕ) (x : X) (f : ℕ → ℕ → X) (q : ℕ) → put2 p page x f q ≡ put p (put page x (f p)) f q
put2_put p page x f q = grind (arith, nat_tests)

-- the events

-- rights, pages, sequences and births stay
few_same : (n : ℕ) (s t : CoreState) → t.right ≡ s.right → t.pages ≡ s.pages → t.sequence ≡ s.sequence → t.birth ≡ s.birth → IsFew n s → IsFew n t
few_same n s t right pages sequence birth h =
    record {
      mapped = λ p. rw (right, pages) (h.mapped p);
      pages = λ p. rw pages (h.pages p);
      forked = λ p. rw (sequence, birth) (h.forked p);
    }

few_map : (n : ℕ) (s : CoreState) (a p page m : ℕ) (rights : Rights) → Can s (map_pages a p page m rights) → IsFew n s → IsFew n (happens s (map_pages a p page m rights))
few_map n s a p page m rights can h =
    let more = mapped_spread page m rights (s.right p) in
    record {
      mapped = at_put (λ (f : ℕ → Option Rights) (k : ℕ). mapped_pages f ≤ k) p (spread page m (λ _. Some rights) (s.right p)) (s.pages p + m) s.right s.pages (omega (arith, more, h.mapped p)) h.mapped;
      pages = at_put (λ (k j : ℕ). k ≤ most_pages) p (s.pages p + m) (s.pages p + m) s.pages s.pages can.4 h.pages;
      forked = h.forked;
    }

few_protect : (n : ℕ) (s : CoreState) (a p page m : ℕ) (rights : Rights) → Can s (protect_pages a p page m rights) → IsFew n s → IsFew n (happens s (protect_pages a p page m rights))
few_protect n s a p page m rights can h =
    let same = mapped_same page m rights (s.right p) can.2 in
    record {
      mapped = λ q. go q (q == p) refl (omega (arith, same, h.mapped p));
      pages = h.pages;
      forked = h.forked;
    }
  where
    go : (q : ℕ) (b : Bool) → (q == p) ≡ b → mapped_pages (spread page m (λ _. Some rights) (s.right p)) ≤ s.pages p → mapped_pages (if b then spread page m (λ _. Some rights) (s.right p) else s.right q) ≤ s.pages q
    go q true is few =
        let one : p ≡ q = grind (arith, nat_tests) in
        subst (λ (k : ℕ). mapped_pages (spread page m (λ _. Some rights) (s.right p)) ≤ s.pages k) one few
    go q false is few = h.mapped q

few_drop : (n : ℕ) (s : CoreState) (a p page : ℕ) (was : Option Entry) → IsSound s → Can s (drop_entry a p page was) → IsFew n s → IsFew n (happens s (drop_entry a p page was))
few_drop n s a p page was sound can h =
    let new : ℕ → Option Rights = put page None (s.right p) in
    let less = mapped_lost (s.right p) new (page, numbered (s.right p page) refl can.3, can.3, refl) in
    let each = at_put (λ (f : ℕ → Option Rights) (k : ℕ). mapped_pages f ≤ k) p new (s.pages p - 1) s.right s.pages (omega (arith, less, h.mapped p)) h.mapped in
    record {
      mapped = λ q. subst (λ (f : ℕ → Option Rights). mapped_pages f ≤ put p (s.pages p - 1) s.pages q) (sym (put2_put p page None s.right q)) (each q);
      pages = at_put (λ (k j : ℕ). k ≤ most_pages) p (s.pages p - 1) (s.pages p - 1) s.pages s.pages (omega (arith, h.pages p)) h.pages;
      forked = h.forked;
    }
  where
    numbered : (o : Option Rights) → s.right p page ≡ o → IsSome o → page < page_numbers
    numbered None is some = absurd (cc)
    numbered (Some rights) is some = sound.1.right_numbered p page rights is

few_begin : (n : ℕ) (s : CoreState) (a p c : ℕ) → c < n → Can s (begin_fork a p c) → IsFew n s → IsFew n (happens s (begin_fork a p c))
few_begin n s a p c below can h =
    let was : brought (s.birth c) ≡ 0 = ap brought can.1 in
    let more = brought_change n s.birth c (growing p) below in
    record {
      mapped = at_put (λ (f : ℕ → Option Rights) (k : ℕ). mapped_pages f ≤ k) c (s.right p) (mapped_pages (s.right p)) s.right s.pages (omega arith) h.mapped;
      pages = at_put (λ (k j : ℕ). k ≤ most_pages) c (mapped_pages (s.right p)) (mapped_pages (s.right p)) s.pages s.pages (omega (arith, h.mapped p, h.pages p)) h.pages;
      forked = at_put (λ (k j : ℕ). k ≤ 2 * all_brought n (put c (growing p) s.birth)) p (s.sequence p + 1) (s.sequence p + 1) s.sequence s.sequence (omega (arith, was, more, h.forked p)) (λ q. omega (arith, was, more, h.forked q));
    }

few_end : (n : ℕ) (s : CoreState) (a p c : ℕ) (done : List ℕ) → c < n → IsSound s → Can s (end_fork a p c done) → IsFew n s → IsFew n (happens s (end_fork a p c done))
few_end n s a p c done below sound can h =
    let k : Forking = record { proc = p; child = c; done = done; step = between } in
    let forks : sound.0.forks a ≡ Some k = sound.1.forks_are a ∙ ap forking_of can.0 in
    let birth : s.birth c ≡ growing p = sound.1.fork_birth a k forks in
    let odd : is_odd (s.sequence p) ≡ true = sound.1.fork_odd a k forks in
    let was : brought (s.birth c) ≡ 1 = ap brought birth in
    let same = brought_change n s.birth c born below in
    let less = odd_less (s.sequence p) (all_brought n s.birth) odd (h.forked p) in
    record {
      mapped = h.mapped;
      pages = h.pages;
      forked = at_put (λ (k j : ℕ). k ≤ 2 * all_brought n (put c born s.birth)) p (s.sequence p + 1) (s.sequence p + 1) s.sequence s.sequence (omega (arith, was, same, less)) (λ q. omega (arith, was, same, h.forked q));
    }

-- a fork that may fail has not failed
unfailing : (step : ForkStep) → MayFail step → is_failing step ≡ false
unfailing failing may = absurd may
unfailing step may = refl

-- the child of one that fails has no mappings, and the sequence was odd, as at an end
few_fail : (n : ℕ) (s : CoreState) (a p c : ℕ) (done : List ℕ) (step : ForkStep) (ends : Bool) → c < n → IsSound s → Can s (fail_fork a p c done step ends) → IsFew n s → IsFew n (happens s (fail_fork a p c done step ends))
few_fail n s a p c done step ends below sound can h =
    let k : Forking = record { proc = p; child = c; done = done; step = step } in
    let forks : sound.0.forks a ≡ Some k = sound.1.forks_are a ∙ ap forking_of can.0 in
    let runs : is_failing step ≡ false = unfailing step can.1 in
    let birth : s.birth c ≡ growing p = sound.1.fork_birth a k forks ∙ ap (λ (b : Bool). if b then failed else growing p) runs in
    let odd : is_odd (s.sequence p) ≡ true = sound.1.fork_odd a k forks ∙ ap not runs in
    let was : brought (s.birth c) ≡ 1 = ap brought birth in
    let same = brought_change n s.birth c failed below in
    let less = odd_less (s.sequence p) (all_brought n s.birth) odd (h.forked p) in
    let none = mapped_none (λ _. None) (λ k. refl) in
    record {
      mapped = at_put (λ (f : ℕ → Option Rights) (k : ℕ). mapped_pages f ≤ k) c (λ _. None) 0 s.right s.pages (omega (arith, none)) h.mapped;
      pages = at_put (λ (k j : ℕ). k ≤ most_pages) c 0 0 s.pages s.pages (omega arith) h.pages;
      forked = at_put (λ (k j : ℕ). k ≤ 2 * all_brought n (put c failed s.birth)) p (s.sequence p + 1) (s.sequence p + 1) s.sequence s.sequence (omega (arith, was, same, less)) (λ q. omega (arith, was, same, h.forked q));
    }

-- nor has the child of a failed process any
few_unborn : (n : ℕ) (s : CoreState) (a p c : ℕ) → c < n → Can s (fail_unborn a p c) → IsFew n s → IsFew n (happens s (fail_unborn a p c))
few_unborn n s a p c below can h =
    let was : brought (s.birth c) ≡ 0 = ap brought can.1 in
    let more = brought_change n s.birth c failed below in
    let none = mapped_none (λ _. None) (λ k. refl) in
    record {
      mapped = at_put (λ (f : ℕ → Option Rights) (k : ℕ). mapped_pages f ≤ k) c (λ _. None) 0 s.right s.pages (omega (arith, none)) h.mapped;
      pages = at_put (λ (k j : ℕ). k ≤ most_pages) c 0 0 s.pages s.pages (omega arith) h.pages;
      forked = λ q. omega (arith, was, more, h.forked q);
    }

pub few_handle : (n : ℕ) (s : CoreState) (a handle : ℕ) (e : CoreEvent) → IsHandleEvent a handle e → IsFew n s → IsFew n (happens s e)
few_handle n s a handle e (unpinning f left) h = few_same n s (happens s e) refl refl refl refl h
few_handle n s a handle e event h = few_same n s (happens s e) refl refl refl refl h

few_event : (n : ℕ) (s : CoreState) (a p c : ℕ) (strand : Strand) (e : CoreEvent) → IsTurnEvent a p c strand e → c < n → IsSound s → Can s e → IsFew n s → IsFew n (happens s e)
few_event n s a p c strand e (mapping page m rights) below sound can h = few_map n s a p page m rights can h
few_event n s a p c strand e (protecting page m rights) below sound can h = few_protect n s a p page m rights can h
few_event n s a p c strand e (dropping page was) below sound can h = few_drop n s a p page was sound can h
few_event n s a p c strand e (handling handle is event) below sound can h = few_handle n s a handle e event h
few_event n s a p c strand e beginning below sound can h = few_begin n s a p c below can h
few_event n s a p c strand e (ending done) below sound can h = few_end n s a p c done below sound can h
few_event n s a p c strand e (failing_at done step ends) below sound can h = few_fail n s a p c done step ends below sound can h
few_event n s a p c strand e failing_unborn below sound can h = few_unborn n s a p c below can h
few_event n s a p c strand e event below sound can h = few_same n s (happens s e) refl refl refl refl h

-- events of a turn keep it
pub few_kept : Law → (n : ℕ) (s : CoreState) (a p c : ℕ) (strand : Strand) (es : List CoreEvent) → AreTurnEvents a p c strand es → c < n → IsSound s → AllCan s es → IsFew n s → IsFew n (run s es)
few_kept law n s a p c strand [] kinds below sound can h = h
few_kept law n s a p c strand (e ∷ es) kinds below sound can h =
    let now = law s e sound can.0 in
    few_kept law n (happens s e) a p c strand es kinds.1 below now.sound can.1 (few_event n s a p c strand e kinds.0 below sound can.0 h)

-- and so do those that are of no process
pub few_handles : (n : ℕ) (s : CoreState) (a handle : ℕ) (es : List CoreEvent) → AreHandleEvents a handle es → IsFew n s → IsFew n (run s es)
few_handles n s a handle [] kinds h = h
few_handles n s a handle (e ∷ es) kinds h = few_handles n (happens s e) a handle es kinds.1 (few_handle n s a handle e kinds.0 h)

-- at the start there are none
pub few_first : (n movable normal tables : ℕ) (needs_tables : Bool) (is_born : ℕ → Bool) → IsFew n (core_start movable normal tables needs_tables is_born)
few_first n movable normal tables needs_tables is_born =
    let none = mapped_none (λ _. None) (λ k. refl) in
    record {
      mapped = λ p. omega (arith, none);
      pages = λ p. omega arith;
      forked = λ p. omega arith;
    }

-- each process is brought once, so of a few processes the sequences are small
pub few_sequence : (n : ℕ) → n ≤ 16 → (s : CoreState) → IsFew n s → (p : ℕ) → s.sequence p ≤ 32
few_sequence n few s h p =
    let most = sum_ones n (λ q. brought (s.birth q)) (λ q. brought_most (s.birth q)) in
    omega (arith, most, h.forked p)
