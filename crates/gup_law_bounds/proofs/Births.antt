-- A process is brought once: each fork uses up an unborn process, and raises the sequence at its beginning and at its end.
use Rattle.std.proofs.Common.{◌≡◌, ℕ, ◌+◌, ◌*◌, ◌≤◌, ◌<◌, ◌==◌, ◌%◌, Bool, true, false, not, if◌then◌else◌, List, zero, suc, Some, refl, ap, sym, ◌∙◌, arith}
use Rattle.std.proofs.lemmas.Bool.Decides.{nat_tests}
use Rattle.gup_plain.specs.Put.{put}
use Rattle.gup_plain.specs.State.{Birth, unborn, growing, born, failed}
use Rattle.gup_spec_events.specs.State.{CoreState, forking, ForkStep, between, counted, lowered, cleared, copying, failing}
use Rattle.gup_spec_events.specs.Event.{CoreEvent, Can, happens, MayFail, is_odd, take_frame, fill, count_one, set_mark, upgrade, break_entry, put_entry, raise_flag, pin_page, make_handle, unpin_page, give_handle, take_handle, get_reference, put_reference, clear_entry, count_moved, place_frame, restore_entry, begin_fork, count_page, share_entry, share_mark, share_child, copy_word, place_child, pass_page, end_fork, fail_fork, put_child, fail_unborn, map_pages, lower_entry, protect_pages, drop_entry, discard_entry, add_table, take_out, reclaim, load, store, move_out, move_in, empty_mirror, fill_mirror, look, enter_walk, read_sequence, read_link, read_entry, grab_frame, miss_frame, recheck_above, recheck_same, recheck_other, read_mark, read_again, drop_grab, drop_last, drop_first, leave_walk}
use Rattle.gup_law_base.specs.Sound.{IsSound, Forking, forking_of, is_failing}
use Rattle.gup_law_base.proofs.Numbers.{by_number}

-- has the process been brought?
abbrev brought : Birth → ℕ
brought unborn = 0
brought (growing parent) = 1
brought born = 1
brought failed = 1

-- how many of the first n processes have been
abbrev all_brought : (n : ℕ) → (ℕ → Birth) → ℕ
all_brought zero birth = 0
all_brought (suc n) birth = brought (birth n) + all_brought n birth

brought_most : (b : Birth) → brought b ≤ 1
brought_most unborn = omega arith
brought_most (growing parent) = omega arith
brought_most born = omega arith
brought_most failed = omega arith

few_brought : (n : ℕ) (birth : ℕ → Birth) → all_brought n birth ≤ n
few_brought zero birth = omega arith
few_brought (suc n) birth = omega (arith, brought_most (birth n), few_brought n birth)

put_here : (c : ℕ) (b : Birth) (birth : ℕ → Birth) → put c b birth c ≡ b
put_here c b birth = grind (arith, nat_tests)

put_apart : (c : ℕ) (b : Birth) (birth : ℕ → Birth) (k : ℕ) → (k ≡ c → ⊥) → put c b birth k ≡ birth k
put_apart c b birth k apart = grind (arith, nat_tests)

-- a process whose birth changes is one of the first n, or it is none of them
brought_same : (n : ℕ) (birth : ℕ → Birth) (c : ℕ) (b : Birth) → n ≤ c → all_brought n (put c b birth) ≡ all_brought n birth
brought_same zero birth c b above = refl
brought_same (suc n) birth c b above =
    let here : brought (put c b birth n) ≡ brought (birth n) = ap brought (put_apart c b birth n (λ e. omega (arith, e, above))) in
    omega (arith, here, brought_same n birth c b (omega (arith, above)))

brought_change : (n : ℕ) (birth : ℕ → Birth) (c : ℕ) (b : Birth) → c < n → all_brought n (put c b birth) + brought (birth c) ≡ all_brought n birth + brought b
brought_change zero birth c b below = absurd (omega (arith, below))
brought_change (suc n) birth c b below = by_number n c (last (brought_same n birth c b)) (earlier (brought_change n birth c b))
  where
    last : (n ≤ c → all_brought n (put c b birth) ≡ all_brought n birth) → n ≡ c → brought (put c b birth n) + all_brought n (put c b birth) + brought (birth c) ≡ brought (birth n) + all_brought n birth + brought b
    last rest same =
        let here : brought (put c b birth n) ≡ brought b = ap (λ k. brought (put c b birth k)) same ∙ ap brought (put_here c b birth) in
        let was : brought (birth n) ≡ brought (birth c) = ap (λ k. brought (birth k)) same in
        omega (arith, here, was, rest (omega (arith, same)))

    earlier : (c < n → all_brought n (put c b birth) + brought (birth c) ≡ all_brought n birth + brought b) → (n ≡ c → ⊥) → brought (put c b birth n) + all_brought n (put c b birth) + brought (birth c) ≡ brought (birth n) + all_brought n birth + brought b
    earlier rest apart =
        let here : brought (put c b birth n) ≡ brought (birth n) = ap brought (put_apart c b birth n apart) in
        let less : c < n = omega (arith, below, apart) in
        omega (arith, here, rest less)

-- an odd number that is at most an even one is less
odd_less : (k n : ℕ) → is_odd k ≡ true → k ≤ 2 * n → k + 1 ≤ 2 * n
odd_less k n odd most =
    let one : k % 2 ≡ 1 = grind (arith, nat_tests) in
    omega arith

-- a process's sequence is at most twice the number of processes that have been brought
abbrev pub AreForked : (n : ℕ) → CoreState → Type 0
AreForked n s = (p : ℕ) → s.sequence p ≤ 2 * all_brought n s.birth

-- one sequence is raised by 1 at most, and none above the bound
raised : (p k m : ℕ) (f : ℕ → ℕ) → k ≤ m → ((q : ℕ) → f q ≤ m) → (q : ℕ) → put p k f q ≤ m
raised p k m f here all q = go (q == p)
  where
    go : (b : Bool) → (if b then k else f q) ≤ m
    go true = here
    go false = all q

-- a fork that may fail has not failed
unfailing : (step : ForkStep) → MayFail step → is_failing step ≡ false
unfailing between may = refl
unfailing (counted page) may = refl
unfailing (lowered page) may = refl
unfailing (cleared page) may = refl
unfailing (copying page n) may = refl
unfailing failing may = absurd may

-- whose birth changes, is one of the first n
abbrev pub IsLow : (n : ℕ) → (s t : CoreState) → Type 0
IsLow n s t = (c : ℕ) → (t.birth c ≡ s.birth c → ⊥) → c < n

forked_begin : (n : ℕ) (s : CoreState) (a p c : ℕ) → ((put c (growing p) s.birth c ≡ s.birth c → ⊥) → c < n) → Can s (begin_fork a p c) → AreForked n s → AreForked n (happens s (begin_fork a p c))
forked_begin n s a p c low can h =
    let below : c < n = low (λ same. let no : growing p ≡ unborn = sym (put_here c (growing p) s.birth) ∙ (same ∙ can.1) in absurd (cc)) in
    let was : brought (s.birth c) ≡ 0 = ap brought can.1 in
    let more = brought_change n s.birth c (growing p) below in
    raised p (s.sequence p + 1) (2 * all_brought n (put c (growing p) s.birth)) s.sequence (omega (arith, was, more, h p)) (λ q. omega (arith, was, more, h q))

-- a fork that hasn't failed ends, or fails
ended : (n : ℕ) (s : CoreState) (a p c : ℕ) (done : List ℕ) (step : ForkStep) (b : Birth) → brought b ≡ 1 → (growing p ≡ b → ⊥) → is_failing step ≡ false → ((put c b s.birth c ≡ s.birth c → ⊥) → c < n) → IsSound s → s.job a ≡ forking p c done step → AreForked n s → (q : ℕ) → put p (s.sequence p + 1) s.sequence q ≤ 2 * all_brought n (put c b s.birth)
ended n s a p c done step b one other runs low sound is h =
    let k : Forking = record { proc = p; child = c; done = done; step = step } in
    let forks : sound.0.forks a ≡ Some k = sound.1.forks_are a ∙ ap forking_of is in
    let birth : s.birth c ≡ growing p = sound.1.fork_birth a k forks ∙ ap (λ (failing : Bool). if failing then failed else growing p) runs in
    let odd : is_odd (s.sequence p) ≡ true = sound.1.fork_odd a k forks ∙ ap not runs in
    let below : c < n = low (λ same. other (sym birth ∙ (sym same ∙ put_here c b s.birth))) in
    let was : brought (s.birth c) ≡ 1 = ap brought birth in
    let same = brought_change n s.birth c b below in
    let less = odd_less (s.sequence p) (all_brought n s.birth) odd (h p) in
    raised p (s.sequence p + 1) (2 * all_brought n (put c b s.birth)) s.sequence (omega (arith, was, one, same, less)) (λ q. omega (arith, was, one, same, h q))

forked_end : (n : ℕ) (s : CoreState) (a p c : ℕ) (done : List ℕ) → ((put c born s.birth c ≡ s.birth c → ⊥) → c < n) → IsSound s → Can s (end_fork a p c done) → AreForked n s → AreForked n (happens s (end_fork a p c done))
forked_end n s a p c done low sound can h = ended n s a p c done between born refl (λ e. absurd (cc)) refl low sound can.0 h

forked_fail : (n : ℕ) (s : CoreState) (a p c : ℕ) (done : List ℕ) (step : ForkStep) (ends : Bool) → ((put c failed s.birth c ≡ s.birth c → ⊥) → c < n) → IsSound s → Can s (fail_fork a p c done step ends) → AreForked n s → AreForked n (happens s (fail_fork a p c done step ends))
forked_fail n s a p c done step ends low sound can h =
    ended n s a p c done step failed refl (λ e. absurd (cc)) (unfailing step can.1) low sound can.0 h

forked_unborn : (n : ℕ) (s : CoreState) (a p c : ℕ) → ((put c failed s.birth c ≡ s.birth c → ⊥) → c < n) → Can s (fail_unborn a p c) → AreForked n s → AreForked n (happens s (fail_unborn a p c))
forked_unborn n s a p c low can h q =
    let below : c < n = low (λ same. let no : failed ≡ unborn = sym (put_here c failed s.birth) ∙ (same ∙ can.1) in absurd (cc)) in
    let was : brought (s.birth c) ≡ 0 = ap brought can.1 in
    omega (arith, was, brought_change n s.birth c failed below, h q)

pub forked_event : (n : ℕ) (s : CoreState) (e : CoreEvent) → IsLow n s (happens s e) → IsSound s → Can s e → AreForked n s → AreForked n (happens s e)
forked_event n s (take_frame a f) low sound can h = h
forked_event n s (fill a p page f) low sound can h = h
forked_event n s (count_one a p page f writable) low sound can h = h
forked_event n s (set_mark a p page f) low sound can h = h
forked_event n s (upgrade a p page f) low sound can h = h
forked_event n s (break_entry a p page old new was writable) low sound can h = h
forked_event n s (put_entry a f) low sound can h = h
forked_event n s (raise_flag a p) low sound can h = h
forked_event n s (pin_page a p page entry write long) low sound can h = h
forked_event n s (make_handle a handle) low sound can h = h
forked_event n s (unpin_page a handle f left) low sound can h = h
forked_event n s (give_handle a handle to) low sound can h = h
forked_event n s (take_handle a handle) low sound can h = h
forked_event n s (get_reference a p page f k writable) low sound can h = h
forked_event n s (put_reference a f k) low sound can h = h
forked_event n s (clear_entry a p page entry allowed) low sound can h = h
forked_event n s (count_moved a p page entry allowed count) low sound can h = h
forked_event n s (place_frame a p page f entry allowed) low sound can h = h
forked_event n s (restore_entry a p page entry allowed count) low sound can h = h
forked_event n s (begin_fork a p c) low sound can h = forked_begin n s a p c (low c) can h
forked_event n s (count_page a p c done page entry copies) low sound can h = h
forked_event n s (share_entry a p c done page f writable) low sound can h = h
forked_event n s (share_mark a p c done page f writable) low sound can h = h
forked_event n s (share_child a p c done page f writable) low sound can h = h
forked_event n s (copy_word a p c done page word to entry) low sound can h = h
forked_event n s (place_child a p c done page to rights) low sound can h = h
forked_event n s (pass_page a p c done page) low sound can h = h
forked_event n s (end_fork a p c done) low sound can h = forked_end n s a p c done (low c) sound can h
forked_event n s (fail_fork a p c done step ends) low sound can h = forked_fail n s a p c done step ends (low c) sound can h
forked_event n s (put_child a p c done page entry ends) low sound can h = h
forked_event n s (fail_unborn a p c) low sound can h = forked_unborn n s a p c (low c) can h
forked_event n s (map_pages a p page m rights) low sound can h = h
forked_event n s (lower_entry a p page f) low sound can h = h
forked_event n s (protect_pages a p page m rights) low sound can h = h
forked_event n s (drop_entry a p page was) low sound can h = h
forked_event n s (discard_entry a p page was) low sound can h = h
forked_event n s (add_table a p page table) low sound can h = h
forked_event n s (take_out a p page table) low sound can h = h
forked_event n s (reclaim a p) low sound can h = h
forked_event n s (load a p page word f value) low sound can h = h
forked_event n s (store a p page word f value) low sound can h = h
forked_event n s (move_out a handle index slot f value) low sound can h = h
forked_event n s (move_in a handle index slot f value) low sound can h = h
forked_event n s (empty_mirror a m) low sound can h = h
forked_event n s (fill_mirror a m p page f writable) low sound can h = h
forked_event n s (look a m word f value) low sound can h = h
forked_event n s (enter_walk a p write long) low sound can h = h
forked_event n s (read_sequence a p write long sequence) low sound can h = h
forked_event n s (read_link a p write long sequence page path next) low sound can h = h
forked_event n s (read_entry a p write long sequence page path was) low sound can h = h
forked_event n s (grab_frame a p write long sequence page path entry) low sound can h = h
forked_event n s (miss_frame a p write long sequence page path entry) low sound can h = h
forked_event n s (recheck_above a p write long sequence page path entry same) low sound can h = h
forked_event n s (recheck_same a p write long sequence page path entry) low sound can h = h
forked_event n s (recheck_other a p write long sequence page path entry) low sound can h = h
forked_event n s (read_mark a p write long sequence page entry mark) low sound can h = h
forked_event n s (read_again a p write long sequence step now) low sound can h = h
forked_event n s (drop_grab a p write long sequence f) low sound can h = h
forked_event n s (drop_last a p write long sequence left last) low sound can h = h
forked_event n s (drop_first a p write long sequence first left) low sound can h = h
forked_event n s (leave_walk a p write long sequence) low sound can h = h

-- each process is brought once
pub few_forks : (n : ℕ) (s : CoreState) → AreForked n s → (p : ℕ) → s.sequence p ≤ 2 * n
few_forks n s h p = omega (arith, h p, few_brought n s.birth)
