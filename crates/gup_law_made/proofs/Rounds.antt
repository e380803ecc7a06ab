-- Rounds keep texts good, and so do the forks behind them.
use Rattle.std.proofs.Common.{◌≡◌, ℕ, zero, suc, ◌+◌, ◌*◌, ◌<◌, ◌≤◌, Bool, true, false, List, codes, slice_get, Some, refl, ap, subst, ◌∙◌, lit<, eqb-true, ne_eqb, if◌then◌else◌, arith}
use Rattle.std.specs.Prelude.{◌==◌, nat_lt}
use Rattle.gup_script.specs.declared.op.Kind.TheVariants.{Thread}
use Rattle.gup_script.specs.declared.op.Op.TheVariants as ops
use Rattle.gup_script.specs.Script.{Process}
use Rattle.gup_spec_grammar.specs.declared.named.Named.TheVariants as named
use Rattle.gup_spec_grammar.specs.Names.{find}
use Rattle.gup_spec_grammar.specs.Outline.{with_operation, is_child_at}
use Rattle.gup_spec_grammar.specs.Said.{Word, forks}
use Rattle.gup_make.specs.Made.{Made, on, load_line, store_line, discard_line, unmap_line, pin_lines, get_lines, chosen, thread_lines, first_device, second_device, move_line, round, forks_behind, rounds}
use Rattle.gup_law_made.proofs.Texts.{IsPlain}
use Rattle.gup_law_made.proofs.Standing.{head_names, head_processes, standing_operation}
use Rattle.gup_law_made.proofs.Good.{IsGood, is_good_later, IsActor, acted, Keeps, keeps_more, keeps_both, keeps_either, keeps_drawing}
use Rattle.gup_law_made.proofs.Operations.{load_keeps, store_keeps, discard_keeps, unmap_keeps, first_device_keeps, second_device_keeps, move_keeps}
use Rattle.gup_law_made.proofs.Handles.{pin_keeps, get_keeps}

-- ---- a round

chosen_keeps : (k p choice : ℕ) (thread : Word) → IsActor thread (Thread p) → Keeps 3 k (chosen thread choice)
chosen_keeps k p choice thread actor =
    let unmap : Keeps 3 k (unmap_line thread) = keeps_more 1 3 k (unmap_line thread) (omega arith) (unmap_keeps k p thread actor) in
    let discard : Keeps 3 k (discard_line thread) = keeps_more 1 3 k (discard_line thread) (omega arith) (discard_keeps k p thread actor) in
    let store : Keeps 3 k (store_line thread) = keeps_more 1 3 k (store_line thread) (omega arith) (store_keeps k p thread actor) in
    let load : Keeps 3 k (load_line thread) = keeps_more 1 3 k (load_line thread) (omega arith) (load_keeps k p thread actor) in
    keeps_either 3 k (nat_lt choice 2) (load_line thread) _ load
    (keeps_either 3 k (nat_lt choice 4) (store_line thread) _ store
    (keeps_either 3 k (choice == 4) (discard_line thread) _ discard
    (keeps_either 3 k (choice == 5) (pin_lines thread) _ (pin_keeps k p thread actor)
    (keeps_either 3 k (choice == 6) (get_lines thread) (unmap_line thread) (get_keeps k p thread actor) unmap))))

thread_keeps : (k p : ℕ) (thread : Word) → IsActor thread (Thread p) → Keeps 3 k (thread_lines thread)
thread_keeps k p thread actor = keeps_drawing 3 k 8 (chosen thread) (omega arith) (λ choice lt. chosen_keeps k p choice thread actor)

first_thread : IsActor (codes "t1") (Thread 0)
first_thread = record { number = 0; named = refl; is_kind = refl; plain = refl }

second_thread : IsActor (codes "t2") (Thread 0)
second_thread = record { number = 1; named = refl; is_kind = refl; plain = refl }

third_thread : IsActor (codes "t3") (Thread 1)
third_thread = record { number = 2; named = refl; is_kind = refl; plain = refl }

fourth_thread : IsActor (codes "t4") (Thread 2)
fourth_thread = record { number = 3; named = refl; is_kind = refl; plain = refl }

abbrev two_threads : Made → Made
two_threads made = thread_lines (codes "t2") (thread_lines (codes "t1") made)

abbrev three_threads : Made → Made
three_threads made = thread_lines (codes "t3") (two_threads made)

abbrev four_threads : Made → Made
four_threads made = thread_lines (codes "t4") (three_threads made)

threads_keep : (k : ℕ) → Keeps 12 k four_threads
threads_keep k =
    keeps_both 9 3 k three_threads (thread_lines (codes "t4"))
    (keeps_both 6 3 k two_threads (thread_lines (codes "t3")) (keeps_both 3 3 k (thread_lines (codes "t1")) (thread_lines (codes "t2")) (thread_keeps k 0 (codes "t1") first_thread) (thread_keeps k 0 (codes "t2") second_thread)) (thread_keeps k 1 (codes "t3") third_thread))
    (thread_keeps k 2 (codes "t4") fourth_thread)

round_keeps : (k : ℕ) → Keeps 15 k round
unfolding round
round_keeps k =
    keeps_both 14 1 k (λ made. second_device (first_device (four_threads made))) move_line
    (keeps_both 13 1 k (λ made. first_device (four_threads made)) second_device (keeps_both 12 1 k four_threads first_device (threads_keep k) (first_device_keeps k)) (second_device_keeps k))
    (move_keeps k)

-- ---- the forks

child_there : (processes : List Process) (p : ℕ) → processes ≡ head_processes → is_child_at (slice_get head_processes p) ≡ true → is_child_at (slice_get processes p) ≡ true
child_there processes p same is = ap (λ (ps : List Process). is_child_at (slice_get ps p)) same ∙ is

-- A fork that brings child p, where behind it child p is none of those that are to be brought.
fork_good : (n k p q : ℕ) (thread child : Word) → IsActor thread (Thread q) → find head_names child ≡ Some (named.Process p) → is_child_at (slice_get head_processes p) ≡ true → IsPlain child → n + 1 ≤ 900 → k + 1 ≡ 5 * p → (made : Made) → IsGood n k made.handles made.text → IsGood (n + 1) (k + 1) made.handles (on thread (forks child) made).text
fork_good n k p q thread child actor names is plain few now made g =
    let st = g.0 in
    let a = actor.number in
    let named_now = g.1.standing.known child (named.Process p) names in
    let few_names = g.1.few in
    let other : (c : ℕ) → k + 1 < 5 * c → (p == c) ≡ false = λ c later. ne_eqb p c (λ same. absurd (omega arith)) in (
      with_operation a (ops.Fork p) st,
      acted n k (k + 1) made.handles made.handles made.text st thread (Thread q) (forks child) (ops.Fork p) actor g.1 (omega arith) (11, lit< tt, refl) (refl, (plain, tt)) (omega arith) (record {
        shaped = tt;
        numbers = tt;
        names = (p, named_now, child_there st.script.processes p g.1.standing.processes is);
        once = (p, named_now, g.1.standing.unforked p (omega arith));
        limits = tt;
        means = (p, named_now, refl);
      }) (n + 1) (omega arith) (omega arith) (standing_operation n k (k + 1) made.handles st a (ops.Fork p) (omega arith) other g.1.standing),
    )

-- one round more is past
abbrev Passes : ℕ → (Made → Made) → Type 0
Passes k f = (n : ℕ) (made : Made) → n + 1 ≤ 900 → IsGood n k made.handles made.text → IsGood (n + 1) (k + 1) (f made).handles (f made).text

passes_either : (k : ℕ) (b : Bool) (f g : Made → Made) → (b ≡ true → Passes k f) → Passes k g → Passes k (if b then f else g)
passes_either k true f g passes also = passes refl
passes_either k false f g passes also = also

forks_pass : (k : ℕ) → Passes k (forks_behind (k + 1))
forks_pass k =
    let nothing : Passes k (λ made. made) = λ n made few g. is_good_later n (n + 1) k (k + 1) made.handles made.text (omega arith) (omega arith) g in
    passes_either k (k + 1 == 5) (on (codes "t1") (forks (codes "c1"))) _ (λ fifth n made few g.
    fork_good n k 1 0 (codes "t1") (codes "c1") first_thread refl refl refl few (omega (arith, eqb-true (k + 1) 5 fifth)) made g)
    (passes_either k (k + 1 == 10) (on (codes "t2") (forks (codes "c2"))) (λ made. made) (λ tenth n made few g.
    fork_good n k 2 0 (codes "t2") (codes "c2") second_thread refl refl refl few (omega (arith, eqb-true (k + 1) 10 tenth)) made g) nothing)

-- ---- the rounds

pub rounds_good : (k : ℕ) (made : Made) → k ≤ 20 → IsGood 20 0 made.handles made.text → IsGood (20 + 16 * k) k (rounds k made).handles (rounds k made).text
unfolding rounds
rounds_good zero made few g = g
rounds_good (suc k) made few g =
    let before : Made = rounds k made in
    let next : Made = round before in
    let last : Made = forks_behind (suc k) next in
    let good = rounds_good k made (omega arith) g in
    let rounded = round_keeps k (20 + 16 * k) before (omega arith) good in
    let one_more : k + 1 ≡ suc k = omega arith in
    let forked = forks_pass k (20 + 16 * k + 15) next (omega arith) rounded in
    is_good_later (20 + 16 * k + 15 + 1) (20 + 16 * suc k) (suc k) (suc k) last.handles last.text (omega arith) (omega arith)
    (subst (λ j. IsGood (20 + 16 * k + 15 + 1) j (forks_behind j next).handles (forks_behind j next).text) one_more forked)
