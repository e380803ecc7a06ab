-- How many handles rounds make.
use Rattle.std.proofs.Common.{ℕ, ◌+◌, ◌*◌, ◌≤◌, Bool, true, false, List, zero, suc, arith}
use Rattle.std.specs.Prelude.{◌==◌, nat_lt, if◌then◌else◌, codes}
use Rattle.gup_spec_grammar.specs.Outline.{next_state, drawn}
use Rattle.gup_spec_grammar.specs.Said.{forks}
use Rattle.gup_make.specs.Made.{Made, load_line, store_line, discard_line, unmap_line, pin_lines, get_lines, chosen, thread_lines, round, forks_behind, rounds, on}

one_of : (b : Bool) (f g : Made → Made) (made : Made) (n : ℕ) → (f made).handles ≤ n → (g made).handles ≤ n → ((if b then f else g) made).handles ≤ n
one_of true f g made n h k = h
one_of false f g made n h k = k

chosen_few : (thread : List ℕ) (choice : ℕ) (made : Made) → (chosen thread choice made).handles ≤ made.handles + 1
chosen_few thread choice made =
    let n = made.handles + 1 in
    one_of (nat_lt choice 2) (load_line thread) _ made n (omega arith)
    (one_of (nat_lt choice 4) (store_line thread) _ made n (omega arith)
    (one_of (choice == 4) (discard_line thread) _ made n (omega arith)
    (one_of (choice == 5) (pin_lines thread) _ made n (omega arith)
    (one_of (choice == 6) (get_lines thread) (unmap_line thread) made n (omega arith) (omega arith)))))

pub thread_few : (thread : List ℕ) (made : Made) → (thread_lines thread made).handles ≤ made.handles + 1
thread_few thread made = chosen_few thread (drawn 8 (next_state made.state)) (record made { state = next_state made.state })

pub round_few : (made : Made) → (round made).handles ≤ made.handles + 4
unfolding round
round_few made =
    let first = thread_lines (codes "t1") made in
    let second = thread_lines (codes "t2") first in
    let third = thread_lines (codes "t3") second in
    let fourth = thread_few (codes "t4") third in
    omega (arith, thread_few (codes "t1") made, thread_few (codes "t2") first, thread_few (codes "t3") second, fourth)

forks_few : (k : ℕ) (made : Made) → (forks_behind k made).handles ≤ made.handles
forks_few k made =
    one_of (k == 5) (on (codes "t1") (forks (codes "c1"))) _ made made.handles (omega arith)
    (one_of (k == 10) (on (codes "t2") (forks (codes "c2"))) (λ m. m) made made.handles (omega arith) (omega arith))

pub rounds_few : (k : ℕ) (made : Made) → (rounds k made).handles ≤ made.handles + 4 * k
unfolding rounds
rounds_few zero made = omega arith
rounds_few (suc k) made =
    let before = rounds k made in
    omega (arith, rounds_few k made, round_few before, forks_few (suc k) (round before))
