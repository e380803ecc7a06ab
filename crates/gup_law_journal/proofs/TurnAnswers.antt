-- How many answers turns have.
use Rattle.std.proofs.Common.{◌≡◌, ℕ, ◌+◌, ◌<◌, Bool, true, false, List, [], ◌∷◌, ◌++◌, length, Option, Some, None, refl, ap, ◌∙◌, arith, leb-true, leb-false, nat_le}
use Rattle.std.proofs.lemmas.Option.{slice_get_past}
use Rattle.gup_plain.specs.Put.{put}
use Rattle.gup_plain.specs.Note.{NoteValue}
use Rattle.gup_plain.specs.declared.note.What.{What}
use Rattle.gup_plain.specs.declared.note.What.TheVariants.{Idle, Done}
use Rattle.gup_script.specs.declared.op.Op.{Op}
use Rattle.gup_script.specs.Script.{ScriptValue, Actor}
use Rattle.gup_spec_journal.specs.Follows.{notes_of_turn}
use Rattle.gup_spec_journal.specs.Order.{Turn, journal_of, places_behind}
use Rattle.gup_spec_journal.specs.Place.{Place, place_after, place_behind, ops_of, ops_in, doer_of}
use Rattle.gup_spec_turns.specs.Cause.{answers_in, answered_in, HaveFinished}
use Rattle.gup_spec_turns.specs.Cost.{operations}
use Rattle.gup_plain.specs.Pages.{sum_below}
use Rattle.gup_law_turns.specs.Standing.{IsStanding}
use Rattle.gup_spec_turns.specs.Run.{RunState, AreTurns, run_start, run_after, core_turn_by, core_turn_in, op_in, waiting_in}
use Rattle.gup_law_turns.proofs.Puts.{by_points, put_same, put_other, put_own}
use Rattle.gup_law_turns.proofs.ScriptLemmas.{has_ops_declared}
use Rattle.gup_law_turns.proofs.Sums.{sum_at, sum_zero, sum_of_list}

-- how many operations are answered

-- an actor's place counts its answers
counts_answers : (place : Place) (whats : List What) → (place_behind place whats).answered ≡ place.answered + answers_in whats
counts_answers place [] = omega arith
counts_answers place (Done answer ∷ whats) =
    let rest = counts_answers (place_after place (Done answer)) whats in
    omega (arith, rest)
counts_answers place (what ∷ whats) = counts_answers (place_after place what) whats

answers_behind : (number actor op : ℕ) (whats : List What) (rest : List NoteValue) → answered_in (notes_of_turn number actor op whats ++ rest) ≡ answers_in whats + answered_in rest
answers_behind number actor op [] rest = omega arith
answers_behind number actor op (Done answer ∷ whats) rest =
    let later = answers_behind number actor op whats rest in
    omega (arith, later)
answers_behind number actor op (what ∷ whats) rest = answers_behind number actor op whats rest

-- what all actors have answered
abbrev pub all_answered : ScriptValue → (ℕ → Place) → ℕ
all_answered script places = sum_below (length script.actors) (λ a. (places a).answered)

-- the turn of an actor that is none of the script's is idle, so it answers nothing
undeclared_by : (script : ScriptValue) (r : RunState) (a : ℕ) (o : Option Op) → op_in script r a ≡ o → (a < length script.actors → ⊥) → op_in script r a ≡ None
undeclared_by script r a None is none = is
undeclared_by script r a (Some op) is none = absurd (none (has_ops_declared script a (r.places a).answered op is))

turn_answers : (script : ScriptValue) (places : ℕ → Place) (a : ℕ) (whats : List What) → a < length script.actors → all_answered script (places_behind places (record { actor = a; whats = whats })) ≡ all_answered script places + answers_in whats
turn_answers script places a whats there =
    let next : Place = place_behind (places a) whats in
    let behind = places_behind places (record { actor = a; whats = whats }) in
    let one = sum_at (length script.actors) (λ b. (behind b).answered) (λ b. (places b).answered) a there (λ b apart. ap (λ (q : Place). q.answered) (put_other a b next places apart)) in
    let here : (behind a).answered ≡ next.answered = ap (λ (q : Place). q.answered) (put_same a next places) in
    let counts = counts_answers (places a) whats in
    omega (arith, one, here, counts)

-- what a turn answers is added to what is answered
turn_counts : (script : ScriptValue) (r : RunState) (a : ℕ) → all_answered script (run_after script r a).places ≡ all_answered script r.places + answers_in (core_turn_in script r a).whats
turn_counts script r a = go (nat_le (length script.actors) a) refl
  where
    idle_counts : (o : Option Op) → op_in script r a ≡ o → o ≡ None → all_answered script (run_after script r a).places ≡ all_answered script r.places + answers_in (core_turn_in script r a).whats
    idle_counts o is none =
        let idle : (core_turn_in script r a).whats ≡ Idle ∷ [] = ap (λ (x : Option Op). (core_turn_by r.core (doer_of script a x) (r.places a).far x (waiting_in script r a)).whats) (is ∙ none) in
        let places : (run_after script r a).places ≡ r.places = ap (λ (ws : List What). put a (place_behind (r.places a) ws) r.places) idle ∙ put_own a r.places in
        let same = ap (all_answered script) places in
        let nothing : answers_in (core_turn_in script r a).whats ≡ 0 = ap answers_in idle in
        omega (arith, same, nothing)

    go : (c : Bool) → nat_le (length script.actors) a ≡ c → all_answered script (run_after script r a).places ≡ all_answered script r.places + answers_in (core_turn_in script r a).whats
    go true past =
        let far = leb-true (length script.actors) a past in
        idle_counts (op_in script r a) refl (undeclared_by script r a (op_in script r a) refl (λ less. omega (arith, far, less)))
    go false there = turn_answers script r.places a (core_turn_in script r a).whats (leb-false (length script.actors) a there)

pub turns_count : (script : ScriptValue) (turns : List Turn) (number : ℕ) (r end : RunState) → AreTurns script r turns end → all_answered script end.places ≡ all_answered script r.places + answered_in (journal_of number r.places turns)
turns_count script [] number r end are =
    let same : all_answered script r.places ≡ all_answered script end.places = ap (λ (s : RunState). all_answered script s.places) are in
    omega (arith, same)
turns_count script (turn ∷ turns) number r end are =
    let a = turn.actor in
    let next = run_after script r a in
    let later = turns_count script turns (number + 1) next end are.1 in
    let here = turn_counts script r a in
    let whats : turn.whats ≡ (core_turn_in script r a).whats = ap (λ (t : Turn). t.whats) are.0 in
    let places : places_behind r.places turn ≡ next.places = ap (λ (ws : List What). put a (place_behind (r.places a) ws) r.places) whats in
    let rest : journal_of (number + 1) (places_behind r.places turn) turns ≡ journal_of (number + 1) next.places turns = ap (λ (q : ℕ → Place). journal_of (number + 1) q turns) places in
    let both = answers_behind number a ((r.places a).answered + 1) turn.whats (journal_of (number + 1) (places_behind r.places turn) turns) in
    let answers = ap answers_in whats in
    let others = ap answered_in rest in
    omega (arith, later, here, both, answers, others)

-- an actor that has finished has answered just what it has
each_answered : (script : ScriptValue) (end : RunState) → IsStanding script end → HaveFinished script end → (a : ℕ) → (end.places a).answered ≡ length (ops_of script a)
each_answered script end h finished a = go (nat_le (length script.actors) a) refl
  where
    go : (c : Bool) → nat_le (length script.actors) a ≡ c → (end.places a).answered ≡ length (ops_of script a)
    go true past =
        let far = leb-true (length script.actors) a past in
        let none : length (ops_of script a) ≡ 0 = ap (λ (o : Option Actor). length (ops_in o)) (slice_get_past script.actors a far) in
        omega (arith, none, h.answered a)
    go false there =
        let least = leb-true (length (ops_of script a)) (end.places a).answered (finished a (leb-false (length script.actors) a there)) in
        omega (arith, least, h.answered a)

pub all_operations : (script : ScriptValue) (end : RunState) → IsStanding script end → HaveFinished script end → all_answered script end.places ≡ operations script
all_operations script end h finished =
    let same : all_answered script end.places ≡ sum_below (length script.actors) (λ a. length (ops_of script a)) = ap (sum_below (length script.actors)) (by_points (each_answered script end h finished)) in
    same ∙ sum_of_list script.actors (λ (o : Option Actor). length (ops_in o))

pub nothing_answered : (script : ScriptValue) → all_answered script (run_start script).places ≡ 0
nothing_answered script = sum_zero (length script.actors) (λ a. 0) (λ a. refl)
