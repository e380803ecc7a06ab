-- Notes of turns have the number of the operation behind those that their actor has answered, since no turn says anything behind an answer.
use Rattle.std.proofs.Common.{◌≡◌, ℕ, ◌+◌, Bool, List, [], ◌∷◌, ◌++◌, Option, refl, sym, ap, ◌∙◌, subst, rules}
use Rattle.gup_plain.specs.Note.{NoteValue}
use Rattle.gup_plain.specs.Put.{put}
use Rattle.gup_plain.specs.State.{PlainState}
use Rattle.gup_plain.specs.declared.note.What.{What}
use Rattle.gup_plain.specs.declared.note.What.TheVariants.{Done}
use Rattle.gup_plain.specs.declared.note.Waiting.{Waiting}
use Rattle.gup_script.specs.Script.{ScriptValue}
use Rattle.gup_script.specs.Valid.{IsScript}
use Rattle.gup_script.specs.declared.op.Op.{Op}
use Rattle.gup_spec_events.specs.State.{WalkStep}
use Rattle.gup_spec_journal.specs.Denial.{References}
use Rattle.gup_spec_journal.specs.Follows.{notes_of_turn}
use Rattle.gup_spec_journal.specs.Order.{journal_of}
use Rattle.gup_spec_journal.specs.Place.{Place, Doer, place_after, place_behind}
use Rattle.gup_spec_turns.specs.JobPlace.{JobPlace}
use Rattle.gup_spec_turns.specs.Run.{RunState, run_start, run_after, core_turn_in}
use Rattle.gup_spec_orders.specs.Orders.{turns_in, journal_in}
use Rattle.gup_law_turns.proofs.EventLists.{Law}
use Rattle.gup_law_turns.proofs.Puts.{put_same, put_twice, put_own}
use Rattle.gup_law_turns.proofs.StandingStates.{Stands}
use Rattle.gup_law_turns.proofs.StandingTurns.{Starts, stands_first, stands_on}
use Rattle.gup_law_turns.proofs.TurnShapes.{TurnOf, refused, walked, refused_slowly, WalksTo, found_fork, TurnAt, goes}
use Rattle.gup_law_turns.proofs.TurnSteps.{taken}
use Rattle.gup_law_orders.proofs.ToldLines.{AreNumbered}

-- nothing is said behind an answer
abbrev AnswersLast : List What → Type 0
AnswersLast [] = Unit {0}
AnswersLast (Done answer ∷ whats) = whats ≡ []
AnswersLast (what ∷ whats) = AnswersLast whats

-- so it is in the turns of every operation
walk_answers_last : {s : PlainState} {who : Doer} {page n got : ℕ} {write : Bool} {sequence : ℕ} {step : WalkStep} {whats : List What} {to : JobPlace} → WalksTo s who page n got write sequence step whats to → AnswersLast whats
walk_answers_last found_fork = tt
walk_answers_last turn = search rules

op_answers_last : {s : PlainState} {references : References} {who : Doer} {place : Place} {op : Op} {from to : JobPlace} {whats : List What} → TurnOf s references who place op from whats to → AnswersLast whats
op_answers_last (refused op answer first refusal at_once slow right passes) = refl
op_answers_last (walked handle page n want sequence step whats to walks room free) = walk_answers_last walks
op_answers_last (refused_slowly handle page n want answer begun none refusal living at_once right) = refl
op_answers_last turn = search rules

answers_last : {s : PlainState} {references : References} {who : Doer} {place : Place} {op : Option Op} {waiting : Option Waiting} {from to : JobPlace} {whats : List What} → TurnAt s references who place op waiting from whats to → AnswersLast whats
answers_last (goes op whats from to birth own turn) = op_answers_last turn
answers_last turn = search rules

-- the notes of a turn, and those behind it
numbered_turn : (turn actor op : ℕ) (whats : List What) (rest : List NoteValue) (places : ℕ → Place) → AnswersLast whats → op ≡ (places actor).answered + 1 → AreNumbered (put actor (place_behind (places actor) whats) places) rest → AreNumbered places (notes_of_turn turn actor op whats ++ rest)
numbered_turn turn actor op [] rest places last number later = subst (λ (p : ℕ → Place). AreNumbered p rest) (put_own actor places) later
numbered_turn turn actor op (Done answer ∷ []) rest places last number later = (number, later)
numbered_turn turn actor op (Done answer ∷ what ∷ whats) rest places last number later = absurd (cc last)
numbered_turn turn actor op (what ∷ whats) rest places last number later =
    let next : ℕ → Place = put actor (place_after (places actor) what) places in
    let own : next actor ≡ place_after (places actor) what = put_same actor (place_after (places actor) what) places in
    let same : put actor (place_behind (places actor) (what ∷ whats)) places ≡ put actor (place_behind (next actor) whats) next =
    sym (put_twice actor (place_after (places actor) what) (place_behind (places actor) (what ∷ whats)) places)
    ∙ ap (λ (p : Place). put actor (place_behind p whats) next) (sym own) in
    (number, numbered_turn turn actor op whats rest next last (number ∙ ap (λ (p : Place). p.answered + 1) (sym own)) (subst (λ (p : ℕ → Place). AreNumbered p rest) same later))

-- the journal of turns, in any order
numbered_turns : Law → (script : ScriptValue) → IsScript script → (order : List ℕ) (number : ℕ) (r : RunState) → Stands script r → AreNumbered r.places (journal_of number r.places (turns_in script r order))
numbered_turns law script valid [] number r h = tt
numbered_turns law script valid (a ∷ order) number r h =
    let next = run_after script r a in
    let later = numbered_turns law script valid order (number + 1) next (stands_on law script valid r h a) in
    numbered_turn number a ((r.places a).answered + 1) (core_turn_in script r a).whats (journal_of (number + 1) next.places (turns_in script next order)) r.places (answers_last (taken script valid r h a).shape) refl later

pub numbered : Law → Starts → (script : ScriptValue) → IsScript script → (order : List ℕ) → AreNumbered (run_start script).places (journal_in script order)
numbered law starts script valid order = numbered_turns law script valid order 1 (run_start script) (stands_first starts script valid)
