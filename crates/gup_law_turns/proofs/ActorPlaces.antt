-- Where an actor stands after its turn: at the next turn of its present operation, or at the first of the next one.
use Rattle.std.proofs.Common.{◌≡◌, ℕ, ◌+◌, ◌<◌, ◌≤◌, Bool, true, List, Option, Some, refl, sym, subst, arith}
use Rattle.gup_plain.specs.State.{PlainState}
use Rattle.gup_plain.specs.declared.note.What.{What}
use Rattle.gup_plain.specs.declared.note.Waiting.{Waiting}
use Rattle.gup_script.specs.declared.op.Op.{Op}
use Rattle.gup_spec_events.specs.State.{CoreState, WalkStep}
use Rattle.gup_spec_journal.specs.Denial.{References}
use Rattle.gup_spec_journal.specs.Place.{Place, Doer, place_behind}
use Rattle.gup_spec_turns.specs.JobPlace.{JobPlace}
use Rattle.gup_law_turns.proofs.ScriptPlaces.{fresh_place}
use Rattle.gup_law_turns.proofs.TurnShapes.{FitsAt, Rests, TurnOf, WalksTo, took_page, dropped_page, dropped_first, dropped_last, began_walk, walked, took, passed, took_lowest, cleared_page, counted_cleared, pinned_page, unpinned_page, moved_word, cleared_entry, counted_frame, began, passed_page, counted_page, shared_page, counted_copy, took_frame, copied_word, placed_copy, TurnAt, idles, waits, goes, unborn_refused, unborn_fork}
use Rattle.gup_law_turns.proofs.ShownTurns.{FitsNext}

-- at the next turn of the same operation
abbrev pub next_place : Place → Bool → Place
next_place place had = record { answered = place.answered; far = place.far + 1; had = had }

-- after these notes of an operation
pub data IsBehind (t : CoreState) (who : Doer) (op : Option Op) (place : Place) (whats : List What) : Type 0 where
  goes_on : (had : Bool) → place_behind place whats ≡ next_place place had → (FitsNext t who op place whats → FitsAt t who op (next_place place had)) → IsBehind t who op place whats
  is_over : place_behind place whats ≡ fresh_place (place.answered + 1) → (FitsNext t who op place whats → Rests t who.actor) → IsBehind t who op place whats

-- after those of any turn; one that is idle or waits leaves the actor where it stands
pub data IsBehindTurn (t : CoreState) (who : Doer) (op : Option Op) (place : Place) (whats : List What) : Type 0 where
  stays_there : place_behind place whats ≡ place → (FitsNext t who op place whats → FitsAt t who op place) → IsBehindTurn t who op place whats
  goes_by : IsBehind t who op place whats → IsBehindTurn t who op place whats

-- a walk goes on with each of its turns but the one that makes the handle
walk_behind : (t : CoreState) (o : Option Op) {s : PlainState} {who : Doer} {page n got sequence : ℕ} {write : Bool} {step : WalkStep} {whats : List What} {to : JobPlace} (place : Place) → WalksTo s who page n got write sequence step whats to → IsBehind t who o place whats
walk_behind t o place (took_page g path e less) = goes_on true refl (λ next. next)
walk_behind t o place (dropped_page g last some most from) = goes_on true refl (λ next. next)
walk_behind t o place (dropped_first g more from) = goes_on true refl (λ next. next)
walk_behind t o place (dropped_last g one from) = goes_on true refl (λ next. next)
walk_behind t o place turn = goes_on place.had refl (λ next. next)

pub op_behind : (t : CoreState) (o : Option Op) {s : PlainState} {references : References} {who : Doer} {place : Place} {op : Op} {whats : List What} {from to : JobPlace} → TurnOf s references who place op from whats to → IsBehind t who o place whats
op_behind t o (took op page n event over more) = goes_on true refl (λ next. next)
op_behind t o {place = place} (passed op page n event over more none) = goes_on place.had refl (λ next. next)
op_behind t o (took_lowest page none) = goes_on true refl (λ next. next)
op_behind t o {place = place} (cleared_page handle page n want fast g e long slow first less more) = goes_on place.had refl (λ next. next)
op_behind t o {place = place} (counted_cleared handle page n want fast g e count read long begun less more) = goes_on place.had refl (λ next. next)
op_behind t o (pinned_page handle page n want fast from slow tries less more undenied) = goes_on true refl (λ next. next)
op_behind t o {place = place} (began_walk handle page n want first more) = goes_on place.had refl (λ next. next)
op_behind t o {place = place} (walked handle page n want sequence step whats to walk more undenied) = walk_behind t o place walk
op_behind t o {place = place} (unpinned_page handle undenied more) = goes_on place.had refl (λ next. next)
op_behind t o (moved_word handle outward slot parts value more undenied) = goes_on true refl (λ next. next)
op_behind t o {place = place} (cleared_entry proc page zone e first) = goes_on place.had refl (λ next. next)
op_behind t o {place = place} (counted_frame proc page zone e count read begun) = goes_on place.had refl (λ next. next)
op_behind t o (began child first) = goes_on true refl (λ next. next)
op_behind t o (passed_page child from page begun least) = goes_on true refl (λ next. next)
op_behind t o {place = place} (counted_page child from page begun least) = goes_on place.had refl (λ next. next)
op_behind t o (shared_page child page begun) = goes_on true refl (λ next. next)
op_behind t o {place = place} (counted_copy child from page begun least) = goes_on place.had refl (λ next. next)
op_behind t o {place = place} (took_frame child page to begun) = goes_on place.had refl (λ next. next)
op_behind t o (copied_word child page word to begun more) = goes_on true refl (λ next. next)
op_behind t o {place = place} (placed_copy child page to begun) = goes_on place.had refl (λ next. next)
op_behind t o turn = is_over refl (λ next. next)

pub turn_behind : (t : CoreState) {s : PlainState} {references : References} {who : Doer} {place : Place} {op : Option Op} {waiting : Option Waiting} {whats : List What} {from to : JobPlace} → TurnAt s references who place op waiting from whats to → IsBehindTurn t who op place whats
turn_behind t (idles waiting at) = stays_there refl (λ next. next)
turn_behind t (waits op waiting at) = stays_there refl (λ next. next)
turn_behind t (goes op whats from to birth own turn) = goes_by (op_behind t (Some op) turn)
turn_behind t (unborn_refused op birth first refusal) = goes_by (is_over refl (λ next. next))
turn_behind t (unborn_fork child birth own first) = goes_by (is_over refl (λ next. next))

-- a turn of an operation that is there answers it at most
pub answered_more : {t : CoreState} {who : Doer} {op : Option Op} {place : Place} {whats : List What} → IsBehind t who op place whats → (n : ℕ) → place.answered < n → (place_behind place whats).answered ≤ n
answered_more (goes_on had is fits) n more = subst (λ (q : Place). q.answered ≤ n) (sym is) (omega arith)
answered_more (is_over is fits) n more = subst (λ (q : Place). q.answered ≤ n) (sym is) (omega arith)
