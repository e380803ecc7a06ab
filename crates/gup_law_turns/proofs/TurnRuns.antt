-- Facts of whole runs, and of turns in any order, by induction over them.
use Rattle.std.proofs.Common.{◌≡◌, ℕ, ◌+◌, List, [], ◌∷◌, refl, sym, ap, ◌∙◌, subst}
use Rattle.std.proofs.Math.Path.{subst₂}
use Rattle.gup_script.specs.Valid.{IsScript}
use Rattle.gup_plain.specs.State.{PlainState}
use Rattle.gup_script.specs.Script.{ScriptValue}
use Rattle.gup_spec_events.specs.State.{plain_of}
use Rattle.gup_spec_journal.specs.Order.{Turn, journal_of}
use Rattle.gup_spec_journal.specs.Place.{doer, ops_of}
use Rattle.gup_spec_journal.specs.Denial.{References}
use Rattle.gup_spec_journal.specs.Plain.{Judged, AreSo}
use Rattle.gup_spec_turns.specs.Run.{run_start, turned, actors_of, RunState, Runs, AreTurns, turn_in, run_after, core_turn_in}
use Rattle.gup_law_turns.proofs.Puts.{some_same}
use Rattle.gup_law_turns.proofs.NoteRightness.{IsBothAt, turn_right, plain_append}
use Rattle.gup_law_turns.proofs.ReferenceNotes.{same_references}
use Rattle.gup_law_turns.proofs.StandingTurns.{stands_on, same_plain, plain_can, Starts, stands_first}
use Rattle.gup_law_turns.proofs.StandingStates.{Stands}
use Rattle.gup_law_turns.proofs.TurnShapes.{references_of}
use Rattle.gup_law_turns.proofs.TurnSteps.{taken}
use Rattle.gup_law_turns.proofs.EventLists.{Law}

-- from one state there is one run
pub one_run : (script : ScriptValue) (turns others : List Turn) (r end last : RunState) → Runs script r turns end → Runs script r others last → turns ≡ others
one_run script [] [] r end last run other = refl
one_run script [] (turn ∷ turns) r end last run other = absurd (cc (run.0, other.0))
one_run script (turn ∷ turns) [] r end last run other = absurd (cc (run.0, other.0))
one_run script (turn ∷ turns) (o ∷ others) r end last run other =
    let actor : o.actor ≡ turn.actor = some_same (sym other.0 ∙ run.0) in
    let same : turn ≡ o = run.1 ∙ ap (turn_in script r) (sym actor) ∙ sym other.1 in
    let later = one_run script turns others (run_after script r turn.actor) end last run.2 (subst (λ (a : ℕ). Runs script (run_after script r a) others last) actor other.2) in
    ap (λ (t : Turn). t ∷ turns) same ∙ ap (λ (ts : List Turn). o ∷ ts) later

-- and these turns have one end
pub one_end : (script : ScriptValue) (turns : List Turn) (r end last : RunState) → Runs script r turns end → Runs script r turns last → end ≡ last
one_end script [] r end last run other = sym run.1 ∙ other.1
one_end script (turn ∷ turns) r end last run other = one_end script turns (run_after script r turn.actor) end last run.2 other.2

-- the turns of a run are turns
pub run_turns : (script : ScriptValue) (turns : List Turn) (r end : RunState) → Runs script r turns end → AreTurns script r turns end
run_turns script [] r end run = run.1
run_turns script (turn ∷ turns) r end run = (run.1, run_turns script turns (run_after script r turn.actor) end run.2)

-- what turns lead to is what turns of their actors lead to
pub turned_by : (script : ScriptValue) (turns : List Turn) (r end : RunState) → AreTurns script r turns end → turned script r (actors_of turns) ≡ end
turned_by script [] r end are = are
turned_by script (turn ∷ turns) r end are = turned_by script turns (run_after script r turn.actor) end are.1

-- there are turns of any actors, one after another
pub turns_by : (script : ScriptValue) (actors : List ℕ) (r : RunState) → (turns : List Turn) × (actors_of turns ≡ actors) × AreTurns script r turns (turned script r actors)
turns_by script [] r = ([], refl, refl)
turns_by script (a ∷ actors) r =
    let later = turns_by script actors (run_after script r a) in
    (turn_in script r a ∷ later.0, ap (λ (others : List ℕ). a ∷ others) later.1, (refl, later.2))

-- and the state after them stands
pub stands_turns : Law → (script : ScriptValue) → IsScript script → (turns : List Turn) (r end : RunState) → Stands script r → AreTurns script r turns end → Stands script end
stands_turns law script valid [] r end h are = subst (Stands script) are h
stands_turns law script valid (turn ∷ turns) r end h are =
    stands_turns law script valid turns (run_after script r turn.actor) end (stands_on law script valid r h turn.actor) are.1

-- what turns have led to, as the judge of plain journals sees it
abbrev pub judged_of : RunState → Judged
judged_of r = record { plain = plain_of r.core; references = references_of r.core; places = r.places }

-- the journal of turns is plain, and misses no page
pub plain_turns : Law → (script : ScriptValue) → IsScript script → (turns : List Turn) (number : ℕ) (r end : RunState) → Stands script r → AreTurns script r turns end → AreSo IsBothAt script (judged_of r) (journal_of number r.places turns)
plain_turns law script valid [] number r end h are = tt
plain_turns law script valid (turn ∷ turns) number r end h are =
    let a = turn.actor in
    let here = taken script valid r h a in
    let whats = (core_turn_in script r a).whats in
    let right = turn_right (ops_of script a) (doer script a) (references_of r.core) here.shape refl refl h.sound.1.failed_unmapped (plain_can law script valid r h a) in
    let next = run_after script r a in
    let later = plain_turns law script valid turns (number + 1) next end (stands_on law script valid r h a) are.1 in
    let after = subst₂ (λ (s : PlainState) (references : References). AreSo IsBothAt script (record { plain = s; references = references; places = next.places }) (journal_of (number + 1) next.places turns)) (same_plain law script valid r h a) (sym (same_references script valid r h a)) later in
    let both = plain_append script number a ((r.places a).answered + 1) whats (journal_of (number + 1) next.places turns) (judged_of r) right after in
    subst (λ (t : Turn). AreSo IsBothAt script (judged_of r) (journal_of number r.places (t ∷ turns))) (sym are.0) both

-- what stands in the state that turns of these actors lead to
pub turned_stands : Law → Starts → (script : ScriptValue) → IsScript script → (actors : List ℕ) → Stands script (turned script (run_start script) actors)
turned_stands law starts script valid actors =
    let led = turns_by script actors (run_start script) in
    stands_turns law script valid led.0 (run_start script) (turned script (run_start script) actors) (stands_first starts script valid) led.2
