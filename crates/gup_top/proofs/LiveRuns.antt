-- What is so of turns in the order that threads have found.
use Rattle.std.proofs.Common.{◌≡◌, ℕ, ◌+◌, ◌<◌, Bool, true, false, List, [], ◌∷◌, Option, None, length, refl, sym, ap, subst, ◌∙◌}
use Rattle.gup_plain.specs.Note.{NoteValue}
use Rattle.gup_script.specs.declared.op.Op.{Op}
use Rattle.gup_script.specs.Script.{ScriptValue}
use Rattle.gup_script.specs.Valid.{IsScript}
use Rattle.gup_spec_journal.specs.Order.{Turn, journal_of}
use Rattle.gup_spec_journal.specs.Place.{first_place, has_finished, starts_born}
use Rattle.gup_spec_journal.specs.Plain.{IsPlain, AreSo, IsRightAt, judged_first}
use Rattle.gup_spec_journal.specs.Thorough.{IsThorough}
use Rattle.gup_spec_journal.specs.Follows.{Follows}
use Rattle.gup_spec_journal.specs.Stale.{AreStaleSeen}
use Rattle.gup_spec_orders.specs.Orders.{turns_in, journal_in}
use Rattle.gup_spec_turns.specs.Cause.{HaveFinished, answered_in}
use Rattle.gup_spec_turns.specs.Cost.{operations}
use Rattle.gup_spec_turns.specs.Run.{RunState, AreTurns, AreBetween, run_start, run_after, turned, op_in, waiting_in, is_ready, can_go}
use Rattle.gup_law_owners.specs.Owners.{OwnsBytes, journal_events}
use Rattle.gup_live.specs.Live.{LiveValue, IsLive}
use Rattle.gup_top.specs.LiveRun.{IsLiveRun}
use Rattle.gup_top.proofs.Causes.{AreExact, caused, outcomes_answered}
use Rattle.gup_top.proofs.RunEnd.{op_of_finished}

-- turns in an order are turns
are_turns : (script : ScriptValue) (r : RunState) (order : List ℕ) → AreTurns script r (turns_in script r order) (turned script r order)
are_turns script r [] = refl
are_turns script r (a ∷ order) = (refl, are_turns script (run_after script r a) order)

-- whoever has finished can't go
stays : (script : ScriptValue) (end : RunState) → HaveFinished script end → (a : ℕ) → a < length script.actors → can_go script end a ≡ false
stays script end finished a below =
    ap (λ (o : Option Op). is_ready o (waiting_in script end a)) (op_of_finished script end a (finished a below))

-- the laws of turns in any order
pub record AreLaws : Type 0 where
  pub exact : AreExact
  pub follows : (script : ScriptValue) (turns : List Turn) (end : RunState) → IsScript script → AreTurns script (run_start script) turns end → AreBetween script end → Follows script (journal_of 1 (λ _. first_place) turns)
  pub between : (script : ScriptValue) (turns : List Turn) (end : RunState) → IsScript script → AreTurns script (run_start script) turns end → ((a : ℕ) → a < length script.actors → can_go script end a ≡ false) → AreBetween script end
  pub plain : (script : ScriptValue) (turns : List Turn) (end : RunState) → IsScript script → AreTurns script (run_start script) turns end → IsPlain script (journal_of 1 (λ _. first_place) turns)
  pub thorough : (script : ScriptValue) (turns : List Turn) (end : RunState) → IsScript script → AreTurns script (run_start script) turns end → IsThorough script (journal_of 1 (λ _. first_place) turns)
  pub owned : (script : ScriptValue) (notes : List NoteValue) → IsPlain script notes → OwnsBytes (starts_born script) (journal_events notes)
  pub stale : (script : ScriptValue) (turns : List Turn) (end : RunState) → IsScript script → AreTurns script (run_start script) turns end → AreStaleSeen script (journal_of 1 (λ _. first_place) turns)
  pub lines : (script : ScriptValue) (turns : List Turn) (end : RunState) → IsScript script → AreTurns script (run_start script) turns end → HaveFinished script end → answered_in (journal_of 1 (λ _. first_place) turns) ≡ operations script

pub live_run : AreLaws → (script : ScriptValue) (live : LiveValue) → IsScript script → IsLive script live → IsLiveRun script live
live_run laws script live valid ran =
    let start : RunState = run_start script in
    let turns : List Turn = turns_in script start live.order in
    let end : RunState = turned script start live.order in
    let are = are_turns script start live.order in
    let journal : live.notes ≡ journal_of 1 (λ _. first_place) turns = ran.notes in
    let finished = ran.order.finished in
    let between = laws.between script turns end valid are (stays script end finished) in
    let plain = laws.plain script turns end valid are in
    record {
      ran = ran;
      follows = subst (λ (notes : List NoteValue). Follows script notes) (sym journal) (laws.follows script turns end valid are between);
      plain = subst (λ (notes : List NoteValue). IsPlain script notes) (sym journal) plain;
      thorough = subst (λ (notes : List NoteValue). IsThorough script notes) (sym journal) (laws.thorough script turns end valid are);
      owned = laws.owned script live.notes (subst (λ (notes : List NoteValue). IsPlain script notes) (sym journal) plain);
      causes = caused laws.exact script valid (judged_first script) 1 (λ _. first_place) turns start end ([], refl) are plain;
      stale = subst (λ (notes : List NoteValue). AreStaleSeen script notes) (sym journal) (laws.stale script turns end valid are);
      lines =
          outcomes_answered live.notes ∙ ap (λ (notes : List NoteValue). answered_in notes) journal
          ∙ laws.lines script turns end valid are finished;
    }
