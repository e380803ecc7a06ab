-- What the actors of a script come to on threads of their own.
use Rattle.std.specs.Prelude.{◌≡◌, ℕ, List}
use Rattle.std.specs.List.Sorted.{IsNonDecreasingBy, IsStableByKey}
use Rattle.std.specs.Ordering.{nat_cmp}
use Rattle.gup_plain.specs.Note.{NoteValue}
use Rattle.gup_script.specs.Script.{ScriptValue}
use Rattle.gup_spec_orders.specs.Orders.{Goes, journal_in}
use Rattle.gup_spec_turns.specs.Cause.{HaveFinished}
use Rattle.gup_spec_turns.specs.Run.{run_start, turned}
use Rattle.gup_lines.specs.Text.{outcomes_of}
use Rattle.gup_lines.specs.declared.outcome.Outcome.{Outcome}

-- who took turns, in order, the notes of these turns, and the answers
pub record LiveValue : Type 0 where
  pub order : List ℕ
  pub notes : List NoteValue
  pub answers : List Outcome

-- The actors take turns in this order from the start of the script, each when it can go, until all have finished.
pub record IsLiveOrder (script : ScriptValue) (order : List ℕ) : Type 0 where
  pub goes : Goes script (run_start script) order
  pub finished : HaveFinished script (turned script (run_start script) order)

-- the answers of a journal actor by actor, each actor's in the order of the journal
pub record AreByActor (outcomes answers : List Outcome) : Type 0 where
  pub sorted : IsNonDecreasingBy (λ (outcome : Outcome). outcome.actor) answers
  pub stable : IsStableByKey (λ (outcome : Outcome). outcome.actor) nat_cmp outcomes answers

pub record IsLive (script : ScriptValue) (live : LiveValue) : Type 0 where
  pub order : IsLiveOrder script live.order
  pub notes : live.notes ≡ journal_in script live.order
  pub answers : AreByActor (outcomes_of live.notes) live.answers
