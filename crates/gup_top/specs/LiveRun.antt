-- What is said of actors that have run on threads of their own.
use Rattle.std.specs.Prelude.{◌≡◌, ℕ, List, length, Option, Some}
use Rattle.std.specs.List.{flat_map}
use Rattle.gup_script.specs.Script.{ScriptValue}
use Rattle.gup_spec_journal.specs.Plain.{IsPlain, judged_first}
use Rattle.gup_spec_journal.specs.Thorough.{IsThorough}
use Rattle.gup_spec_journal.specs.Follows.{Follows}
use Rattle.gup_spec_journal.specs.Place.{starts_born}
use Rattle.gup_spec_journal.specs.Stale.{AreStaleSeen}
use Rattle.gup_spec_orders.specs.Orders.{turns_in}
use Rattle.gup_spec_turns.specs.Cost.{operations}
use Rattle.gup_spec_turns.specs.Run.{run_start}
use Rattle.gup_law_owners.specs.Owners.{OwnsBytes, journal_events}
use Rattle.gup_lines.specs.Text.{line_of, outcomes_of}
use Rattle.gup_live.specs.Live.{LiveValue, IsLive}
use Rattle.gup_spec_trace.specs.Trace.{trace_text}
use Rattle.gup_top.specs.Cause.{AreCaused}
use Rattle.gup_top.specs.declared.command.Format.{Format}
use Rattle.gup_top.specs.declared.command.Format.TheVariants.{Answers, Trace}

-- each refusal of turns in this order has its cause, as in a core run
abbrev pub HasCausesIn : ScriptValue → (order : List ℕ) → Type 0
HasCausesIn script order = AreCaused script (run_start script) (judged_first script) (turns_in script (run_start script) order)

-- The actors have taken their turns in one order, to their end, and the journal of these turns is right. Each operation has one answer.
pub record IsLiveRun (script : ScriptValue) (live : LiveValue) : Type 0 where
  pub ran : IsLive script live
  pub follows : Follows script live.notes
  pub plain : IsPlain script live.notes
  pub thorough : IsThorough script live.notes
  pub owned : OwnsBytes (starts_born script) (journal_events live.notes)
  pub causes : HasCausesIn script live.order
  pub stale : AreStaleSeen script live.notes
  pub lines : length (outcomes_of live.notes) ≡ operations script

-- the text of such a run, of the script that has these bytes: its answers, actor by actor, or its trace
abbrev pub live_text : Format → (bytes : List ℕ) → ScriptValue → LiveValue → List ℕ
live_text Answers bytes script live = flat_map (line_of script) live.answers
live_text Trace bytes script live = trace_text bytes script live.notes

-- the actors have run so, and this is so of the text of their run
abbrev pub IsLiveTold : Format → (bytes : List ℕ) → ScriptValue → Option LiveValue → (IsTaken : List ℕ → Type 0) → Type 0
IsLiveTold format bytes script live IsTaken =
    (told : LiveValue) × (live ≡ Some told) × IsLiveRun script told × IsTaken (live_text format bytes script told)
