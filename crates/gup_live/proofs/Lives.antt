-- What a bus comes to.
use Rattle.std.proofs.Common.{◌≡◌, ℕ, List, subst}
use Rattle.std.specs.List.Sorted.{IsNonDecreasingBy, IsStableByKey}
use Rattle.std.specs.Ordering.{nat_cmp}
use Rattle.gup_plain.specs.Note.{NoteValue}
use Rattle.gup_script.specs.Script.{ScriptValue}
use Rattle.gup_spec_orders.specs.Orders.{Goes, journal_in}
use Rattle.gup_spec_turns.specs.Cause.{HaveFinished}
use Rattle.gup_spec_turns.specs.Run.{run_start, turned}
use Rattle.gup_lines.specs.Text.{outcomes_of}
use Rattle.gup_lines.specs.declared.outcome.Outcome.{Outcome}
use Rattle.gup_live.specs.Live.{IsLive}

pub live_of : (script : ScriptValue) (order : List ℕ) (notes : List NoteValue) (outcomes answers : List Outcome) → Goes script (run_start script) order → HaveFinished script (turned script (run_start script) order) → notes ≡ journal_in script order → outcomes ≡ outcomes_of notes → IsNonDecreasingBy (λ (outcome : Outcome). outcome.actor) answers → IsStableByKey (λ (outcome : Outcome). outcome.actor) nat_cmp outcomes answers → IsLive script (record { order = order; notes = notes; answers = answers })
live_of script order notes outcomes answers goes finished told are sorted stable =
    record {
      order = record { goes = goes; finished = finished };
      notes = told;
      answers =
          record {
            sorted = sorted;
            stable = subst (λ (os : List Outcome). IsStableByKey (λ (outcome : Outcome). outcome.actor) nat_cmp os answers) are stable;
          };
    }
