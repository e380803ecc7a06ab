-- Turns, beginnings and standing follow from what is known of core runs, and passing by induction over the turns.
use Rattle.std.proofs.Common.{sym, subst}
use Rattle.gup_spec_journal.specs.Order.{InOrder}
use Rattle.gup_spec_turns.specs.Run.{run_start}
use Rattle.gup_spec_accepted.specs.Passing.{PassPages}
use Rattle.gup_law_turns.proofs.StandingTurns.{stands_first}
use Rattle.gup_law_turns.proofs.TurnRuns.{run_turns}
use Rattle.gup_law_accepted.proofs.TurnsInOrder.{notes_turns}
use Rattle.gup_law_accepted.proofs.SaidNotes.{notes_begin}
use Rattle.gup_law_accepted.proofs.StandingNotes.{notes_stand}
use Rattle.gup_law_accepted.proofs.RunPasses.{run_passes}
use Rattle.gup_law_accepted.proofs.core_runs_are_accepted.Goals as goal

pub returns : goal.returns
returns c script notes end valid run =
    let order : InOrder script notes = c.core_run_is_in_order.ensures script notes end valid run in
    record {
      turns = notes_turns script notes order;
      begins = notes_begin script notes (c.core_run_follows.ensures.run script notes end valid run);
      plain = c.core_run_is_plain.ensures.run script notes end valid run;
      passing =
          subst (PassPages script) (sym run.1)
          (run_passes c.simulates.ensures script valid run.0 end (stands_first c.starts_sound.ensures script valid) (run_turns script run.0 (run_start script) end run.2));
      standing = notes_stand script notes order;
    }
