-- A script's turns are determined, and so are their journal and their end.
use Rattle.std.proofs.Common.{List, ap, sym, subst, ◌∙◌}
use Rattle.gup_spec_journal.specs.Order.{Turn, journal_of}
use Rattle.gup_spec_journal.specs.Place.{first_place}
use Rattle.gup_spec_turns.specs.Run.{Runs, run_start}
use Rattle.gup_law_turns.proofs.TurnRuns.{one_run, one_end}
use Rattle.gup_law_turns.proofs.one_core_run.Goals as goal

pub returns-clause-notes : goal.returns-clause-notes
returns-clause-notes c script m n end last run other =
    let same = one_run script run.0 other.0 (run_start script) end last run.2 other.2 in
    run.1 ∙ ap (λ (turns : List Turn). journal_of 1 (λ _. first_place) turns) same ∙ sym other.1

pub returns-clause-end : goal.returns-clause-end
returns-clause-end c script m n end last run other =
    let same = one_run script run.0 other.0 (run_start script) end last run.2 other.2 in
    one_end script run.0 (run_start script) end last run.2 (subst (λ (turns : List Turn). Runs script (run_start script) turns last) (sym same) other.2)
