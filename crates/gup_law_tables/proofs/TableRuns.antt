-- From the start on, whatever the events.
use Rattle.std.proofs.Common.{ℕ, ◌≤◌, Bool, List, [], ◌∷◌, None, arith}
use Rattle.std.proofs.lemmas.Bool.Decides.{nat_tests}
use Rattle.gup_spec_tables.specs.Tables.{table_numbers}
use Rattle.gup_spec_events.specs.State.{CoreState, core_start}
use Rattle.gup_spec_events.specs.Event.{CoreEvent, happens, run}
use Rattle.gup_spec_events.specs.Invariant.{AllCan}
use Rattle.gup_law_tables.specs.Standing.{IsTree, TablesStand}
use Rattle.gup_law_tables.proofs.TableEvents.{stay}

no_tree : IsTree (λ table. None)
no_tree = record {
  numbered = λ table at there. absurd cc;
  levels = λ table at there. absurd cc;
  root = λ table at there. absurd cc;
  apart = λ table other at there. absurd cc;
  linked = λ table at there. absurd cc;
}

pub first_stand : (movable normal tables : ℕ) (needs_tables : Bool) (is_born : ℕ → Bool) → tables ≤ table_numbers → TablesStand (core_start movable normal tables needs_tables is_born)
first_stand movable normal tables needs_tables is_born few = record {
  trees = λ p. no_tree;
  free_small = λ table is. grind (arith, nat_tests);
  taken = λ p table had. absurd cc;
  one_owner = λ p q table had. absurd cc;
  waiting = λ p table waits. absurd cc;
  once = λ p. tt;
}

pub stand_run : (s : CoreState) (es : List CoreEvent) → TablesStand s → AllCan s es → TablesStand (run s es)
stand_run s [] stand can = stand
stand_run s (e ∷ es) stand can = stand_run (happens s e) es (stay s e stand can.0) can.1
