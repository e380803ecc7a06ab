-- No table that a walk may be inside of is free, over a list of events: each state is sound, its tables stand, and its walks stand in them.
use Rattle.std.proofs.Common.{List, [], ◌∷◌}
use Rattle.gup_spec_events.specs.State.{CoreState}
use Rattle.gup_spec_events.specs.Event.{CoreEvent, Can, happens, run}
use Rattle.gup_spec_events.specs.Invariant.{AllCan}
use Rattle.gup_law_base.specs.Sound.{IsSound, Simulates}
use Rattle.gup_law_tables.specs.Standing.{TablesStand}
use Rattle.gup_law_tables.specs.Inside.{WalksStand}

-- what each event leaves so
module _ (simulated : (s : CoreState) (e : CoreEvent) → IsSound s → Can s e → Simulates s e) (tables_stay : (s : CoreState) (e : CoreEvent) → TablesStand s → Can s e → TablesStand (happens s e)) (walks_stay : (s : CoreState) (e : CoreEvent) → IsSound s → TablesStand s → WalksStand s → Can s e → WalksStand (happens s e)) where
  pub inside_run : (s : CoreState) (es : List CoreEvent) → IsSound s → TablesStand s → WalksStand s → AllCan s es → WalksStand (run s es)
  inside_run s [] sound stand walks can = walks
  inside_run s (e ∷ es) sound stand walks can =
      inside_run (happens s e) es (simulated s e sound can.0).sound (tables_stay s e stand can.0) (walks_stay s e sound stand walks can.0) can.1
