-- No plain state and no view reads the page tables.
use Rattle.gup_spec_events.specs.State.{CoreState}
use Rattle.gup_spec_events.specs.Event.{happens, add_table, take_out, reclaim}
use Rattle.gup_law_base.specs.Sound.{IsSoundBy}
use Rattle.gup_law_pages.proofs.tables_simulate.Goals as goal
use Rattle.std.proofs.Common.{refl}

pub returns-clause-add_table : goal.returns-clause-add_table
returns-clause-add_table c = λ a p page table s (v, h) can.
    let S : CoreState = happens s (add_table a p page table) in
    let sound : IsSoundBy v S = assumption in
    record { sound = (v, sound); can = tt; same = refl }

pub returns-clause-take_out : goal.returns-clause-take_out
returns-clause-take_out c = λ a p page table s (v, h) can.
    let S : CoreState = happens s (take_out a p page table) in
    let sound : IsSoundBy v S = assumption in
    record { sound = (v, sound); can = tt; same = refl }

pub returns-clause-reclaim : goal.returns-clause-reclaim
returns-clause-reclaim c = λ a p s (v, h) can.
    let S : CoreState = happens s (reclaim a p) in
    let sound : IsSoundBy v S = assumption in
    record { sound = (v, sound); can = tt; same = refl }
