-- Behind its answer an operation has no note.
use Rattle.std.proofs.Common.{ℕ, []}
use Rattle.gup_spec_turns.specs.Run.{run_start}
use Rattle.gup_spec_orders.specs.Orders.{journal_in}
use Rattle.gup_law_orders.proofs.NumberedNotes.{numbered}
use Rattle.gup_law_orders.proofs.ToldLines.{one_line}
use Rattle.gup_law_orders.proofs.one_line_each.Goals as goal

pub returns : goal.returns
returns c script order name valid =
    let numbers = numbered c.simulates.ensures c.starts_sound.ensures script valid order in
    one_line name (journal_in script order) (run_start script).places (λ (actor : ℕ). []) numbers
