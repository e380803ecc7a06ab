-- What is told of each operation that is named are its lines, since notes are numbered by what their actors have answered.
use Rattle.std.proofs.Common.{◌≡◌, ℕ, ◌+◌, ap, ◌∙◌, arith}
use Rattle.gup_spec_turns.specs.Run.{run_start}
use Rattle.gup_spec_orders.specs.Orders.{journal_in, tells_of}
use Rattle.gup_law_orders.proofs.NumberedNotes.{numbered}
use Rattle.gup_law_orders.proofs.ToldLines.{told_first, told_named}
use Rattle.gup_law_orders.proofs.tells_are_lines.Goals as goal

pub returns : goal.returns
returns c script named order outcome valid is =
    let notes = journal_in script order in
    let numbers = numbered c.simulates.ensures c.starts_sound.ensures script valid order in
    let same : (k : ℕ) → 0 + k ≡ k = λ k. omega arith in
    told_named named 0 outcome.tells.items notes
    (λ k name there. ap (tells_of outcome.tells.items) (same k) ∙ is.tells k name there)
    (λ name. told_first name notes (run_start script).places numbers)
