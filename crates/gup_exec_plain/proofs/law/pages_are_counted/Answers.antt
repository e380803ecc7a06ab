-- The number of pages, from the start on.
use Rattle.gup_plain.specs.State.{plain_start}
use Rattle.gup_exec_plain.proofs.Counting.{none_counted, counts_after}
use Rattle.gup_exec_plain.proofs.Tidy.{starts_tidy}
use Rattle.gup_exec_plain.proofs.law.pages_are_counted.Goals as goal

pub returns : goal.returns
returns c = λ is_born events possible. counts_after (plain_start is_born) events (starts_tidy is_born) possible (λ p. none_counted)
