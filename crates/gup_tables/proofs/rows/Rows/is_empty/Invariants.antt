use Rattle.std.proofs.Common.{◌≡◌, ℕ, ◌+◌, ◌%◌, ◌<◌}
use Rattle.gup_tables.specs.Rows.{word_in}
use Rattle.gup_tables.proofs.rows.Rows.is_empty.Given as goal

-- the words so far are 0
abbrev pub invariant-loop-k : goal.invariant-loop-k
invariant-loop-k l = (j : ℕ) → j < l.k → word_in l.self l.table ((l.first + j) % 512) ≡ 0
