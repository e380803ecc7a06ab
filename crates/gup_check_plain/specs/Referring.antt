-- References, read as a function of handles.
use Rattle.std.specs.Prelude.{ℕ, List}
use Rattle.std.specs.Map.{lookup}
use Rattle.std.specs.BTreeMap.{is_at}
use Rattle.std.specs.Ordering.{nat_cmp}
use Rattle.gup_spec_journal.specs.Denial.{References}

-- who has got a reference under each handle, by these pairs of handles and actors
abbrev pub references_of : List (ℕ × ℕ) → References
references_of holders h = lookup (is_at (nat_cmp h)) holders
