-- An event for each.
use Rattle.gup_law_tables.proofs.KeptPaths.{entries_kept}
use Rattle.gup_law_tables.proofs.entries_keep_tables.Goals as goal

pub returns : goal.returns
returns c = λ s e p page entry stand can mapped full. entries_kept s e p page entry stand can mapped full
