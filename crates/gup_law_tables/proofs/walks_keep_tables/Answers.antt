-- An event for each.
use Rattle.gup_law_tables.proofs.TableEvents.{tables_kept}
use Rattle.gup_law_tables.proofs.walks_keep_tables.Goals as goal

pub returns : goal.returns
returns c = λ s e p table can walked had. tables_kept s e p table can walked had
