-- The page's tables grow, and nothing else changes.
use Rattle.gup_law_tables.proofs.Growth.{grows_can, grows_kept, grows_freed}
use Rattle.gup_law_tables.proofs.tables_grow.Goals as goal

pub returns-clause-can : goal.returns-clause-can
returns-clause-can c = λ s a p page stand may mapped within. (grows_can a p page within s stand may mapped).0

pub returns-clause-complete : goal.returns-clause-complete
returns-clause-complete c = λ s a p page stand may mapped within. (grows_can a p page within s stand may mapped).1

pub returns-clause-others : goal.returns-clause-others
returns-clause-others c = λ s a p page. grows_kept s a p page

pub returns-clause-freed : goal.returns-clause-freed
returns-clause-freed c = λ s a p page still. grows_freed s a p page still
