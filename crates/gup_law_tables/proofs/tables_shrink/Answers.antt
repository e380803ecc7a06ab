-- The page's empty tables go, and nothing else changes.
use Rattle.gup_law_tables.proofs.Growth.{retires_can, retires_all, retires_kept, retires_freed}
use Rattle.gup_law_tables.proofs.tables_shrink.Goals as goal

pub returns-clause-can : goal.returns-clause-can
returns-clause-can c = λ s a p page may. retires_can s a p page may

pub returns-clause-all : goal.returns-clause-all
returns-clause-all c = λ s a p page stand may. retires_all s a p page stand may

pub returns-clause-others : goal.returns-clause-others
returns-clause-others c = λ s a p page. retires_kept s a p page

pub returns-clause-freed : goal.returns-clause-freed
returns-clause-freed c = λ s a p page still. retires_freed s a p page still
