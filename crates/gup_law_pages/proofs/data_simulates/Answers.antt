-- One lemma an event.
use Rattle.gup_law_pages.proofs.Data.{simulates-load, simulates-store, simulates-move_out, simulates-move_in}
use Rattle.gup_law_pages.proofs.data_simulates.Goals as goal

pub returns-clause-load : goal.returns-clause-load
returns-clause-load c = λ a p page word f value s sound can. simulates-load s a p page word f value sound can

pub returns-clause-store : goal.returns-clause-store
returns-clause-store c = λ a p page word f value s sound can. simulates-store s a p page word f value sound can

pub returns-clause-move_out : goal.returns-clause-move_out
returns-clause-move_out c = λ a h index slot f value s sound can. simulates-move_out s a h index slot f value sound can

pub returns-clause-move_in : goal.returns-clause-move_in
returns-clause-move_in c = λ a h index slot f value s sound can. simulates-move_in s a h index slot f value sound can
