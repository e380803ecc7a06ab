-- One lemma an event.
use Rattle.gup_law_pages.proofs.Mappings.{simulates-map_pages, simulates-lower_entry, simulates-protect_pages, simulates-drop_entry, simulates-discard_entry}
use Rattle.gup_law_pages.proofs.mappings_simulate.Goals as goal

pub returns-clause-map_pages : goal.returns-clause-map_pages
returns-clause-map_pages c = λ a p page n rights s sound can. simulates-map_pages s a p page n rights sound can

pub returns-clause-lower_entry : goal.returns-clause-lower_entry
returns-clause-lower_entry c = λ a p page f s sound can. simulates-lower_entry s a p page f sound can

pub returns-clause-protect_pages : goal.returns-clause-protect_pages
returns-clause-protect_pages c = λ a p page n rights s sound can. simulates-protect_pages s a p page n rights sound can

pub returns-clause-drop_entry : goal.returns-clause-drop_entry
returns-clause-drop_entry c = λ a p page was s sound can. simulates-drop_entry s a p page was sound can

pub returns-clause-discard_entry : goal.returns-clause-discard_entry
returns-clause-discard_entry c = λ a p page was s sound can. simulates-discard_entry s a p page was sound can
