-- One lemma an event.
use Rattle.gup_law_pages.proofs.Faults.{simulates-take_frame, simulates-fill, simulates-count_one, simulates-set_mark, simulates-upgrade}
use Rattle.gup_law_pages.proofs.Breaks.{simulates-break_entry, simulates-put_entry}
use Rattle.gup_law_pages.proofs.faults_simulate.Goals as goal

pub returns-clause-take_frame : goal.returns-clause-take_frame
returns-clause-take_frame c = λ a f s sound can. simulates-take_frame s a f sound can

pub returns-clause-fill : goal.returns-clause-fill
returns-clause-fill c = λ a p page f s sound can. simulates-fill s a p page f sound can

pub returns-clause-count_one : goal.returns-clause-count_one
returns-clause-count_one c = λ a p page f writable s sound can. simulates-count_one s a p page f writable sound can

pub returns-clause-set_mark : goal.returns-clause-set_mark
returns-clause-set_mark c = λ a p page f s sound can. simulates-set_mark s a p page f sound can

pub returns-clause-upgrade : goal.returns-clause-upgrade
returns-clause-upgrade c = λ a p page f s sound can. simulates-upgrade s a p page f sound can

pub returns-clause-break_entry : goal.returns-clause-break_entry
returns-clause-break_entry c = λ a p page old new was writable s sound can. simulates-break_entry s a p page old new was writable sound can

pub returns-clause-put_entry : goal.returns-clause-put_entry
returns-clause-put_entry c = λ a f s sound can. simulates-put_entry s a f sound can
