-- One lemma an event.
use Rattle.gup_law_pins.proofs.Moves.{simulates-clear_entry, simulates-count_moved, simulates-place_frame, simulates-restore_entry}
use Rattle.gup_law_pins.proofs.moves_simulate.Goals as goal

pub returns-clause-clear_entry : goal.returns-clause-clear_entry
returns-clause-clear_entry c = λ a p page entry allowed s sound can. simulates-clear_entry s a p page entry allowed sound can

pub returns-clause-count_moved : goal.returns-clause-count_moved
returns-clause-count_moved c = λ a p page entry allowed count s sound can. simulates-count_moved s a p page entry allowed count sound can

pub returns-clause-place_frame : goal.returns-clause-place_frame
returns-clause-place_frame c = λ a p page f entry allowed s sound can. simulates-place_frame s a p page f entry allowed sound can

pub returns-clause-restore_entry : goal.returns-clause-restore_entry
returns-clause-restore_entry c = λ a p page entry allowed count s sound can. simulates-restore_entry s a p page entry allowed count sound can
