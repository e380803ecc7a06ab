-- One lemma an event.
use Rattle.gup_law_walk.proofs.WalkBegins.{simulates-enter_walk, simulates-read_sequence, simulates-leave_walk}
use Rattle.gup_law_walk.proofs.WalkReads.{simulates-read_link, simulates-read_entry, simulates-grab_frame, simulates-miss_frame}
use Rattle.gup_law_walk.proofs.WalkTakes.{simulates-recheck_same}
use Rattle.gup_law_walk.proofs.WalkRechecks.{simulates-recheck_above, simulates-recheck_other, simulates-read_mark}
use Rattle.gup_law_walk.proofs.WalkEnds.{simulates-read_again}
use Rattle.gup_law_walk.proofs.WalkDrops.{simulates-drop_grab, simulates-drop_last, simulates-drop_first}
use Rattle.gup_law_walk.proofs.walks_simulate.Goals as goal

pub returns-clause-enter_walk : goal.returns-clause-enter_walk
returns-clause-enter_walk c = λ a p write long s sound can. simulates-enter_walk s a p write long sound can

pub returns-clause-read_sequence : goal.returns-clause-read_sequence
returns-clause-read_sequence c = λ a p write long sequence s sound can. simulates-read_sequence s a p write long sequence sound can

pub returns-clause-read_link : goal.returns-clause-read_link
returns-clause-read_link c = λ a p write long sequence page path next s sound can. simulates-read_link s a p write long sequence page path next sound can

pub returns-clause-read_entry : goal.returns-clause-read_entry
returns-clause-read_entry c = λ a p write long sequence page path was s sound can. simulates-read_entry s a p write long sequence page path was sound can

pub returns-clause-grab_frame : goal.returns-clause-grab_frame
returns-clause-grab_frame c = λ a p write long sequence page path entry s sound can. simulates-grab_frame s a p write long sequence page path entry sound can

pub returns-clause-miss_frame : goal.returns-clause-miss_frame
returns-clause-miss_frame c = λ a p write long sequence page path entry s sound can. simulates-miss_frame s a p write long sequence page path entry sound can

pub returns-clause-recheck_above : goal.returns-clause-recheck_above
returns-clause-recheck_above c = λ a p write long sequence page path entry same s sound can. simulates-recheck_above s a p write long sequence page path entry same sound can

pub returns-clause-recheck_same : goal.returns-clause-recheck_same
returns-clause-recheck_same c = λ a p write long sequence page path entry s sound can. simulates-recheck_same s a p write long sequence page path entry sound can

pub returns-clause-recheck_other : goal.returns-clause-recheck_other
returns-clause-recheck_other c = λ a p write long sequence page path entry s sound can. simulates-recheck_other s a p write long sequence page path entry sound can

pub returns-clause-read_mark : goal.returns-clause-read_mark
returns-clause-read_mark c = λ a p write long sequence page entry mark s sound can. simulates-read_mark s a p write long sequence page entry mark sound can

pub returns-clause-read_again : goal.returns-clause-read_again
returns-clause-read_again c = λ a p write long sequence step now s sound can. simulates-read_again s a p write long sequence step now sound can

pub returns-clause-drop_grab : goal.returns-clause-drop_grab
returns-clause-drop_grab c = λ a p write long sequence f s sound can. simulates-drop_grab s a p write long sequence f sound can

pub returns-clause-drop_last : goal.returns-clause-drop_last
returns-clause-drop_last c = λ a p write long sequence left last s sound can. simulates-drop_last s a p write long sequence left last sound can

pub returns-clause-drop_first : goal.returns-clause-drop_first
returns-clause-drop_first c = λ a p write long sequence first left s sound can. simulates-drop_first s a p write long sequence first left sound can

pub returns-clause-leave_walk : goal.returns-clause-leave_walk
returns-clause-leave_walk c = λ a p write long sequence s sound can. simulates-leave_walk s a p write long sequence sound can
