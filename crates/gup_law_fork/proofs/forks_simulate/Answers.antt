-- One lemma an event.
use Rattle.gup_law_fork.proofs.ForkBegins.{simulates-begin_fork, simulates-count_page}
use Rattle.gup_law_fork.proofs.Shares.{simulates-share_entry, simulates-share_mark}
use Rattle.gup_law_fork.proofs.ShareChild.{simulates-share_child, simulates-pass_page}
use Rattle.gup_law_fork.proofs.Copies.{simulates-copy_word, simulates-place_child}
use Rattle.gup_law_fork.proofs.ForkEnds.{simulates-end_fork, simulates-fail_unborn}
use Rattle.gup_law_fork.proofs.ForkFails.{simulates-fail_fork, simulates-put_child}
use Rattle.gup_law_fork.proofs.forks_simulate.Goals as goal

pub returns-clause-begin_fork : goal.returns-clause-begin_fork
returns-clause-begin_fork c = λ a p c s sound can. simulates-begin_fork s a p c sound can

pub returns-clause-count_page : goal.returns-clause-count_page
returns-clause-count_page c = λ a p c done page entry copies s sound can. simulates-count_page s a p c done page entry copies sound can

pub returns-clause-share_entry : goal.returns-clause-share_entry
returns-clause-share_entry c = λ a p c done page f writable s sound can. simulates-share_entry s a p c done page f writable sound can

pub returns-clause-share_mark : goal.returns-clause-share_mark
returns-clause-share_mark c = λ a p c done page f writable s sound can. simulates-share_mark s a p c done page f writable sound can

pub returns-clause-share_child : goal.returns-clause-share_child
returns-clause-share_child c = λ a p c done page f writable s sound can. simulates-share_child s a p c done page f writable sound can

pub returns-clause-pass_page : goal.returns-clause-pass_page
returns-clause-pass_page c = λ a p c done page s sound can. simulates-pass_page s a p c done page sound can

pub returns-clause-copy_word : goal.returns-clause-copy_word
returns-clause-copy_word c = λ a p c done page word to entry s sound can. simulates-copy_word s a p c done page word to entry sound can

pub returns-clause-place_child : goal.returns-clause-place_child
returns-clause-place_child c = λ a p c done page to rights s sound can. simulates-place_child s a p c done page to rights sound can

pub returns-clause-end_fork : goal.returns-clause-end_fork
returns-clause-end_fork c = λ a p c done s sound can. simulates-end_fork s a p c done sound can

pub returns-clause-fail_fork : goal.returns-clause-fail_fork
returns-clause-fail_fork c = λ a p c done step ends s sound can. simulates-fail_fork s a p c done step ends sound can

pub returns-clause-put_child : goal.returns-clause-put_child
returns-clause-put_child c = λ a p c done page entry ends s sound can. simulates-put_child s a p c done page entry ends sound can

pub returns-clause-fail_unborn : goal.returns-clause-fail_unborn
returns-clause-fail_unborn c = λ a p c s sound can. simulates-fail_unborn s a p c sound can
