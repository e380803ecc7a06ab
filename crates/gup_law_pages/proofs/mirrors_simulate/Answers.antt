-- One lemma an event.
use Rattle.gup_law_pages.proofs.Mirrors.{simulates-empty_mirror, simulates-fill_mirror, simulates-look}
use Rattle.gup_law_pages.proofs.mirrors_simulate.Goals as goal

pub returns-clause-empty_mirror : goal.returns-clause-empty_mirror
returns-clause-empty_mirror c = λ a m s sound can. simulates-empty_mirror s a m sound can

pub returns-clause-fill_mirror : goal.returns-clause-fill_mirror
returns-clause-fill_mirror c = λ a m p page f writable s sound can. simulates-fill_mirror s a m p page f writable sound can

pub returns-clause-look : goal.returns-clause-look
returns-clause-look c = λ a m word f value s sound can. simulates-look s a m word f value sound can
