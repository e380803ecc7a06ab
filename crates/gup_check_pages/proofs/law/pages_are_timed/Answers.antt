use Rattle.gup_spec_check.specs.Seen.{seen_first}
use Rattle.gup_spec_check.specs.Times.{times_first}
use Rattle.gup_check_pages.proofs.TimedNotes.{timed_first, timed_from}
use Rattle.gup_check_pages.proofs.law.pages_are_timed.Goals as goal

pub returns : goal.returns
returns c script notes a page plain = (timed_from script (seen_first script) times_first notes (timed_first script) plain).unnamed a page
