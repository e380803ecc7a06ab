-- Note by note.
use Rattle.gup_spec_check.specs.Seen.{seen_first}
use Rattle.gup_law_check.proofs.OneMore.{seen_from-append}
use Rattle.gup_law_check.proofs.seen_grows.Goals as goal

pub returns : goal.returns
returns c script notes note = seen_from-append script (seen_first script) notes note
