use Rattle.std.proofs.Common.{◌+◌}
use Rattle.gup_check_plain.proofs.PagesLemmas.{no_rights}
use Rattle.gup_check_plain.proofs.pages.rights_behind.Goals as goal

pub returns-in-None : goal.returns-in-None
returns-in-None c = no_rights _ (c.args.page + c.args.got) (c.rights-first.ensures.numbered c.args.p (c.args.page + c.args.got)) c.in-None.ensures
