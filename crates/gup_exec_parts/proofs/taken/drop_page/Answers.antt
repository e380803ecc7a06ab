use Rattle.std.proofs.Common.{◌==◌, not, rules}
use Rattle.std.proofs.lemmas.Fn.{filter_same}
use Rattle.gup_plain.specs.State.{Pending}
use Rattle.gup_exec_parts.proofs.taken.drop_page.Goals as goal

pub returns : goal.returns
returns c =
    filter_same _ (λ (t : Pending). not (t.page == c.args.page)) _ (λ t b f h. search rules) c.args.taken.now.items c.retain.new.self.items c.retain.ensures.filtered
