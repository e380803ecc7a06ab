use Rattle.std.proofs.Common.{None}
use Rattle.std.specs.BTreeMap.{get}
use Rattle.std.specs.Ordering.{nat_cmp}
use Rattle.gup_exec_parts.proofs.TableLemmas.{updated}
use Rattle.gup_exec_parts.proofs.pages.remove.Goals as goal

pub returns-clause-pages : goal.returns-clause-pages
returns-clause-pages c =
    updated (get nat_cmp c.args.pages.now) (get nat_cmp c.remove.new.self) c.args.page None c.remove.ensures.updates.0
