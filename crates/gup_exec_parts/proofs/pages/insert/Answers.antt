use Rattle.std.proofs.Common.{Some}
use Rattle.std.specs.BTreeMap.{get}
use Rattle.std.specs.Ordering.{nat_cmp}
use Rattle.gup_exec_parts.proofs.TableLemmas.{updated}
use Rattle.gup_exec_parts.proofs.pages.insert.Goals as goal

pub returns-clause-pages : goal.returns-clause-pages
returns-clause-pages c =
    updated (get nat_cmp c.args.pages.now) (get nat_cmp c.insert.new.self) c.args.page (Some c.args.entry) c.in_ok-insert.ensures.updates.0
