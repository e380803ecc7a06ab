use Rattle.std.proofs.Common.{Some}
use Rattle.std.specs.BTreeMap.{get}
use Rattle.std.specs.Ordering.{nat_cmp}
use Rattle.gup_exec_parts.proofs.TableLemmas.{updated}
use Rattle.gup_check_plain.proofs.references.References.set.Goals as goal

pub returns-clause-ok : goal.returns-clause-ok
returns-clause-ok c =
    rw (← c.self.view_is)
    (updated (get nat_cmp c.self.inside.holders) (get nat_cmp c.insert.new.self) c.args.h (Some c.args.by) c.in_ok-insert.ensures.updates.0)
