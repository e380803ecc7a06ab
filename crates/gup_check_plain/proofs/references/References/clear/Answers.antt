use Rattle.std.proofs.Common.{None}
use Rattle.std.specs.BTreeMap.{get}
use Rattle.std.specs.Ordering.{nat_cmp}
use Rattle.gup_exec_parts.proofs.TableLemmas.{updated}
use Rattle.gup_check_plain.proofs.references.References.clear.Goals as goal

pub returns : goal.returns
returns c =
    rw (← c.self.view_is)
    (updated (get nat_cmp c.self.inside.holders) (get nat_cmp c.remove.new.self) c.args.h None c.remove.ensures.updates.0)
