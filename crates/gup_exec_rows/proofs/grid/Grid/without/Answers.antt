use Rattle.std.proofs.Common.{None, ap, ◌∙◌}
use Rattle.std.specs.BTreeMap.{get}
use Rattle.std.specs.Ordering.{nat_cmp}
use Rattle.gup_plain.specs.Put.{put}
use Rattle.gup_exec_parts.proofs.TableLemmas.{updated}
use Rattle.gup_exec_rows.proofs.grid.Grid.without.Goals as goal

pub returns : goal.returns
returns g c =
    updated (get nat_cmp c.in_ok-row.row) (get nat_cmp c.remove.new.self) c.args.page None c.remove.ensures.updates.0
    ∙ ap (put c.args.page None) c.in_ok-row.ensures
