use Rattle.std.proofs.Common.{None}
use Rattle.std.specs.BTreeMap.{get}
use Rattle.std.specs.Ordering.{nat_cmp}
use Rattle.gup_exec_parts.proofs.TableLemmas.{updated}
use Rattle.gup_exec_rows.specs.Mirrors.{frames_in}
use Rattle.gup_exec_rows.proofs.mirrors.Mirrors.empty.Goals as goal

pub returns-clause-frames : goal.returns-clause-frames
unfolding frames_in
returns-clause-frames c =
    updated (get nat_cmp c.args.self.now.frames) (get nat_cmp c.remove.new.self) c.args.m None c.remove.ensures.updates.0
