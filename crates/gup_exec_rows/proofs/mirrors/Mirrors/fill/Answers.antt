use Rattle.std.proofs.Common.{Some}
use Rattle.std.specs.BTreeMap.{get}
use Rattle.std.specs.Ordering.{nat_cmp}
use Rattle.gup_exec_parts.proofs.TableLemmas.{updated}
use Rattle.gup_exec_rows.specs.Mirrors.{frames_in, notes_in}
use Rattle.gup_exec_rows.proofs.mirrors.Mirrors.fill.Goals as goal

pub returns-clause-frames : goal.returns-clause-frames
unfolding frames_in
returns-clause-frames c =
    updated (get nat_cmp c.args.self.now.frames) (get nat_cmp c.insert.new.self) c.args.m (Some c.args.f) c.in_ok-insert.ensures.updates.0

pub returns-clause-notes : goal.returns-clause-notes
unfolding notes_in
returns-clause-notes c = c.put.ensures
