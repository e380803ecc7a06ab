use Rattle.std.proofs.lemmas.Slice.Eq.{slice_eq-Decides}
use Rattle.std.specs.Cmp.{unsigned_Decides}
use Rattle.gup_exec_jobs.proofs.lists.are_same_frames.Goals as goal

pub returns : goal.returns
returns c = slice_eq-Decides unsigned_Decides c.args.frames.now c.args.others.now c.eq.result c.eq.ensures
