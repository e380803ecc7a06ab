use Rattle.std.proofs.Common.{arith}
use Rattle.std.proofs.lemmas.Bool.Decides.{nat_tests}
use Rattle.gup_frames.specs.Frames.{frames_of}
use Rattle.gup_op_mirrors.proofs.FreeFrames.{free_is}
use Rattle.gup_op_mirrors.proofs.changes.has_free.Goals as goal

pub returns-then-free-gt0 : goal.returns-then-free-gt0
returns-then-free-gt0 c = grind (arith, nat_tests, free_is (frames_of c.args.frames.now) c.args.want)

pub returns-then-not-want : goal.returns-then-not-want
returns-then-not-want c = grind (arith, nat_tests, free_is (frames_of c.args.frames.now) c.args.want)

pub returns-else-not-want : goal.returns-else-not-want
returns-else-not-want c = grind (arith, nat_tests, free_is (frames_of c.args.frames.now) c.args.want)
