use Rattle.std.proofs.Common.{◌≡◌, ◌+◌, ◌∙◌, arith}
use Rattle.gup_frames.specs.Frames.{frames_of, free_frame}
use Rattle.gup_frames.proofs.Free.{found_there, found_count}
use Rattle.gup_frames.proofs.Keeps.{lowest_free_is}
use Rattle.gup_frames.proofs.frames.Frames.lowest_free.Goals as goal

pub returns-in-Any : goal.returns-in-Any
returns-in-Any c =
    let s = frames_of c.args.self.now in
    let e : c.lowest.result ≡ free_frame s c.args.allowed =
    rw (← c.self.view_is, c.in-Any.is)
    (c.lowest.ensures ∙ lowest_free_is _ _ _ _ _ c.self.invariant 0 (c.self.inside.movable + c.self.inside.normal) (omega arith)) in record {
      frame = e;
      there = found_there s c.args.allowed _ e;
      free = found_count s c.args.allowed _ e;
    }

pub returns-in-Only : goal.returns-in-Only
returns-in-Only c =
    let s = frames_of c.args.self.now in
    let e : c.lowest_in.result ≡ free_frame s c.args.allowed = rw c.in-Only.is c.lowest_in.ensures in record {
      frame = e;
      there = found_there s c.args.allowed _ e;
      free = found_count s c.args.allowed _ e;
    }
