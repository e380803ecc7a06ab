use Rattle.std.proofs.Common.{rules, arith}
use Rattle.gup_frames.proofs.Keeps.{kept-new}
use Rattle.gup_frames.proofs.frames.Frames.new.Goals as goal

pub invariant_of-result : goal.invariant_of-result
invariant_of-result c =
    kept-new c.args.movable c.args.normal _ _ _ _ _ c.requires (search rules) (search rules) (search rules) (omega (arith, c.in_ok-words.ensures)) c.in_ok-free.ensures.set c.in_ok-free.ensures.room
