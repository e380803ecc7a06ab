use Rattle.std.proofs.Common.{ℕ, ◌<◌, ◌^◌}
use Rattle.gup_frames.specs.Frames.{frames_of}
use Rattle.gup_test_parts.proofs.walks.expect_few.Given as goal

abbrev pub invariant-loop-number : goal.invariant-loop-number
invariant-loop-number g l = (f : ℕ) → f < l.number → (frames_of l.frames).count f < 2 ^ 40
