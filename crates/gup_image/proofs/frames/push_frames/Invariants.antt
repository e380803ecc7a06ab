use Rattle.std.proofs.Common.{◌≡◌, ◌++◌}
use Rattle.gup_frames.specs.Frames.{frames_of}
use Rattle.gup_image.specs.Gathered.{gathered}
use Rattle.gup_image.specs.Image.{frame_facts}
use Rattle.gup_image.proofs.frames.push_frames.Given as goal

-- the facts of so many frames
abbrev pub invariant-loop-f : goal.invariant-loop-f
invariant-loop-f l = l.facts.items ≡ l.initial.facts.items ++ gathered (frame_facts (frames_of l.frames)) l.f
