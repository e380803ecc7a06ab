use Rattle.std.proofs.Common.{◌≡◌, ◌++◌}
use Rattle.gup_frames.specs.Frames.{frames_of}
use Rattle.gup_image.specs.Gathered.{gathered}
use Rattle.gup_image.specs.Image.{words_of_frame}
use Rattle.gup_image.proofs.frames.push_words.Given as goal

-- the facts of so many words
abbrev pub invariant-loop-w : goal.invariant-loop-w
invariant-loop-w l = l.facts.items ≡ l.fn.facts.items ++ gathered (words_of_frame (frames_of l.fn.frames) l.fn.frame) l.w
