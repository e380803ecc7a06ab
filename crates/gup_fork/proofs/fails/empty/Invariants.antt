use Rattle.gup_frames.specs.Frames.{frames_of}
use Rattle.gup_space.specs.Space.{space_of}
use Rattle.gup_fork.proofs.EmptyChild.{IsEmptying}
use Rattle.gup_fork.proofs.fails.empty.Given as goal

abbrev pub invariant-loop-page : goal.invariant-loop-page
invariant-loop-page l =
    IsEmptying (space_of l.initial.child) (space_of l.child) (frames_of l.initial.frames) (frames_of l.frames)

-- the mapped pages that are left
abbrev pub decreases-loop-page : goal.decreases-loop-page
decreases-loop-page l = (space_of l.child).pages
