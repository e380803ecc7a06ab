use Rattle.std.proofs.Common.{◌≡◌, ℕ, sym, ap, ◌∙◌}
use Rattle.gup_frames.specs.Frames.{frames_of}
use Rattle.gup_space.specs.Space.{space_of}
use Rattle.gup_fork.specs.Forks.{with_maps_of}
use Rattle.gup_fork.proofs.Steps.{begun}
use Rattle.gup_fork.proofs.begin.Goals as goal

child_is : (c : goal.After-raise) → space_of c.copy_maps.new.self ≡ with_maps_of (space_of c.args.parent.now) (space_of c.args.child.now)
child_is c =
    let parent = space_of c.args.parent.now in
    c.copy_maps.ensures
    ∙ ap (λ (n : ℕ). record (space_of c.args.child.now) { right = parent.right; pages = n }) (sym c.is_counted.ensures)

pub returns-clause-child : goal.returns-clause-child
returns-clause-child c = child_is c

pub returns-clause-events : goal.returns-clause-events
returns-clause-events c a frames =
    begun (frames_of frames) (space_of c.args.parent.now) (space_of c.raise.new.self) (space_of c.args.child.now) (space_of c.copy_maps.new.self) a c.raise.ensures (child_is c)
