use Rattle.gup_frames.specs.Frames.{frames_of}
use Rattle.gup_space.specs.Space.{space_of}
use Rattle.gup_fault.proofs.FaultSteps.{upgraded_at, keeps_upgraded_at}
use Rattle.gup_fault.proofs.steps.upgrade.Goals as goal

pub returns-in-Some-clause-events : goal.returns-in-Some-clause-events
returns-in-Some-clause-events c e is =
    upgraded_at (frames_of c.args.frames.now) (space_of c.args.space.now) (space_of c.set_entry.new.self) c.args.page e c.in-Some.entry is c.in-Some.ensures c.set_entry.ensures

pub returns-in-Some-clause-bytes : goal.returns-in-Some-clause-bytes
returns-in-Some-clause-bytes c =
    keeps_upgraded_at (frames_of c.args.frames.now) (space_of c.args.space.now) (space_of c.set_entry.new.self) c.args.page c.in-Some.entry c.in-Some.ensures c.set_entry.ensures
