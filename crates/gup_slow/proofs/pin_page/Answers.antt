use Rattle.std.proofs.Common.{◌≡◌, Some}
use Rattle.gup_frames.specs.Frames.{frames_of}
use Rattle.gup_space.specs.Space.{space_of}
use Rattle.gup_slow.proofs.PinSteps.{pinned}
use Rattle.gup_slow.proofs.pin_page.Goals as goal

pub mark-requires : goal.mark-requires
mark-requires c =
    let is : (space_of c.args.space.now).entry c.args.page ≡ Some c.unwrap-entry.result = cc in
    (c.requires.pinnable c.unwrap-entry.result is).there

pub returns-clause-events : goal.returns-clause-events
returns-clause-events c =
    let is : (space_of c.args.space.now).entry c.args.page ≡ Some c.unwrap-entry.result = cc in
    pinned (frames_of c.args.frames.now) (frames_of c.grab.new.self) (space_of c.args.space.now) (space_of c.set_pinned.new.self) c.args.page c.args.want _ c.unwrap-entry.result is c.set_pinned.ensures c.grab.ensures
