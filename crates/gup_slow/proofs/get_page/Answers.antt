use Rattle.std.proofs.Common.{◌≡◌, Some}
use Rattle.gup_frames.specs.Frames.{frames_of}
use Rattle.gup_space.specs.Space.{space_of}
use Rattle.gup_slow.proofs.PinSteps.{referred}
use Rattle.gup_slow.proofs.get_page.Goals as goal

pub grab-requires-clause-there : goal.grab-requires-clause-there
grab-requires-clause-there c =
    let is : (space_of c.args.space.now).entry c.args.page ≡ Some c.unwrap-entry.result = cc in
    (c.requires.gettable c.unwrap-entry.result is).there

pub grab-requires-clause-held : goal.grab-requires-clause-held
grab-requires-clause-held c =
    let is : (space_of c.args.space.now).entry c.args.page ≡ Some c.unwrap-entry.result = cc in
    (c.requires.gettable c.unwrap-entry.result is).held

pub grab-requires-clause-few : goal.grab-requires-clause-few
grab-requires-clause-few c =
    let is : (space_of c.args.space.now).entry c.args.page ≡ Some c.unwrap-entry.result = cc in
    (c.requires.gettable c.unwrap-entry.result is).few

pub returns-clause-event : goal.returns-clause-event
returns-clause-event c =
    λ k.
    let is : (space_of c.args.space.now).entry c.args.page ≡ Some c.unwrap-entry.result = cc in
    referred (frames_of c.args.frames.now) (frames_of c.grab.new.self) (space_of c.args.space.now) c.args.page k _ c.unwrap-entry.result is c.grab.ensures
