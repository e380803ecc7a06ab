use Rattle.std.proofs.Common.{◌≡◌, Some, sym}
use Rattle.gup_frames.specs.Frames.{frames_of}
use Rattle.gup_space.specs.Space.{space_of}
use Rattle.gup_unmap.proofs.DownSteps.{discarded_entry, words_stay}
use Rattle.gup_unmap.proofs.discard.Goals as goal

pub returns-clause-events : goal.returns-clause-events
returns-clause-events c =
    let S = space_of c.args.space.now in
    let found : S.entry c.args.page ≡ Some c.in-Some.old = sym c.in-Some.ensures.entry in
    let mapped = c.requires.mapped c.in-Some.old found in
    discarded_entry (frames_of c.args.frames.now) (frames_of c.put.new.self) S (space_of c.take_entry.new.self) c.args.page (S.right c.args.page) (S.entry c.args.page) c.in-Some.old
    mapped found c.in-Some.ensures.taken c.put.ensures

pub returns-clause-words : goal.returns-clause-words
returns-clause-words c = words_stay (frames_of c.args.frames.now) (frames_of c.put.new.self) c.in-Some.old.frame c.put.ensures
