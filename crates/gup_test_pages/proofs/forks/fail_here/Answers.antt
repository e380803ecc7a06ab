use Rattle.std.proofs.Common.{sym}
use Rattle.gup_frames.specs.Frames.{frames_of}
use Rattle.gup_space.specs.Space.{space_of}
use Rattle.gup_fork.proofs.OneEntry.{is_counted, is_mapped}
use Rattle.gup_test_pages.proofs.forks.fail_here.Goals as goal

pub fail-requires-clause-counted : goal.fail-requires-clause-counted
fail-requires-clause-counted g c =
    let found = sym c.in-Some.ensures in
    is_counted (space_of c.args.child.now) (space_of c.share.new.child) (frames_of c.args.frames.now) (frames_of c.share.new.frames) c.args.page c.in-Some._entry.frame
    (c.share.ensures.child c.in-Some._entry found) (c.share.ensures.frames c.in-Some._entry found) c.requires

pub fail-requires-clause-mapped : goal.fail-requires-clause-mapped
fail-requires-clause-mapped g c =
    is_mapped (space_of c.args.child.now) (space_of c.share.new.child) c.args.page c.in-Some._entry.frame
    (c.share.ensures.child c.in-Some._entry (sym c.in-Some.ensures)) c.requires c.expect_room.ensures.mapped
