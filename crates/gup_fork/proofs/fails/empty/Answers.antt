use Rattle.std.proofs.Common.{rules}
use Rattle.gup_frames.specs.Frames.{frames_of}
use Rattle.gup_space.specs.Space.{space_of}
use Rattle.gup_fork.proofs.EmptyChild.{is_page, next_from, last_from, begins, goes_on, fewer, ends_child, ends_frames, ends_below}
use Rattle.gup_fork.proofs.fails.empty.Goals as goal

pub loop-page-init : goal.loop-page-init
loop-page-init c =
    begins (space_of c.args.child.now) (frames_of c.args.frames.now) c.requires.mapped c.are_there.ensures.held c.requires.counted

pub loop-page-smaller : goal.loop-page-smaller
loop-page-smaller c =
    fewer c.loop-page.child (space_of c.put_entry.new.child) (space_of c.unmap_page-was_mapped.new.self) c.in-Some.page
    c.in-Some.ensures.mapped c.put_entry.ensures.child c.unmap_page-was_mapped.ensures.unmapped

pub loop-page-preserved : goal.loop-page-preserved
loop-page-preserved c =
    goes_on (space_of c.args.child.now) (space_of c.loop-page.child) (space_of c.put_entry.new.child) (space_of c.unmap_page-was_mapped.new.self)
    (frames_of c.args.frames.now) (frames_of c.loop-page.frames) (frames_of c.put_entry.new.frames) c.in-Some.page
    (next_from (space_of c.loop-page.child).right c.lowest_page-first.result c.in-Some.page c.lowest_page-first.ensures c.in-Some.ensures)
    (is_page c.in-Some.page (search rules))
    c.put_entry.ensures.child c.put_entry.ensures.frames c.unmap_page-was_mapped.ensures.unmapped c.loop-page.invariant

pub returns-clause-child : goal.returns-clause-child
returns-clause-child c =
    ends_child (space_of c.args.child.now) c.loop-page.child (frames_of c.args.frames.now) (frames_of c.loop-page.frames)
    (last_from (space_of c.loop-page.child).right c.lowest_page-first.result c.lowest_page-first.ensures c.in_default.ensures) c.loop-page.invariant

pub returns-clause-frames : goal.returns-clause-frames
returns-clause-frames c =
    ends_frames (space_of c.args.child.now) (space_of c.loop-page.child) (frames_of c.args.frames.now) (frames_of c.loop-page.frames)
    (last_from (space_of c.loop-page.child).right c.lowest_page-first.result c.lowest_page-first.ensures c.in_default.ensures) c.loop-page.invariant

pub returns-clause-below : goal.returns-clause-below
returns-clause-below c =
    ends_below (space_of c.args.child.now) (space_of c.loop-page.child) (frames_of c.args.frames.now) (frames_of c.loop-page.frames)
    (last_from (space_of c.loop-page.child).right c.lowest_page-first.result c.lowest_page-first.ensures c.in_default.ensures) c.loop-page.invariant
