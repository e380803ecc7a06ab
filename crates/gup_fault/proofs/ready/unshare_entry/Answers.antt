use Rattle.std.proofs.Common.{sym, ◌∙◌}
use Rattle.gup_frames.specs.Frames.{frames_of, free_frame}
use Rattle.gup_space.specs.Space.{space_of}
use Rattle.gup_space.specs.Shows.{change_of}
use Rattle.gup_fault.proofs.ReadyPages.{unshares_alone, got_mark, alone_marked, read_only_after}
use Rattle.gup_fault.proofs.ready.unshare_entry.Goals as goal

pub returns-then-count-eq1-clause-fault : goal.returns-then-count-eq1-clause-fault
returns-then-count-eq1-clause-fault c =
    let F = frames_of c.args.frames.now in
    let e = c.args.entry in
    unshares_alone F (frames_of c.set_mark.new.self) (space_of c.args.space.now) c.args.page e (F.mark e.frame) (F.count e.frame) (free_frame F c.args.allowed)
    (sym c.if-mark.ensures) (sym c.count.ensures ∙ c.if-count-eq1.true) c.set_mark.ensures

pub returns-then-count-eq1-clause-marked : goal.returns-then-count-eq1-clause-marked
returns-then-count-eq1-clause-marked c =
    got_mark (frames_of c.args.frames.now) (frames_of c.set_mark.new.self) (space_of c.args.space.now) c.args.page c.args.entry c.requires.entry c.set_mark.ensures

pub returns-then-count-eq1-clause-alone : goal.returns-then-count-eq1-clause-alone
returns-then-count-eq1-clause-alone c =
    alone_marked (frames_of c.args.frames.now) (frames_of c.set_mark.new.self) (space_of c.args.space.now) c.args.page c.args.entry.frame c.set_mark.ensures

pub returns-clause-read_only : goal.returns-clause-read_only
returns-clause-read_only c =
    read_only_after (change_of c.args.frames.now c.break_entry.new.frames c.args.space.now c.break_entry.new.space) c.args.page c.break_entry.result
    c.break_entry.ensures.entry c.break_entry.ensures.fault.unchanged
