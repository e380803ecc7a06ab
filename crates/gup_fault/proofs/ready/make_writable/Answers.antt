use Rattle.std.proofs.Common.{sym, ◌∙◌}
use Rattle.gup_frames.specs.Frames.{frames_of, free_frame}
use Rattle.gup_space.specs.Space.{space_of}
use Rattle.gup_fault.proofs.ReadyPages.{writes_marked, writes_alone, got_writable, got_marked, mark_put, alone_upgraded}
use Rattle.gup_fault.proofs.ready.make_writable.Goals as goal

pub returns-then-mark-clause-fault : goal.returns-then-mark-clause-fault
returns-then-mark-clause-fault c =
    let F = frames_of c.args.frames.now in
    let e = c.args.entry in
    writes_marked F (space_of c.args.space.now) (space_of c.set_entry.new.self) c.args.page e (F.mark e.frame) (F.count e.frame) (free_frame F c.args.allowed)
    (sym c.if-mark.ensures) c.requires.entry c.set_entry.ensures

pub returns-then-mark-clause-writable : goal.returns-then-mark-clause-writable
returns-then-mark-clause-writable c =
    got_writable (space_of c.args.space.now) (space_of c.set_entry.new.self) c.args.page c.args.entry.frame c.set_entry.ensures

pub returns-then-references-eq1-clause-fault : goal.returns-then-references-eq1-clause-fault
returns-then-references-eq1-clause-fault c =
    let F = frames_of c.args.frames.now in
    let e = c.args.entry in
    writes_alone F (frames_of c.set_mark.new.self) (space_of c.args.space.now) (space_of c.set_entry-then-references-eq1.new.self) c.args.page e (F.mark e.frame) (F.count e.frame) (free_frame F c.args.allowed)
    (sym c.if-mark.ensures) (sym c.count-references.ensures ∙ c.if-references-eq1.true) c.requires.entry c.set_mark.ensures c.set_entry-then-references-eq1.ensures

pub returns-then-references-eq1-clause-writable : goal.returns-then-references-eq1-clause-writable
returns-then-references-eq1-clause-writable c =
    got_writable (space_of c.args.space.now) (space_of c.set_entry-then-references-eq1.new.self) c.args.page c.args.entry.frame c.set_entry-then-references-eq1.ensures

pub returns-then-references-eq1-clause-alone : goal.returns-then-references-eq1-clause-alone
returns-then-references-eq1-clause-alone c =
    alone_upgraded (frames_of c.args.frames.now) (frames_of c.set_mark.new.self) (space_of c.args.space.now) (space_of c.set_entry-then-references-eq1.new.self) c.args.page c.args.entry
    c.requires.entry c.set_mark.ensures c.set_entry-then-references-eq1.ensures

pub returns-then-mark-clause-marked : goal.returns-then-mark-clause-marked
returns-then-mark-clause-marked c =
    got_marked (frames_of c.args.frames.now) (space_of c.args.space.now) (space_of c.set_entry.new.self) c.args.page c.args.entry.frame c.set_entry.ensures (sym c.if-mark.ensures)

pub returns-then-references-eq1-clause-marked : goal.returns-then-references-eq1-clause-marked
returns-then-references-eq1-clause-marked c =
    let F = frames_of c.args.frames.now in
    let marked = mark_put F (frames_of c.set_mark.new.self) c.args.entry.frame c.set_mark.ensures in
    got_marked (frames_of c.set_mark.new.self) (space_of c.args.space.now) (space_of c.set_entry-then-references-eq1.new.self) c.args.page c.args.entry.frame c.set_entry-then-references-eq1.ensures marked
