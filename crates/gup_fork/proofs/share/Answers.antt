use Rattle.std.proofs.Common.{◌≡◌, ◌^◌, Some, sym, ap, ◌∙◌}
use Rattle.gup_base.specs.declared.entry.Entry.{Entry}
use Rattle.gup_frames.specs.Frames.{FramesValue, frames_of, with_references}
use Rattle.gup_space.specs.Space.{space_of, with_entry}
use Rattle.gup_fork.specs.Forks.{shared}
use Rattle.gup_fork.proofs.Steps.{page_shared, free_shared, some_held, few_held, same_frame}
use Rattle.gup_fork.proofs.share.Goals as goal

pub grab-requires-clause-held : goal.grab-requires-clause-held
grab-requires-clause-held c =
    some_held (frames_of c.args.frames.now) (frames_of c.set_mark.new.self) c.in-Some.entry.frame c.set_mark.ensures
    (c.requires.counted.counted c.in-Some.entry (sym c.in-Some.ensures.entry))

pub grab-requires-clause-few : goal.grab-requires-clause-few
grab-requires-clause-few c =
    few_held (frames_of c.args.frames.now) (frames_of c.set_mark.new.self) c.in-Some.entry.frame (2 ^ 40) c.set_mark.ensures
    (c.requires.few c.in-Some.entry (sym c.in-Some.ensures.entry))

pub returns-clause-frames : goal.returns-clause-frames
returns-clause-frames c e is =
    rw (same_frame ((space_of c.args.parent.now).entry c.args.page) c.in-Some.entry e (sym c.in-Some.ensures.entry) is)
    (c.grab.ensures ∙ ap (λ (x : FramesValue). with_references c.in-Some.entry.frame 1 x) c.set_mark.ensures)

pub returns-clause-words : goal.returns-clause-words
returns-clause-words c f w =
    ap (λ (x : FramesValue). x.word f w)
    (c.grab.ensures ∙ ap (λ (x : FramesValue). with_references c.in-Some.entry.frame 1 x) c.set_mark.ensures)

pub returns-clause-free : goal.returns-clause-free
returns-clause-free c =
    free_shared (frames_of c.args.frames.now) (frames_of c.grab.new.self) c.in-Some.entry.frame
    (c.grab.ensures ∙ ap (λ (x : FramesValue). with_references c.in-Some.entry.frame 1 x) c.set_mark.ensures)
    (c.requires.counted.counted c.in-Some.entry (sym c.in-Some.ensures.entry))

pub returns-clause-events : goal.returns-clause-events
returns-clause-events c a done e is =
    let same : e.frame ≡ c.in-Some.entry.frame = same_frame ((space_of c.args.parent.now).entry c.args.page) c.in-Some.entry e (sym c.in-Some.ensures.entry) is in
    let frames : frames_of c.grab.new.self ≡ shared e.frame (frames_of c.args.frames.now) =
    rw same (c.grab.ensures ∙ ap (λ (x : FramesValue). with_references c.in-Some.entry.frame 1 x) c.set_mark.ensures) in
    page_shared (frames_of c.args.frames.now) (frames_of c.grab.new.self) (space_of c.args.parent.now) (space_of c.lower_entry.new.self) (space_of c.args.child.now) (space_of c.set_entry.new.self) a done c.args.page e
    frames
    (rw same c.in-Some.ensures.lowered)
    (rw same (c.set_entry.ensures ∙ ap (λ (x : Entry). with_entry c.args.page (Some x) (space_of c.args.child.now)) c.read_only.ensures))
