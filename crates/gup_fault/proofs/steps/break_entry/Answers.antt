use Rattle.std.proofs.Common.{◌≡◌, Some, true, ap, sym, refl, ◌∙◌}
use Rattle.gup_plain.specs.declared.answer.Answer.TheVariants as answers
use Rattle.gup_frames.specs.Frames.{FramesValue, frames_of, free_frame, with_mark, without_references}
use Rattle.gup_space.specs.Space.{space_of}
use Rattle.gup_spec_events.specs.Fault.{breaks}
use Rattle.gup_fault.proofs.Puts.{free_is_free, free_is_other}
use Rattle.gup_fault.proofs.FaultSteps.{changes_alike, refused, broken, broken_frames, broken_mark, exclusive, still_held}
use Rattle.gup_fault.proofs.steps.break_entry.Goals as goal

pub returns-in_default-clause-fault : goal.returns-in_default-clause-fault
returns-in_default-clause-fault c =
    refused (frames_of c.args.frames.now) _ (space_of c.args.space.now) _ answers.NoFrame
    (λ a p. breaks a p c.args.page c.args.entry c.args.writable (free_frame (frames_of c.args.frames.now) c.args.allowed)) c.in_default.ensures.taken refl
    (λ a p. ap (breaks a p c.args.page c.args.entry c.args.writable) (sym c.in_default.ensures.frame))

pub put-requires-clause-held : goal.put-requires-clause-held
put-requires-clause-held c =
    let F = frames_of c.args.frames.now in
    let f = c.in-Some.copy in
    let free : free_frame F c.args.allowed ≡ Some f = sym c.in-Some.ensures.frame in
    let held = c.requires.counted.counted c.args.entry c.requires.entry in
    still_held F _ c.args.entry.frame f held (free_is_free F c.args.allowed f free)
    (c.set_mark.ensures ∙ ap (λ (x : FramesValue). with_mark f true x) c.in-Some.ensures.taken)

pub returns-clause-fault : goal.returns-clause-fault
returns-clause-fault c =
    let F = frames_of c.args.frames.now in
    let S = space_of c.args.space.now in
    let f = c.in-Some.copy in
    let old = c.args.entry.frame in
    let free : free_frame F c.args.allowed ≡ Some f = sym c.in-Some.ensures.frame in
    let held = c.requires.counted.counted c.args.entry c.requires.entry in
    let frames : frames_of c.put.new.self ≡ broken_frames old f F =
    c.put.ensures ∙ ap (λ (x : FramesValue). without_references old 1 x) (c.set_mark.ensures ∙ ap (λ (x : FramesValue). with_mark f true x) c.in-Some.ensures.taken) in
    changes_alike F (broken_frames old f F) _ S _ _ _ _ frames c.set_entry.ensures
    (broken F S c.args.page f c.args.entry c.args.writable (free_frame F c.args.allowed) free (free_is_free F c.args.allowed f free) c.requires.entry held)

pub returns-clause-entry : goal.returns-clause-entry
returns-clause-entry c =
    let F = frames_of c.args.frames.now in
    let f = c.in-Some.copy in
    let old = c.args.entry.frame in
    let free : free_frame F c.args.allowed ≡ Some f = sym c.in-Some.ensures.frame in
    let held = c.requires.counted.counted c.args.entry c.requires.entry in
    let frames : frames_of c.put.new.self ≡ broken_frames old f F =
    c.put.ensures ∙ ap (λ (x : FramesValue). without_references old 1 x) (c.set_mark.ensures ∙ ap (λ (x : FramesValue). with_mark f true x) c.in-Some.ensures.taken) in
    exclusive (frames_of c.put.new.self) (space_of c.args.space.now) (space_of c.set_entry.new.self) c.args.page f c.args.writable c.set_entry.ensures
    (broken_mark F _ old f frames (λ same. free_is_other F c.args.allowed f old free held (sym same)))
