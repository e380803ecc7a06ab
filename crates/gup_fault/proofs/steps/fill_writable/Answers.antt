use Rattle.std.proofs.Common.{◌≡◌, Some, true, ap, sym, refl, ◌∙◌}
use Rattle.gup_plain.specs.declared.answer.Answer.TheVariants as answers
use Rattle.gup_frames.specs.Frames.{FramesValue, frames_of, free_frame, with_mark}
use Rattle.gup_space.specs.Found.{found_for}
use Rattle.gup_space.specs.Space.{space_of}
use Rattle.gup_spec_events.specs.Fault.{fills_writable}
use Rattle.gup_fault.proofs.Puts.{free_is_free, none_at, found_free}
use Rattle.gup_fault.proofs.FaultSteps.{changes_alike, refused, filled_writable, filled_frames, filled_mark, exclusive}
use Rattle.gup_fault.proofs.steps.fill_writable.Goals as goal

pub returns-in_default-clause-fault : goal.returns-in_default-clause-fault
returns-in_default-clause-fault c =
    refused (frames_of c.args.frames.now) _ (space_of c.args.space.now) _ answers.NoFrame
    (λ a p. fills_writable a p c.args.page (found_for (frames_of c.args.frames.now) (space_of c.args.space.now) c.args.page c.args.allowed)) c.in_default.ensures.taken refl
    (λ a p. ap (fills_writable a p c.args.page) (found_free (frames_of c.args.frames.now) (space_of c.args.space.now) c.args.page c.args.allowed (none_at c.lacks-missing.ensures c.if-missing-gt0.false) ∙ sym c.in_default.ensures.frame))

pub returns-clause-fault : goal.returns-clause-fault
returns-clause-fault c =
    let F = frames_of c.args.frames.now in
    let S = space_of c.args.space.now in
    let f = c.in-Some.fresh in
    let free : free_frame F c.args.allowed ≡ Some f = sym c.in-Some.ensures.frame in
    let frames : frames_of c.set_mark.new.self ≡ filled_frames f F = c.set_mark.ensures ∙ ap (λ (x : FramesValue). with_mark f true x) c.in-Some.ensures.taken in
    changes_alike F (filled_frames f F) _ S _ _ _ _ frames c.set_entry.ensures
    (filled_writable F S c.args.page f (found_for F S c.args.page c.args.allowed) (found_free F S c.args.page c.args.allowed (none_at c.lacks-missing.ensures c.if-missing-gt0.false) ∙ free) (free_is_free F c.args.allowed f free) c.requires.absent)

pub returns-clause-entry : goal.returns-clause-entry
returns-clause-entry c =
    let F = frames_of c.args.frames.now in
    let f = c.in-Some.fresh in
    let frames : frames_of c.set_mark.new.self ≡ filled_frames f F = c.set_mark.ensures ∙ ap (λ (x : FramesValue). with_mark f true x) c.in-Some.ensures.taken in
    exclusive (frames_of c.set_mark.new.self) (space_of c.args.space.now) (space_of c.set_entry.new.self) c.args.page f true c.set_entry.ensures (filled_mark F _ f frames)
