use Rattle.std.proofs.Common.{◌≡◌, Some, ap, sym, ◌∙◌}
use Rattle.gup_frames.specs.Frames.{FramesValue, frames_of, free_frame}
use Rattle.gup_space.specs.Space.{space_of, with_entry}
use Rattle.gup_spec_events.specs.Event.{entry_of}
use Rattle.gup_fault.proofs.Puts.{free_is_other}
use Rattle.gup_move.specs.Moves.{moved}
use Rattle.gup_move.proofs.MoveSteps.{moved_frames, still_held, words_stay, is_of_zones, put_back, placed}
use Rattle.gup_move.proofs.place.Goals as goal

pub returns-in_default-clause-events : goal.returns-in_default-clause-events
returns-in_default-clause-events c a =
    put_back (frames_of c.args.frames.now) (frames_of c.take_copy.new.self) (space_of c.args.space.now) (space_of c.restore.new.space) a c.args.page c.args.was c.args.allowed (free_frame (frames_of c.args.frames.now) c.args.allowed)
    (sym c.in_default.ensures.frame) c.in_default.ensures.taken c.restore.ensures.space

pub put-requires-clause-held : goal.put-requires-clause-held
put-requires-clause-held c =
    still_held (frames_of c.args.frames.now) (frames_of c.take_copy.new.self) (frames_of c.set_mark.new.self) c.args.was.frame c.in-Some.frame
    (free_is_other (frames_of c.args.frames.now) c.args.allowed c.in-Some.frame c.args.was.frame (sym c.in-Some.ensures.frame) c.requires.held)
    c.requires.held c.in-Some.ensures.taken (ap (λ (x : FramesValue). x.count) c.set_mark.ensures)

-- the page is moved to the frame that was taken
frames_are : (c : goal.After-put) → frames_of c.put.new.self ≡ moved c.args.was.frame c.in-Some.frame (frames_of c.args.frames.now)
frames_are c =
    moved_frames (frames_of c.args.frames.now) (frames_of c.take_copy.new.self) (frames_of c.set_mark.new.self) (frames_of c.put.new.self) c.args.was.frame c.in-Some.frame c.mark-marked.result
    (free_is_other (frames_of c.args.frames.now) c.args.allowed c.in-Some.frame c.args.was.frame (sym c.in-Some.ensures.frame) c.requires.held)
    c.in-Some.ensures.taken c.mark-marked.ensures c.set_mark.ensures c.put.ensures

pub returns-clause-placed : goal.returns-clause-placed
returns-clause-placed c f is =
    let same : c.in-Some.frame ≡ f = (let both : Some c.in-Some.frame ≡ Some f = c.in-Some.ensures.frame ∙ is in cc) in (
      frames_are c ∙ ap (λ g. moved c.args.was.frame g (frames_of c.args.frames.now)) same,
      c.set_entry.ensures ∙ ap (λ g. with_entry c.args.page (Some (entry_of g c.args.was.writable)) (space_of c.args.space.now)) same,
    )

pub returns-clause-words : goal.returns-clause-words
returns-clause-words c f is w =
    words_stay (frames_of c.args.frames.now) (frames_of c.put.new.self) c.args.was.frame f w
    (free_is_other (frames_of c.args.frames.now) c.args.allowed f c.args.was.frame is c.requires.held)
    (returns-clause-placed c f is).0

pub returns-clause-zone : goal.returns-clause-zone
returns-clause-zone c f is = is_of_zones (frames_of c.args.frames.now) c.args.allowed f is

pub returns-clause-events : goal.returns-clause-events
returns-clause-events c a =
    placed (frames_of c.args.frames.now) (frames_of c.put.new.self) (space_of c.args.space.now) (space_of c.set_entry.new.self) a c.args.page c.in-Some.frame c.args.was c.args.allowed (free_frame (frames_of c.args.frames.now) c.args.allowed)
    (sym c.in-Some.ensures.frame)
    (free_is_other (frames_of c.args.frames.now) c.args.allowed c.in-Some.frame c.args.was.frame (sym c.in-Some.ensures.frame) c.requires.held)
    (frames_are c) c.set_entry.ensures
