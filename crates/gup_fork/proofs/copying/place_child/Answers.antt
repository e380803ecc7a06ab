use Rattle.std.proofs.Common.{Some, ap, ◌∙◌}
use Rattle.gup_frames.specs.Frames.{frames_of}
use Rattle.gup_space.specs.Space.{space_of, with_entry}
use Rattle.gup_spec_events.specs.Event.{entry_of}
use Rattle.gup_fork.proofs.CopySteps.{copy_placed}
use Rattle.gup_fork.proofs.copying.place_child.Goals as goal

pub returns-clause-events : goal.returns-clause-events
returns-clause-events c a done rights is =
    copy_placed (frames_of c.args.frames.now) (frames_of c.set_mark.new.self) (space_of c.args.parent.now) (space_of c.args.child.now) (space_of c.set_entry.new.self) a done c.args.page c.args.copy rights
    c.set_mark.ensures
    (c.set_entry.ensures ∙ ap (λ b. with_entry c.args.page (Some (entry_of c.args.copy b)) (space_of c.args.child.now)) (c.may_write-writable.ensures rights is))
