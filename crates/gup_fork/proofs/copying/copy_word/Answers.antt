use Rattle.std.proofs.Common.{sym}
use Rattle.gup_frames.specs.Frames.{frames_of}
use Rattle.gup_space.specs.Space.{space_of}
use Rattle.gup_fork.proofs.CopySteps.{of_its_frame, word_copied}
use Rattle.gup_fork.proofs.copying.copy_word.Goals as goal

pub returns-clause-events : goal.returns-clause-events
returns-clause-events c a done child e is =
    word_copied (frames_of c.args.frames.now) (frames_of c.set_word.new.self) (space_of c.args.parent.now) (space_of child) a done c.args.page c.args.word c.args.to e
    (of_its_frame (frames_of c.args.frames.now) (frames_of c.set_word.new.self) ((space_of c.args.parent.now).entry c.args.page) c.in-Some.entry e c.args.word c.args.to c.word-value.result
    (sym c.in-Some.ensures) is c.word-value.ensures c.set_word.ensures)
