-- What a fault that was refused answered.
use Rattle.std.specs.Prelude.{Option, Some, None, Result, Ok, Err}
use Rattle.gup_plain.specs.declared.answer.Answer.{Answer}
use Rattle.gup_plain.specs.declared.answer.Answer.TheVariants as answers
use Rattle.gup_fault.specs.declared.denied.Denied.{Denied}
use Rattle.gup_fault.specs.declared.denied.Denied.TheVariants.{Missing, Forbidden, NoFrame}
use Rattle.gup_fault.specs.declared.denied.NoFrame.{NoFrame as NoFrameError}

-- what a call that answered this was refused with
abbrev pub answer_of : Denied → Answer
answer_of Missing = answers.Missing
answer_of Forbidden = answers.Forbidden
answer_of NoFrame = answers.NoFrame

abbrev pub denial_of : Result (Unit {0}) Denied → Option Answer
denial_of (Ok ok) = None
denial_of (Err denied) = Some (answer_of denied)

-- the same of a call that can only want a frame
abbrev pub frame_denial : Result (Unit {0}) NoFrameError → Option Answer
frame_denial (Ok ok) = None
frame_denial (Err none) = Some answers.NoFrame
