-- The answer is that of an arc, and each arc of an answer leads to the end.
use Rattle.gup_law_course.proofs.Arcs.{answer_ends}
use Rattle.gup_law_course.proofs.answers_end.Goals as goal

pub returns : goal.returns
returns c who op course answer step is = answer_ends who op course answer step is
