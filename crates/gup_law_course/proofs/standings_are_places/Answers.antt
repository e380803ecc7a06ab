-- By induction over the notes.
use Rattle.gup_law_course.proofs.Standings.{standing_is_place}
use Rattle.gup_law_course.proofs.standings_are_places.Goals as goal

pub returns : goal.returns
returns c script notes a standing is = standing_is_place script notes a standing is
