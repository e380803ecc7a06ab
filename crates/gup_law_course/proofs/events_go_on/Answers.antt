-- The event is that of an arc, and each arc of an event leads on.
use Rattle.gup_law_course.proofs.Arcs.{event_goes_on}
use Rattle.gup_law_course.proofs.events_go_on.Goals as goal

pub returns : goal.returns
returns c who op course event step is = event_goes_on who op course event step is
