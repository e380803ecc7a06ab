use Rattle.gup_check_pages.proofs.passing.passes_right.Goals as goal

pub returns-in-Event : goal.returns-in-Event
returns-in-Event c = rw (c.in-Some-Some.is-0, c.in-Some-Some.is-1, c.in-Event.is) c.comes_right.ensures
