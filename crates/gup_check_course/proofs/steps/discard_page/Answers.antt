use Rattle.gup_plain.specs.declared.event.PlainEvent.TheVariants as events
use Rattle.gup_check_course.proofs.steps.discard_page.Goals as goal

pub returns : goal.returns
returns c = rw (c.get.ensures.value, c.from.ensures) at (c.take_down.ensures (events.Discard c.args.actor c.args.proc) c.is_discard.ensures)
