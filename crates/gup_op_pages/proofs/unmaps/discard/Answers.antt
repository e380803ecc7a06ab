use Rattle.std.proofs.Common.{ap}
use Rattle.gup_plain.specs.declared.event.PlainEvent.TheVariants as events
use Rattle.gup_space.specs.Shows.{change_of}
use Rattle.gup_op_base.specs.Said.{whats_of, passed_said}
use Rattle.gup_op_base.proofs.Leading.{notes_alike}
use Rattle.gup_op_pages.proofs.Unmapping.{discarded, ends_last}
use Rattle.gup_op_pages.proofs.unmaps.discard.Goals as goal

pub returns : goal.returns
returns c =
    let a = c.args in
    let change = change_of a.frames.now c.discard-mapped.new.frames a.space.now c.discard-mapped.new.space in
    record {
      said = passed_said c.discard-mapped.result (events.Discard a.head.now.actor a.proc a.page) a.last;
      tells = c.passed.ensures;
      ends = ends_last a.last;
      is_so =
          notes_alike (ap (λ b. whats_of (passed_said b (events.Discard a.head.now.actor a.proc a.page) a.last)) c.discard-mapped.ensures.mapped)
          (discarded change a.head.now.actor a.proc a.page a.last c.requires.table c.discard-mapped.ensures.events);
    }
