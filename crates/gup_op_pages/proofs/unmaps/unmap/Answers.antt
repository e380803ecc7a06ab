use Rattle.std.proofs.Common.{ap}
use Rattle.gup_plain.specs.declared.event.PlainEvent.TheVariants as events
use Rattle.gup_space.specs.Shows.{change_of}
use Rattle.gup_op_base.specs.Said.{whats_of, passed_said}
use Rattle.gup_op_base.proofs.Leading.{notes_alike}
use Rattle.gup_op_pages.proofs.Unmapping.{unmapped, ends_last}
use Rattle.gup_op_pages.proofs.unmaps.unmap.Goals as goal

pub returns : goal.returns
returns c =
    let a = c.args in
    let change = change_of a.frames.now c.take_down-mapped.new.frames a.space.now c.take_down-mapped.new.space in
    record {
      said = passed_said c.take_down-mapped.result (events.Unmap a.head.now.actor a.proc a.page) a.last;
      tells = c.passed.ensures;
      ends = ends_last a.last;
      is_so =
          notes_alike (ap (λ b. whats_of (passed_said b (events.Unmap a.head.now.actor a.proc a.page) a.last)) c.take_down-mapped.ensures.mapped)
          (unmapped change a.head.now.actor a.proc a.page a.last c.requires.table c.take_down-mapped.ensures.events);
    }
