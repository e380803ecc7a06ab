use Rattle.std.proofs.Common.{sym, refl}
use Rattle.gup_plain.specs.declared.event.PlainEvent.TheVariants as events
use Rattle.gup_frames.specs.Frames.{frames_of}
use Rattle.gup_space.specs.Space.{space_of}
use Rattle.gup_op_base.specs.Said.{happened_said}
use Rattle.gup_op_fork.proofs.Forking.{passed}
use Rattle.gup_op_fork.proofs.forks.next_turn.Goals as goal

pub returns-in_default : goal.returns-in_default
returns-in_default c =
    c.last_turn.ensures c.args.from c.args.frames.now c.args.child.now (sym c.in_default.ensures)

pub returns-in_default-entry : goal.returns-in_default-entry
returns-in_default-entry c =
    let a = c.args in
    rw c.get.ensures.value
    (record {
      said = happened_said (events.ForkPage a.proc a.child_no c.in-Some.page);
      tells = c.page_done.ensures;
      ends = refl;
      is_so =
          passed (frames_of a.frames.now) (space_of a.parent.now) (space_of a.child.now) a.head.now.actor a.proc a.child_no a.from c.in-Some.page (sym c.in-Some.ensures)
          (sym c.in_default-entry.ensures);
    })

pub returns : goal.returns
returns c =
    c.count_turn.ensures c.args.proc c.args.child_no c.args.from c.args.child.now c.in-Some-entry.entry (sym c.in-Some.ensures) (sym c.in-Some-entry.ensures) refl
