use Rattle.std.proofs.Common.{refl, arith}
use Rattle.gup_plain.specs.declared.event.PlainEvent.TheVariants as events
use Rattle.gup_frames.specs.Frames.{frames_of}
use Rattle.gup_space.specs.Space.{space_of}
use Rattle.gup_fork.specs.Forks.{fork_change_of, shares}
use Rattle.gup_spec_turns.specs.JobPlace.{at_page}
use Rattle.gup_op_base.specs.Said.{happened_said}
use Rattle.gup_op_fork.proofs.Forking.{share_turned, other_parent}
use Rattle.gup_op_fork.proofs.forks.share_turn.Goals as goal

pub returns : goal.returns
returns c =
    let x = c.args in
    let k = fork_change_of x.frames.now c.share.new.frames x.parent.now c.set_table.new.self x.child.now c.share.new.child in
    rw c.get.ensures.value
    (record {
      said = happened_said (events.ForkPage x.proc x.child_no x.page);
      tells = c.page_done.ensures;
      ends = refl;
      is_so =
          share_turned k x.head.now.actor x.proc x.child_no x.page (omega (arith, c.lacks.ensures, c.if-lacks-gt0.false)) c.requires.ready.0
          (λ done e entry. other_parent (frames_of x.frames.now) (frames_of c.share.new.frames) (space_of x.parent.now) _ (space_of c.set_table.new.self) (space_of x.child.now) (space_of c.share.new.child)
          (λ p d. shares x.head.now.actor p d done x.page e) c.set_table.ensures (c.share.ensures.events x.head.now.actor done e entry));
    })

pub returns-then-lacks-gt0 : goal.returns-then-lacks-gt0
returns-then-lacks-gt0 c = c.fail_turn.ensures (at_page c.args.page) (λ none. omega (arith, c.lacks.ensures, c.if-lacks-gt0.true, none))
