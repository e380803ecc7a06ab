use Rattle.std.proofs.Common.{◌<◌, refl, arith}
use Rattle.gup_plain.specs.declared.event.PlainEvent.TheVariants as events
use Rattle.gup_fork.specs.Forks.{fork_change_of}
use Rattle.gup_op_base.specs.Said.{happened_said}
use Rattle.gup_op_fork.proofs.Copying.{word_turned}
use Rattle.gup_op_fork.proofs.forks.word_turn.Goals as goal

pub returns : goal.returns
returns c =
    let x = c.args in
    let less : x.word < 512 = omega arith in
    record {
      said = happened_said (events.ForkWord x.proc x.child_no x.page x.word);
      tells = c.happened.ensures.says;
      ends = refl;
      is_so = λ child.
          word_turned (fork_change_of x.frames.now c.copy_word.new.frames x.parent.now x.parent.now child child)
          x.head.now.actor x.proc x.child_no x.page x.word x.to x.word refl less c.requires.entry
          (λ done e entry. c.copy_word.ensures.events x.head.now.actor done child e entry);
    }
