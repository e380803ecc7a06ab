use Rattle.std.proofs.Common.{◌+◌, ap, ◌∙◌, refl}
use Rattle.gup_space.specs.Space.{SpaceValue}
use Rattle.gup_op_base.specs.Said.{silent_said}
use Rattle.gup_op_base.specs.declared.jobs.JobPlace.TheVariants.{Unbegun, Walking}
use Rattle.gup_op_base.specs.declared.jobs.WalkPlace.TheVariants.{Entered}
use Rattle.gup_op_pins.specs.Pins.{pinning_view}
use Rattle.gup_op_pins.proofs.WalkTurning.{walk_begins}
use Rattle.gup_op_pins.proofs.walks.begin_turn.Goals as goal

pub returns : goal.returns
returns c =
    let x = c.args in
    record {
      said = silent_said;
      tells = c.silent.ensures;
      ends = refl;
      is_so = λ frames handles taken many far begins.
          walk_begins (pinning_view frames x.space.now handles taken Unbegun) (pinning_view frames c.enter.new.self handles taken (Walking Entered x.call.page 0))
          x.head.now.actor x.call.proc x.call.handle x.call.page x.call.n many far x.call.want x.call.fast begins refl refl
          (c.enter.ensures ∙ ap (λ (x : SpaceValue). record x { walks = x.walks + 1 }) c.set_pinned.ensures) refl refl refl refl;
    }
