use Rattle.std.proofs.Common.{rules, ◌≡◌, length, sym, subst}
use Rattle.gup_op_base.specs.Said.{whats_of}
use Rattle.gup_op_base.specs.declared.jobs.JobPlace.TheVariants.{Unbegun, Walking}
use Rattle.gup_op_base.specs.declared.jobs.WalkPlace.{WalkPlace}
use Rattle.gup_op_base.specs.declared.jobs.WalkPlace.TheVariants.{Ready}
use Rattle.gup_op_pins.specs.Pins.{IsPinTurn, pinning_view}
use Rattle.gup_op_pins.proofs.walks.walk_turn.Goals as goal

pub returns-then-sequence : goal.returns-then-sequence
returns-then-sequence c =
    let x = c.args in
    let turn = c.all_turn.ensures in
    let is : x.place ≡ Ready = search rules in
    record {
      said = turn.said;
      tells = turn.tells;
      ends = turn.ends;
      is_so = λ far.
          subst (λ (k : WalkPlace). IsPinTurn x.head.now.actor x.call (length x.taken.now.items) far (pinning_view x.frames.now x.space.now x.handles.now x.taken.now.items (Walking k x.page x.sequence)) (pinning_view x.frames.now c.all_turn.new.space c.all_turn.new.handles c.all_turn.new.taken.items Unbegun) (whats_of turn.said))
          (sym is) (turn.is_so x.frames.now far);
    }

pub returns : goal.returns
returns c =
    let turn = c.step_turn-next.ensures in
    record {
      said = turn.said;
      tells = turn.tells;
      ends = turn.ends;
      is_so = λ far. turn.is_so c.args.handles.now far;
    }
