use Rattle.std.proofs.Common.{sym, subst}
use Rattle.gup_frames.specs.Frames.{frames_of}
use Rattle.gup_space.specs.Space.{space_of}
use Rattle.gup_spec_turns.specs.JobPlace.{JobPlace, unbegun}
use Rattle.gup_spec_turns.specs.MoveTurns.{move_turn}
use Rattle.gup_op_base.specs.Jobs.{place_of}
use Rattle.gup_op_base.specs.Said.{whats_of}
use Rattle.gup_op_base.specs.Turns.{IsTurnOf}
use Rattle.gup_op_move.specs.Moving.{ShowsMoving, StandsAsMove, moving_view}
use Rattle.gup_op_move.proofs.Moving.{shared_place, first_place}
use Rattle.gup_op_move.proofs.moves.take_move.Goals as goal

pub returns-in-Shared : goal.returns-in-Shared
returns-in-Shared c =
    let x = c.args in
    let turn = c.busy_turn.ensures in
    let place = shared_place (frames_of x.frames.now) (space_of x.space.now) x.page _ c.in-Shared.count c.in-Shared.entry x.place c.in-Shared.is c.requires.ready in
    record {
      said = turn.said;
      tells = turn.tells;
      ends = turn.ends;
      is_so = λ p.
          subst
          (λ (at : JobPlace). IsTurnOf (ShowsMoving x.head.now.actor p) (StandsAsMove x.head.now.actor p x.page x.zone) (moving_view x.frames.now x.space.now at) (moving_view x.frames.now c.busy_turn.new.space unbegun) (λ s. move_turn s x.head.now.actor p x.page x.zone (s.job x.head.now.actor)) (whats_of turn.said))
          (sym place) (turn.is_so p x.zone x.frames.now);
    }

pub returns-in_default : goal.returns-in_default
returns-in_default c =
    let x = c.args in
    let turn = c.first_turn.ensures in
    let place = first_place (frames_of x.frames.now) (space_of x.space.now) x.page x.place c.in_default.not-Cleared c.in_default.not-Single c.in_default.not-Shared c.requires.ready in
    record {
      said = turn.said;
      tells = turn.tells;
      ends = turn.ends;
      is_so = λ p.
          subst
          (λ (at : JobPlace). IsTurnOf (ShowsMoving x.head.now.actor p) (StandsAsMove x.head.now.actor p x.page x.zone) (moving_view x.frames.now x.space.now at) (moving_view x.frames.now c.first_turn.new.space (place_of c.first_turn.result)) (λ s. move_turn s x.head.now.actor p x.page x.zone (s.job x.head.now.actor)) (whats_of turn.said))
          (sym place) (turn.is_so p x.zone x.frames.now);
    }
