use Rattle.std.proofs.Common.{refl, sym, ◌∙◌}
use Rattle.std.specs.Vec.{with_item}
use Rattle.gup_space.specs.Space.{SpaceParts}
use Rattle.gup_spec_turns.specs.MoveTurns.{move_turn}
use Rattle.gup_op_base.specs.Jobs.{place_of}
use Rattle.gup_op_base.specs.Said.{whats_of}
use Rattle.gup_op_base.specs.Turns.{IsTurnOf}
use Rattle.gup_op_move.specs.Moving.{ShowsMoving, StandsAsMove, moving_view}
use Rattle.gup_op_waits.specs.declared.parts.Parts.{Parts}
use Rattle.gup_op_turns.proofs.Moving.{moved}
use Rattle.gup_op_tables.proofs.Replaced.{was_there, now_there, other_there}
use Rattle.gup_op_turns.proofs.Parting.{set_length, two}
use Rattle.gup_op_turns.proofs.takes.move_page.Goals as goal

pub returns-clause-turn : goal.returns-clause-turn
returns-clause-turn c =
    let a = c.args in
    let actor = a.head.now.actor in
    let told = c.take_move.ensures in
    let spaces = a.parts.now.spaces in
    let new : Parts =
    record {
      frames = c.take_move.new.frames;
      spaces = with_item spaces c.get.result c.take_move.new.space;
      births = a.parts.now.births;
      handles = a.parts.now.handles;
      taken = a.parts.now.taken;
      stores = a.parts.now.stores;
    } in
    record {
      said = told.said;
      tells = told.tells;
      ends = c.is_over.ensures ∙ told.ends;
      is_so = λ q slots k rest left.
          moved a.parts.now new actor a.proc q slots 0 a.page a.zone a.job.now c.take_move.result (whats_of told.said)
          c.requires.there (set_length spaces.items c.get.result c.take_move.new.space) refl refl refl refl
          (λ b other. other_there spaces.items c.get.result b c.take_move.new.space (λ same. other (same ∙ c.get.ensures.value)))
          (λ was now was_is is.
          two
          (λ (x y : SpaceParts). IsTurnOf (ShowsMoving actor a.proc) (StandsAsMove actor a.proc a.page a.zone) (moving_view a.parts.now.frames x (place_of a.job.now)) (moving_view new.frames y (place_of c.take_move.result))
          (λ s. move_turn s actor a.proc a.page a.zone (s.job actor)) (whats_of told.said))
          _ _ was now
          (sym (was_there spaces.items c.get.result a.proc c.index_mut-space.result.now c.index_mut-space.ensures.value c.get.ensures.value c.requires.there) ∙ was_is)
          (sym (now_there spaces.items c.get.result a.proc c.take_move.new.space c.get.ensures.value c.requires.there) ∙ is)
          (told.is_so a.proc))
          k rest left refl;
    }
