use Rattle.std.proofs.Common.{sym, ◌∙◌}
use Rattle.gup_space.specs.Space.{SpaceParts}
use Rattle.gup_spec_turns.specs.PinTurns.{get_turn}
use Rattle.gup_op_base.specs.declared.jobs.JobPlace.TheVariants.{Unbegun}
use Rattle.gup_op_base.specs.Said.{whats_of}
use Rattle.gup_op_base.specs.Turns.{IsTurnOf, Anywhere}
use Rattle.gup_op_pins.specs.Pins.{ShowsPinning, pinning_view}
use Rattle.gup_op_tables.proofs.Replaced.{was_there, now_there}
use Rattle.gup_op_turns.proofs.Parting.{two}
use Rattle.gup_op_turns.proofs.takes.take_get.Goals as goal

pub returns-clause-turn : goal.returns-clause-turn
returns-clause-turn c =
    let a = c.args in
    let actor = a.head.now.actor in
    let told = c.get-2.ensures in
    let spaces = a.parts.now.spaces in
    record {
      said = told.said;
      tells = told.tells;
      ends = told.ends;
      is_so = λ old new taken was is.
          two
          (λ (x y : SpaceParts). IsTurnOf (ShowsPinning actor a.proc) Anywhere
          (pinning_view a.parts.now.frames x a.parts.now.handles taken Unbegun) (pinning_view c.get-2.new.frames y c.get-2.new.handles taken Unbegun)
          (λ s. get_turn s actor a.proc a.handle a.page (s.entry a.proc a.page)) (whats_of told.said))
          _ _ old new
          (sym (was_there spaces.items c.get.result a.proc c.index_mut-space.result.now c.index_mut-space.ensures.value c.get.ensures.value c.requires.there) ∙ was)
          (sym (now_there spaces.items c.get.result a.proc c.get-2.new.space c.get.ensures.value c.requires.there) ∙ is)
          (told.is_so taken);
    }
