use Rattle.std.proofs.Common.{◌≡◌, ℕ, List, Option, refl, sym, ◌∙◌}
use Rattle.gup_spec_turns.specs.DeviceTurns.{transfer_turn}
use Rattle.gup_op_devices.specs.Transfers.{IsWhole}
use Rattle.gup_op_pins.specs.Held.{ShowsHeld, held_view, slots_in}
use Rattle.gup_op_base.specs.Said.{whats_of}
use Rattle.gup_op_base.specs.Turns.{IsTurnOf}
use Rattle.gup_op_tables.proofs.Replaced.{was_there, now_there, other_there, kept_at}
use Rattle.gup_op_turns.proofs.Parting.{two}
use Rattle.gup_op_turns.proofs.takes.take_transfer.Goals as goal

pub returns-clause-others : goal.returns-clause-others
returns-clause-others c b other =
    other_there c.args.parts.now.stores.items c.get.result b c.transfer.new.store (λ same. other (same ∙ c.get.ensures.value))

pub returns-clause-slots : goal.returns-clause-slots
returns-clause-slots c =
    kept_at (λ (x y : Option (List ℕ)). slots_in y ≡ slots_in x) c.args.parts.now.stores.items c.get.result c.args.head.now.actor c.index_mut.result.now c.transfer.new.store
    c.index_mut.ensures.value c.get.ensures.value c.requires.actor (λ x. refl) c.transfer.ensures.slots

pub returns-clause-turn : goal.returns-clause-turn
returns-clause-turn c =
    let a = c.args in
    let actor = a.head.now.actor in
    let told = c.transfer.ensures.turn in
    let stores = a.parts.now.stores in
    record {
      said = told.said;
      tells = told.tells;
      ends = told.ends;
      is_so = λ old new was_is is.
          two
          (λ (x y : Option (List ℕ)). IsTurnOf (ShowsHeld actor) (λ s. IsWhole s actor a.handle) (held_view a.parts.now.frames a.parts.now.handles x) (held_view c.transfer.new.frames a.parts.now.handles y)
          (λ s. transfer_turn s actor (slots_in x) a.handle a.outward a.slot a.moved.now a.far) (whats_of told.said))
          _ _ old new
          (sym (was_there stores.items c.get.result actor c.index_mut.result.now c.index_mut.ensures.value c.get.ensures.value c.requires.actor) ∙ was_is)
          (sym (now_there stores.items c.get.result actor c.transfer.new.store c.get.ensures.value c.requires.actor) ∙ is)
          told.is_so;
    }
