use Rattle.std.proofs.Common.{refl}
use Rattle.gup_space.specs.Space.{space_of}
use Rattle.gup_spec_events.specs.State.{more}
use Rattle.gup_spec_turns.specs.CoreTurn.{zones_of}
use Rattle.gup_op_base.specs.declared.jobs.JobPlace.TheVariants.{Unbegun, Shared}
use Rattle.gup_op_base.proofs.Leading.{notes_alike}
use Rattle.gup_op_pins.specs.Pins.{pinning_view}
use Rattle.gup_op_pins.proofs.Pinning.{page_restored}
use Rattle.gup_op_pins.proofs.pins.restore_turn.Goals as goal

pub returns : goal.returns
returns c =
    let x = c.args in
    let a = x.head.now.actor in
    let turn = c.end_pin.ensures.tells in
    let old = pinning_view x.frames.now x.space.now x.handles.now x.taken.now.items (Shared x.entry x.page x.count) in
    let new = pinning_view x.frames.now c.set_table.new.self c.end_pin.new.handles c.end_pin.new.taken.items Unbegun in
    record {
      said = turn.said;
      tells = turn.tells;
      ends = turn.ends;
      is_so = λ far.
          notes_alike turn.is_so
          (λ s shown stands.
          page_restored old new a x.call.proc x.call.handle x.call.page x.call.n x.got far x.page c.requires.here x.call.want x.call.fast x.entry s shown stands x.count (space_of c.restore.new.space) refl
          (c.restore.ensures.events a x.frames.now (zones_of x.call.want) (more x.count)) refl c.set_table.ensures c.end_pin.ensures.ended (refl, refl));
    }
