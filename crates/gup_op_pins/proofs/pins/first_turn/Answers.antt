use Rattle.std.proofs.Common.{None, Some, refl, sym, ap, ◌∙◌}
use Rattle.gup_frames.specs.Frames.{frames_of}
use Rattle.gup_space.specs.Space.{space_of}
use Rattle.gup_plain.specs.declared.answer.Answer.{Answer}
use Rattle.gup_fault.specs.Refused.{answer_of}
use Rattle.gup_spec_turns.specs.CoreTurn.{zones_of}
use Rattle.gup_op_base.specs.Said.{silent_said}
use Rattle.gup_op_base.specs.declared.jobs.JobPlace.TheVariants.{Unbegun, Cleared}
use Rattle.gup_op_base.proofs.Leading.{notes_alike}
use Rattle.gup_op_pins.specs.Pins.{pinning_view, ended_whats}
use Rattle.gup_op_pins.proofs.Readying.{ready_long}
use Rattle.gup_op_pins.proofs.Pinning.{raised_tidy, fault_at, page_pinned, page_cleared, page_denied}
use Rattle.gup_op_pins.proofs.pins.first_turn.Goals as goal

pub ready-requires-clause-tidy : goal.ready-requires-clause-tidy
ready-requires-clause-tidy c =
    rw c.raise_flag.ensures (raised_tidy (frames_of c.args.frames.now) (space_of c.args.space.now) c.args.got c.args.call.fast c.requires.tidy)

pub take_page-over-requires-clause-ready : goal.take_page-over-requires-clause-ready
take_page-over-requires-clause-ready c =
    ready_long (frames_of c.ready.new.frames) (space_of c.ready.new.space) c.args.page c.args.call.want c.in-Ok.ensures.ready
    (sym c.moves_first.ensures ∙ c.if-moves_first.false)

pub returns-then-moves_first : goal.returns-then-moves_first
returns-then-moves_first c =
    let x = c.args in
    let a = x.head.now.actor in
    let F = frames_of x.frames.now in
    let F1 = frames_of c.ready.new.frames in
    let S = space_of x.space.now in
    let S1 = space_of c.raise_flag.new.space in
    let S2 = space_of c.ready.new.space in
    let old = pinning_view x.frames.now x.space.now x.handles.now x.taken.now.items Unbegun in
    let new = pinning_view c.ready.new.frames c.set_table.new.self x.handles.now x.taken.now.items (Cleared c.clear-entry.result x.page) in
    record {
      said = silent_said;
      tells = c.silent.ensures;
      ends = refl;
      is_so = λ far slow s shown stands.
          page_cleared old new F1 S2 a x.call.proc x.call.handle x.call.page x.call.n x.got far x.page c.requires.here x.call.want x.call.fast slow c.requires.table refl s shown stands
          (fault_at F F1 S S1 S2 x.page x.got x.call.fast x.call.want None c.raise_flag.ensures c.in-Ok.ensures.fault)
          c.clear-entry.result (space_of c.clear-entry.new.space) (sym c.moves_first.ensures ∙ c.if-moves_first.true) c.clear-entry.ensures.entry
          (c.clear-entry.ensures.events a c.ready.new.frames (zones_of x.call.want)) refl c.set_table.ensures refl refl (refl, refl);
    }

pub returns-else-moves_first : goal.returns-else-moves_first
returns-else-moves_first c =
    let x = c.args in
    let a = x.head.now.actor in
    let F = frames_of x.frames.now in
    let F1 = frames_of c.ready.new.frames in
    let S = space_of x.space.now in
    let S1 = space_of c.raise_flag.new.space in
    let S2 = space_of c.ready.new.space in
    let turn = c.take_page-over.ensures.tells in
    let old = pinning_view x.frames.now x.space.now x.handles.now x.taken.now.items Unbegun in
    let new = pinning_view c.take_page-over.new.frames c.take_page-over.new.space c.take_page-over.new.handles c.take_page-over.new.taken.items Unbegun in
    record {
      said = turn.said;
      tells = turn.tells;
      ends = turn.ends;
      is_so = λ far slow.
          notes_alike turn.is_so
          (λ s shown stands.
          page_pinned old new F1 S2 a x.call.proc x.call.handle x.call.page x.call.n x.got far x.page c.requires.here x.call.want x.call.fast slow c.requires.table refl s shown stands
          (fault_at F F1 S S1 S2 x.page x.got x.call.fast x.call.want None c.raise_flag.ensures c.in-Ok.ensures.fault)
          (sym c.moves_first.ensures ∙ c.if-moves_first.false) c.take_page-over.ensures.taken c.take_page-over.ensures.made (refl, refl));
    }

pub returns-in-Err : goal.returns-in-Err
returns-in-Err c =
    let x = c.args in
    let a = x.head.now.actor in
    let F = frames_of x.frames.now in
    let F1 = frames_of c.ready.new.frames in
    let S = space_of x.space.now in
    let S1 = space_of c.raise_flag.new.space in
    let S2 = space_of c.ready.new.space in
    let turn = c.end_pin.ensures.tells in
    let answer : Answer = answer_of c.in-Err.denied in
    let old = pinning_view x.frames.now x.space.now x.handles.now x.taken.now.items Unbegun in
    let new = pinning_view c.ready.new.frames c.ready.new.space c.end_pin.new.handles c.end_pin.new.taken.items Unbegun in
    record {
      said = turn.said;
      tells = turn.tells;
      ends = turn.ends;
      is_so = λ far slow.
          notes_alike (turn.is_so ∙ ap (ended_whats a x.call.handle x.call.n x.got) c.answer_of.ensures)
          (λ s shown stands.
          page_denied old new F1 S2 a x.call.proc x.call.handle x.call.page x.call.n x.got far x.page c.requires.here x.call.want x.call.fast slow c.requires.table refl s shown stands answer
          (fault_at F F1 S S1 S2 x.page x.got x.call.fast x.call.want (Some answer) c.raise_flag.ensures c.in-Err.ensures.fault)
          refl refl c.end_pin.ensures.ended (refl, refl));
    }
