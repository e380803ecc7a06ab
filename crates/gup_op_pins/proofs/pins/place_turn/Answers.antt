use Rattle.std.proofs.Common.{◌≡◌, ℕ, ◌+◌, ◌==◌, Option, Some, None, refl, sym, ap, ◌∙◌, subst}
use Rattle.gup_base.specs.declared.entry.Allowed.TheVariants.{Only}
use Rattle.gup_base.specs.declared.entry.Entry.{Entry}
use Rattle.gup_base.specs.declared.entry.Zone.TheVariants.{Normal}
use Rattle.gup_frames.specs.Frames.{frames_of, free_frame}
use Rattle.gup_space.specs.Space.{space_of}
use Rattle.gup_space.specs.Shows.{change_of}
use Rattle.gup_move.specs.Moves.{with_table}
use Rattle.gup_spec_turns.specs.CoreTurn.{zones_of, entry_in}
use Rattle.gup_op_base.specs.declared.jobs.JobPlace.TheVariants.{Unbegun, Single}
use Rattle.gup_op_base.proofs.Leading.{notes_alike}
use Rattle.gup_op_pins.specs.Pins.{IsMade, IsTaken, pinning_view}
use Rattle.gup_op_pins.proofs.Readying.{ready_placed}
use Rattle.gup_op_pins.proofs.Pinning.{zones_long, places_as, free_one, free_none, placed_frame, page_placed, page_unplaced}
use Rattle.gup_op_pins.proofs.pins.place_turn.Goals as goal

pub take_page-requires-clause-ready : goal.take_page-requires-clause-ready
take_page-requires-clause-ready c =
    let x = c.args in
    let F = frames_of x.frames.now in
    let S = space_of x.space.now in
    let S1 = space_of c.place.new.space in
    let S2 = space_of c.set_table.new.self in
    let found = free_one (free_frame F (Only Normal)) c.is_ok-placed.result (sym c.is_ok-placed.ensures.negation ∙ c.place.ensures.refused) c.if-placed.true in
    let put = c.place.ensures.placed found.0 found.1 in
    ready_placed F (frames_of c.place.new.frames) S S2 x.page found.0 x.call.want x.entry c.requires.cleared found.1 put.0
    (placed_frame S S1 S2 x.page found.0 x.entry.writable put.1 c.set_table.ensures)

pub returns-then-placed : goal.returns-then-placed
returns-then-placed c =
    let x = c.args in
    let a = x.head.now.actor in
    let F = frames_of x.frames.now in
    let F1 = frames_of c.place.new.frames in
    let S = space_of x.space.now in
    let S1 = space_of c.place.new.space in
    let S2 = space_of c.set_table.new.self in
    let found = free_one (free_frame F (Only Normal)) c.is_ok-placed.result (sym c.is_ok-placed.ensures.negation ∙ c.place.ensures.refused) c.if-placed.true in
    let put = c.place.ensures.placed found.0 found.1 in
    let zones = zones_long x.call.want c.requires.cleared.long in
    let frame : (entry_in (S2.entry x.page)).frame ≡ found.0 =
    ap (λ (o : Option Entry). (entry_in o).frame) (placed_frame S S1 S2 x.page found.0 x.entry.writable put.1 c.set_table.ensures) in
    let turn = c.take_page.ensures.tells in
    let old = pinning_view x.frames.now x.space.now x.handles.now x.taken.now.items (Single x.entry x.page) in
    let new = pinning_view c.take_page.new.frames c.take_page.new.space c.take_page.new.handles c.take_page.new.taken.items Unbegun in
    record {
      said = turn.said;
      tells = turn.tells;
      ends = turn.ends;
      is_so = λ far.
          notes_alike turn.is_so
          (λ s shown stands.
          page_placed old new a x.call.proc x.call.handle x.call.page x.call.n x.got far x.page c.requires.here x.call.want x.call.fast x.entry s shown stands found.0 F1 S1 S2 refl (ap (free_frame F) zones ∙ found.1)
          (places_as F (with_table None (change_of x.frames.now c.place.new.frames x.space.now c.place.new.space)) a x.page x.entry (zones_of x.call.want) (Only Normal) (Some found.0) zones found.1 (c.place.ensures.events a))
          c.set_table.ensures (shown.space.has_pinned ∙ c.requires.cleared.pinned)
          (subst (λ (f : ℕ). IsTaken F1 new.frames S2 new.space x.page f) frame c.take_page.ensures.taken)
          (subst (λ (f : ℕ). IsMade (x.got + 1 == x.call.n) old.pins new.pins old.taken new.taken a x.call.handle f x.call.want.write) frame c.take_page.ensures.made) (refl, refl));
    }

pub returns : goal.returns
returns c =
    let x = c.args in
    let a = x.head.now.actor in
    let F = frames_of x.frames.now in
    let none = free_none (free_frame F (Only Normal)) c.is_ok-placed.result (sym c.is_ok-placed.ensures.negation ∙ c.place.ensures.refused) c.if-placed.false in
    let back = c.place.ensures.restored none in
    let zones = zones_long x.call.want c.requires.cleared.long in
    let turn = c.end_pin.ensures.tells in
    let old = pinning_view x.frames.now x.space.now x.handles.now x.taken.now.items (Single x.entry x.page) in
    let new = pinning_view c.place.new.frames c.set_table.new.self c.end_pin.new.handles c.end_pin.new.taken.items Unbegun in
    let events = places_as F (with_table None (change_of x.frames.now c.place.new.frames x.space.now c.place.new.space)) a x.page x.entry (zones_of x.call.want) (Only Normal) None zones none (c.place.ensures.events a) in
    record {
      said = turn.said;
      tells = turn.tells;
      ends = turn.ends;
      is_so = λ far.
          notes_alike turn.is_so
          (λ s shown stands.
          page_unplaced old new a x.call.proc x.call.handle x.call.page x.call.n x.got far x.page c.requires.here x.call.want x.call.fast x.entry s shown stands (space_of c.place.new.space) refl (ap (free_frame F) zones ∙ none)
          (λ t p frames space. let led = events t p frames space in (rw (sym back.0) led.0, led.1)) back.0 c.set_table.ensures c.end_pin.ensures.ended (refl, refl));
    }
