use Rattle.std.proofs.Common.{◌≡◌, ℕ, ◌+◌, ◌==◌, ◌&&◌, refl, sym, ap, subst, ◌∙◌, length}
use Rattle.gup_frames.specs.Frames.{frames_of}
use Rattle.gup_space.specs.Space.{space_of}
use Rattle.gup_op_base.specs.Jobs.{place_of}
use Rattle.gup_op_base.specs.Said.{whats_of}
use Rattle.gup_op_base.proofs.Leading.{notes_alike}
use Rattle.gup_op_base.specs.declared.jobs.JobPlace.{JobPlace as KeptPlace}
use Rattle.gup_spec_events.specs.Event.{counted_as}
use Rattle.gup_spec_turns.specs.JobPlace.{moving_page}
use Rattle.gup_op_pins.specs.Pins.{IsPinTurn, IsReadyToPin, pinning_view}
use Rattle.gup_op_pins.proofs.Pinning.{page_counted}
use Rattle.gup_op_pins.proofs.WalkTurning.{begins_both, is_unbegun}
use Rattle.gup_op_pins.proofs.pins.pin.Goals as goal

pub returns-then-far-eq0 : goal.returns-then-far-eq0
returns-then-far-eq0 c =
    let x = c.args in
    let turn = c.begin_turn.ensures in
    let many = length x.taken.now.items in
    let none = is_unbegun x.place (frames_of x.frames.now) (space_of x.space.now) x.taken.now.items _ x.call.n x.call.want _ c.requires.ready
    c.in_default.not-Walking c.in_default-place.not-Cleared c.in_default-place.not-Single c.in_default-place.not-Shared in
    record {
      said = turn.said;
      tells = turn.tells;
      ends = turn.ends;
      is_so =
          subst (λ (k : KeptPlace). IsPinTurn x.head.now.actor x.call many x.far (pinning_view x.frames.now x.space.now x.handles.now x.taken.now.items k) (pinning_view x.frames.now c.begin_turn.new.space x.handles.now x.taken.now.items c.begin_turn.result) (whats_of turn.said))
          (sym none) (turn.is_so x.frames.now x.handles.now x.taken.now.items many x.far (begins_both x.call.fast x.far c.if-call.true c.if-far-eq0.true));
    }

-- the count of the frame whose entry was cleared is read
pub returns-in-Cleared : goal.returns-in-Cleared
returns-in-Cleared c =
    let x = c.args in
    let a = x.head.now.actor in
    let turn = c.count_turn.ensures.tells in
    let got = length x.taken.now.items in
    let is = c.in-Cleared.is in
    let old = pinning_view x.frames.now x.space.now x.handles.now x.taken.now.items x.place in
    let new = pinning_view x.frames.now x.space.now x.handles.now x.taken.now.items c.count_turn.result in
    let here : c.in-Cleared.page ≡ x.call.page + got =
    (subst (λ (k : KeptPlace). IsReadyToPin (frames_of x.frames.now) x.taken.now.items (x.call.page + got) x.call.n x.call.want (x.call.fast && x.far == 0) (place_of k) (space_of x.space.now)) is c.requires.ready).0 in
    let behind : c.page_behind-here.result ≡ c.in-Cleared.page =
    c.page_behind-here.ensures ∙ ap (λ (k : ℕ). x.call.page + k) (c.from.ensures ∙ c.len-got.ensures.value) ∙ sym here in
    record {
      said = turn.said;
      tells = turn.tells;
      ends = turn.ends;
      is_so =
          notes_alike (ap whats_of turn.is_so)
          (λ s shown stands.
          page_counted old new a x.call.proc x.call.handle x.call.page x.call.n got x.far c.in-Cleared.page here x.call.want x.call.fast c.in-Cleared.entry s shown stands
          (ap place_of is) refl refl refl refl
          (c.count_turn.ensures.place ∙ ap (λ (g : ℕ). moving_page g c.in-Cleared.entry (counted_as ((frames_of x.frames.now).count c.in-Cleared.entry.frame))) behind, c.count_turn.ensures.last));
    }
