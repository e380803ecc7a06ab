use Rattle.std.proofs.Common.{refl, sym, ap, ◌∙◌}
use Rattle.gup_frames.specs.Frames.{frames_of, with_word}
use Rattle.gup_space.specs.Space.{space_of}
use Rattle.gup_spec_turns.specs.CoreTurn.{allows_store, frame_in}
use Rattle.gup_op_base.specs.Said.{stored_said}
use Rattle.gup_op_pages.proofs.Loading.{store_by_entry}
use Rattle.gup_op_pages.proofs.loads.store.Goals as goal

pub returns-in-Some : goal.returns-in-Some
returns-in-Some c =
    let a = c.args in
    let F = frames_of a.frames.now in
    let found = sym c.entry.ensures ∙ c.in-Some.is in
    record {
      said = stored_said a.head.now.actor a.proc a.page a.word a.value;
      tells = c.store_to.ensures.tells;
      ends = refl;
      is_so =
          store_by_entry F (frames_of c.store_to.new.frames) (space_of a.space.now) a.head.now.actor a.proc a.page a.word a.value
          (ap allows_store found ∙ c.if-entry.true) (c.store_to.ensures.frames ∙ ap (λ o. with_word (frame_in o) a.word a.value F) (sym found));
    }
