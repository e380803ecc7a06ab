use Rattle.std.proofs.Common.{◌≡◌, ℕ, ◌==◌, None, Bool, true, if◌then◌else◌, is_some, sym, ap, ◌∙◌}
use Rattle.gup_base.specs.declared.entry.Allowed.{Allowed}
use Rattle.gup_base.specs.declared.entry.Want.{Want}
use Rattle.gup_base.specs.declared.entry.Entry.{Entry}
use Rattle.gup_frames.specs.Frames.{FramesValue, frames_of, free_frame}
use Rattle.gup_space.specs.Space.{SpaceValue, lacking}
use Rattle.gup_space.specs.Found.{found_for}
use Rattle.gup_space.specs.Shows.{ShowsFrames}
use Rattle.gup_spec_events.specs.State.{CoreState}
use Rattle.gup_spec_turns.specs.CoreTurn.{frame_for, zones_of}
use Rattle.gup_spec_turns.specs.PinTurns.{moves_first}
use Rattle.gup_op_base.proofs.Searching.{frame_agrees}
use Rattle.gup_law_mirrors.specs.Invalidated.{copies}
use Rattle.gup_op_mirrors.proofs.changes.changes_entry.Goals as goal

-- the page is copied, where a state shows these frames
copied_in : (F : FramesValue) (s : CoreState) (want : Want) (e : Entry) → ShowsFrames F s → copies want.write e (F.mark e.frame) (F.count e.frame) ≡ true → copies want.write e (s.mark e.frame) (s.count e.frame) ≡ true
copied_in F s want e frames is =
    ap (λ (m : Bool). copies want.write e m (s.count e.frame)) (frames.mark e.frame)
    ∙ ap (copies want.write e (F.mark e.frame)) (frames.count e.frame)
    ∙ is

-- where the page lacks no table, the free frame is found for it
found_free : (F : FramesValue) (space : SpaceValue) (page : ℕ) (allowed : Allowed) → lacking space page ≡ 0 → found_for F space page allowed ≡ free_frame F allowed
found_free F space page allowed path = ap (λ (n : ℕ). if n == 0 then free_frame F allowed else None) path

pub returns-then-copies : goal.returns-then-copies
returns-then-copies c space s p page frames shown path =
    let F : FramesValue = frames_of c.args.frames.now in
    let want : Want = c.args.want in
    let e : Entry = c.args.entry in
    let found = is_some (frame_for s p page (zones_of want)) in
    c.has_free.ensures
    ∙ ap is_some (sym (frame_agrees F space p page (zones_of want) s frames shown ∙ found_free F space page (zones_of want) path))
    ∙ ap (λ (b : Bool). if b then found else moves_first s want e) (sym (copied_in F s want e frames (sym c.copies.ensures ∙ c.if-copies.true)))
