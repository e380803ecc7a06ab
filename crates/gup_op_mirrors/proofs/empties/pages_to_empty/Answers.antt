use Rattle.std.proofs.Common.{◌≡◌, ℕ, length, slice_get, Some, sym, ap, ◌∙◌}
use Rattle.arrayvec.specs.ArrayVec.{ArrayVec}
use Rattle.gup_op_mirrors.proofs.EmptiedSlots.{length_frames, element_there}
use Rattle.gup_op_mirrors.proofs.empties.pages_to_empty.Goals as goal

pub invalidated-requires-clause-tidy : goal.invalidated-requires-clause-tidy
invalidated-requires-clause-tidy c = c.requires.tidy c.args.proc c.space_at-space.result.now c.space_at-space.ensures

pub returns : goal.returns
returns c s slots k q g shown far place at some =
    let a = c.args.actor in
    let pages : (x : ArrayVec ℕ) × (slice_get c.args.parts.now.taken.items a ≡ Some x) = element_there c.args.parts.now.taken.items a c.requires.actor in
    let got : c.pages_taken-got.result ≡ length (s.taken a) =
    c.pages_taken-got.ensures pages.0 pages.1 ∙ ap length (sym (shown.taken a pages.0 pages.1)) ∙ length_frames (s.taken a) in
    c.invalidated.ensures s a slots k shown.frames (shown.spaces c.args.proc c.space_at-space.result.now c.space_at-space.ensures)
    (c.child_at-child.ensures s shown.spaces) place got far at q g some
