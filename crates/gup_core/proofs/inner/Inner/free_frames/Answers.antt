use Rattle.std.proofs.Common.{subst, sym, ◌∙◌}
use Rattle.gup_frames.specs.Frames.{frames_of}
use Rattle.gup_core.specs.Machine.{MachineValue, Shows}
use Rattle.gup_core.proofs.FreeFrames.{free_shown}
use Rattle.gup_core.proofs.inner.Inner.free_frames.Goals as goal

pub returns : goal.returns
returns c r shown =
    let i = c.self.inside in
    let here = subst (λ (m : MachineValue). Shows m r) (sym c.self.view_is) shown in
    c.free.ensures ∙ free_shown (frames_of i.parts.frames) r.core c.args.zone here.parts.frames
