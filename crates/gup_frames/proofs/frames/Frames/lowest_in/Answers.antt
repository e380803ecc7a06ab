use Rattle.std.proofs.Common.{◌≡◌, ◌∙◌, arith, subst}
use Rattle.gup_base.specs.declared.entry.Allowed.TheVariants.{Only}
use Rattle.gup_frames.specs.Frames.{FrameLists, frames_of, free_frame}
use Rattle.gup_frames.proofs.Keeps.{lowest_free_is}
use Rattle.gup_frames.proofs.frames.Frames.lowest_in.Goals as goal

pub returns-in-Movable : goal.returns-in-Movable
returns-in-Movable c =
    subst (λ (l : FrameLists). c.lowest.result ≡ free_frame (frames_of l) (Only c.args.zone)) c.self.view_is
    (rw c.in-Movable.is (c.lowest.ensures ∙ lowest_free_is _ _ _ _ _ c.self.invariant 0 c.self.inside.movable (omega arith)))

pub returns-in-Normal : goal.returns-in-Normal
returns-in-Normal c =
    subst (λ (l : FrameLists). c.lowest-in-Normal.result ≡ free_frame (frames_of l) (Only c.args.zone)) c.self.view_is
    (rw c.in-Normal.is (c.lowest-in-Normal.ensures ∙ lowest_free_is _ _ _ _ _ c.self.invariant c.self.inside.movable c.self.inside.normal (omega arith)))
