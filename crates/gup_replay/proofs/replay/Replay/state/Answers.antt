use Rattle.std.proofs.Common.{Bool, sym, subst, MatchBool}
use Rattle.gup_replay.specs.Beside.{AreOfCore, HasTaken, IsReplay, ReplayValue}
use Rattle.gup_replay.proofs.replay.Replay.state.Goals as goal

pub returns : goal.returns
returns c script turns replay =
    let m = c.self.inside.machine in
    let here = subst (λ (v : ReplayValue). IsReplay script turns v) (sym c.self.view_is) replay in
    let taken = subst (λ (b : Bool). MatchBool b (HasTaken script turns m) (AreOfCore script turns → ⊥)) c.if-not-self.false here.beside in
    (taken.core, (m, here.same, taken.shown, c.in_ok-image.ensures))
