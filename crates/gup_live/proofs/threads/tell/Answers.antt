use Rattle.std.proofs.Common.{rules, sym, subst}
use Rattle.gup_live.specs.Live.{LiveValue, IsLive}
use Rattle.gup_live.proofs.Lives.{live_of}
use Rattle.gup_live.proofs.threads.tell.Goals as goal

pub returns : goal.returns
returns g c =
    let script = g.J.Naming.script in
    subst (λ (live : LiveValue). IsLive script live) (sym c.of.ensures)
    (live_of script _ _ c.in_ok-told.told _ (search rules) (search rules) (search rules) (search rules) (search rules) (search rules))
