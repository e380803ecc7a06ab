use Rattle.std.proofs.Common.{◌∙◌}
use Rattle.gup_fast.proofs.Ends.{last_is}
use Rattle.gup_fast.proofs.walk.Walk.take_dropped.Goals as goal

pub returns-in-Refused-clause-frame : goal.returns-in-Refused-clause-frame
returns-in-Refused-clause-frame c =
    rw (← c.self.view_is)
    (rw c.in-Refused.is (c.pop.ensures.value ∙ last_is c.self.inside.taken.items))
