use Rattle.std.proofs.Common.{sym, ◌∙◌}
use Rattle.std.proofs.lemmas.Bool.{false≢true}
use Rattle.gup_maps.proofs.maps.Maps.map.Goals as goal

pub returns-in_default-clause-full : goal.returns-in_default-clause-full
returns-in_default-clause-full c =
    let taken = rw c.self.view_is at c.in_default.ensures in
    (λ e. absurd (cc), λ h. absurd (false≢true (sym h.0 ∙ taken)))

pub returns-then-n-len-clause-overlap : goal.returns-then-n-len-clause-overlap
returns-then-n-len-clause-overlap c =
    let free = rw c.self.view_is at c.in-Some.ensures.0 in
    (λ e. absurd (cc), λ taken. absurd (false≢true (sym free ∙ taken)))

pub returns-clause-overlap : goal.returns-clause-overlap
returns-clause-overlap c =
    let free = rw c.self.view_is at c.in-Some.ensures.0 in
    (λ e. absurd (cc), λ taken. absurd (false≢true (sym free ∙ taken)))

pub returns-clause-right : goal.returns-clause-right
returns-clause-right c = rw (← c.self.view_is) c.insert_at.ensures.at
