use Rattle.gup_maps.proofs.maps.Maps.protect.Goals as goal

pub returns-clause-right : goal.returns-clause-right
returns-clause-right c = rw (← c.self.view_is) c.if-not-replace.ensures.at
