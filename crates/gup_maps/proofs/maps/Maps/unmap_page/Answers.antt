use Rattle.gup_maps.proofs.maps.Maps.unmap_page.Goals as goal

pub returns-clause-right : goal.returns-clause-right
returns-clause-right c = rw (← c.self.view_is) c.remove.ensures.at
