use Rattle.gup_make.proofs.maker.Maker.move_page.Goals as goal

pub returns : goal.returns
returns c = rw (c.draw-zone.ensures.state, c.zone_word.ensures, c.draw-zone.ensures.number, c.draw-page.ensures.number, c.draw-page.ensures.state) at c.on.ensures
