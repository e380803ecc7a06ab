use Rattle.gup_page_tables.proofs.tests.touches.Goals as goal

pub returns : goal.returns
returns g c = rw c.set_entry.ensures (record { room = c.requires.room; own = c.requires.own })
