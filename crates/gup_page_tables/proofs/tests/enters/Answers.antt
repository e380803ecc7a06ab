use Rattle.gup_page_tables.proofs.tests.enters.Goals as goal

pub returns : goal.returns
returns g c = rw c.enter.ensures (record { room = c.requires.room; own = c.requires.own })
