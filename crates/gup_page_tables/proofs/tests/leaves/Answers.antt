use Rattle.gup_page_tables.proofs.tests.leaves.Goals as goal

pub returns : goal.returns
returns g c = rw c.leave.ensures (record { room = c.requires.room; own = c.requires.own })
