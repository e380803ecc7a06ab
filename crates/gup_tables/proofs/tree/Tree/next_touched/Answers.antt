use Rattle.std.proofs.Common.{◌≤◌, ◌<◌, ◌^◌, length, ⊎_elim, arith}
use Rattle.std.proofs.lemmas.Bool.{cases_lt}
use Rattle.gup_tables.specs.Rows.{place_in, word_in}
use Rattle.gup_tables.proofs.Touched.{no_entry_past}
use Rattle.gup_tables.proofs.tree.Tree.next_touched.Goals as goal

pub returns : goal.returns
returns c =
    let rows = c.self.inside.rows in
    λ g more.
    ⊎_elim
    (λ (page : g < 2 ^ 35). c.loop-next.invariant.none g more (omega (arith, page, c.loop-next-test.false)))
    (λ (past : 2 ^ 35 ≤ g). rw (← c.self.view_is) (no_entry_past (place_in rows) (word_in rows) c.self.inside.root c.self.invariant (length rows.numbers) rows.room g past))
    (cases_lt g (2 ^ 35))
