use Rattle.std.proofs.Common.{rules, ◌≡◌, length, arith}
use Rattle.gup_tables.proofs.RowLists.{unplaced_row}
use Rattle.gup_tables.proofs.RowInserted.{inserted_places, inserted_words}
use Rattle.gup_tables.proofs.rows.Rows.insert.Goals as goal

pub returns-clause-places : goal.returns-clause-places
returns-clause-places c =
    let absent = rw (← c.self.view_is) at c.requires.absent in
    let by = c.resize.ensures.by_index in
    let len : c.len-row.result ≡ length c.self.inside.numbers.items = omega (arith, c.len-row.ensures) in
    rw (← c.self.view_is, c.push_reserved.ensures.items, c.push_reserved-2.ensures.items, c.get.ensures.value, len)
    (inserted_places _ c.args.table c.args.place c.resize.new.self.items _ _ _ c.self.invariant (search rules)
    (λ r h. unplaced_row _ c.args.table r absent h)
    (λ k below. by.0 k 0 (omega (arith, c.len-row.ensures)) (omega (arith, c.self.invariant.words)))
    (λ k behind within. by.1 k 0 (search rules) (omega (arith, c.self.invariant.words)) (omega (arith, c.len-row.ensures))))

pub returns-clause-words : goal.returns-clause-words
returns-clause-words c =
    let absent = rw (← c.self.view_is) at c.requires.absent in
    let by = c.resize.ensures.by_index in
    let len : c.len-row.result ≡ length c.self.inside.numbers.items = omega (arith, c.len-row.ensures) in
    rw (← c.self.view_is, c.push_reserved.ensures.items, c.push_reserved-2.ensures.items, c.get.ensures.value, len)
    (inserted_words _ c.args.table c.args.place c.resize.new.self.items _ _ _ c.self.invariant (search rules)
    (λ r h. unplaced_row _ c.args.table r absent h)
    (λ k below. by.0 k 0 (omega (arith, c.len-row.ensures)) (omega (arith, c.self.invariant.words)))
    (λ k behind within. by.1 k 0 (search rules) (omega (arith, c.self.invariant.words)) (omega (arith, c.len-row.ensures))))
