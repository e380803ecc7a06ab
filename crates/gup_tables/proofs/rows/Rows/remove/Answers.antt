use Rattle.std.proofs.Common.{◌≡◌, ◌+◌, ◌*◌, ◌-◌, ◌<◌, ◌≤◌, length, get_or, arith, ap, ◌∙◌, ⊎_elim}
use Rattle.std.proofs.lemmas.Bool.{cases_lt}
use Rattle.std.proofs.lemmas.List.{get_or_read}
use Rattle.gup_tables.specs.Rows.{nowhere}
use Rattle.gup_tables.proofs.RowLists.{HasRow, row_has}
use Rattle.gup_tables.proofs.RowRemoved.{IsRemoval, removed_places, removed_words, removed_kept}
use Rattle.gup_tables.proofs.rows.Rows.remove.Goals as goal

own : (c : goal.After-truncate) → HasRow (record { numbers = c.self.inside.numbers.items; places = c.self.inside.places.items; words = c.self.inside.words.items; rows = c.self.inside.rows.items; room = c.self.inside.room }) c.args.table c.row-row.result
own c = row_has _ c.args.table c.row-row.result (rw (← c.self.view_is) at c.row-row.ensures)

removal : (c : goal.After-truncate) → IsRemoval (record { numbers = c.self.inside.numbers.items; places = c.self.inside.places.items; words = c.self.inside.words.items; rows = c.self.inside.rows.items; room = c.self.inside.room }) c.row-row.result c.swap_remove.new.self.items c.swap_remove-2.new.self.items c.truncate.new.self.items
removal c =
    let row = c.row-row.result in
    let numbers = c.swap_remove.ensures.by_index in
    let places = c.swap_remove-2.ensures.by_index in
    let moved = c.copy_within.ensures.by_index in
    let cut = c.truncate.ensures.by_index in
    let few : length c.swap_remove.new.self.items + 1 ≡ length c.self.inside.numbers.items = omega (arith, c.swap_remove.ensures.len) in
    let last : c.len-last.result - 1 ≡ length c.swap_remove.new.self.items = omega (arith, few, c.len-last.ensures) in
    record {
      fewer = few;
      fewer_places = omega (arith, c.swap_remove-2.ensures.len);
      fewer_words = omega (arith, c.truncate.ensures.len, c.copy_within.ensures.len, c.self.invariant.words, last, few);
      moved_number = λ inside. numbers.0 0 (omega (arith, inside, few)) ∙ ap (λ k. get_or c.self.inside.numbers.items k 0) (omega (arith, few));
      same_numbers = λ r away inside. numbers.1 r 0 away (omega (arith, inside, few));
      moved_place = λ inside. places.0 nowhere (omega (arith, inside, few, c.self.invariant.places)) ∙ ap (λ k. get_or c.self.inside.places.items k nowhere) (omega (arith, few, c.self.invariant.places));
      other_places = λ r away inside. places.1 r nowhere away (omega (arith, inside, few, c.self.invariant.places));
      moved_words = λ i inside within.
          cut (512 * row + i) 0 (omega (arith, inside, within, last))
          ∙ moved.0 (512 * row + i) 0 (omega arith) (omega (arith, within))
          ∙ ap (λ k. get_or c.self.inside.words.items k 0) (omega (arith, last));
      other_words = λ r i away inside within.
          cut (512 * r + i) 0 (omega (arith, inside, within, last))
          ∙ ⊎_elim
          (λ (below : r < row). moved.1 (512 * r + i) 0 (omega (arith, below, within)))
          (λ (above : row ≤ r). moved.2 (512 * r + i) 0 (omega (arith, above, away)))
          (cases_lt r row);
    }

-- the number of the table in the last row
last_number : (c : goal.After-truncate) → c.get.result ≡ get_or c.self.inside.numbers.items (length c.swap_remove.new.self.items) 0
last_number c =
    let few : length c.swap_remove.new.self.items + 1 ≡ length c.self.inside.numbers.items = omega (arith, c.swap_remove.ensures.len) in
    let last : c.len-last.result - 1 ≡ length c.swap_remove.new.self.items = omega (arith, few, c.len-last.ensures) in
    let inside : c.len-last.result - 1 < length c.self.inside.numbers.items = omega (arith, few, last) in
    c.get.ensures.value ∙ get_or_read c.self.inside.numbers.items (c.len-last.result - 1) c.index-moved.result.now inside c.index-moved.ensures 0 ∙ ap (λ k. get_or c.self.inside.numbers.items k 0) last

pub invariant_of-self : goal.invariant_of-self
invariant_of-self c =
    rw (last_number c, c.swap_remove.ensures.capacity, c.swap_remove-2.ensures.capacity, c.truncate.ensures.capacity, c.copy_within.ensures.capacity)
    (removed_kept _ c.args.table c.row-row.result _ _ _ _ _ _ c.self.invariant (own c) (removal c))

pub returns-clause-places : goal.returns-clause-places
returns-clause-places c =
    rw (← c.self.view_is, last_number c)
    (removed_places _ c.args.table c.row-row.result _ _ _ _ _ _ c.self.invariant (own c) (removal c))

pub returns-clause-words : goal.returns-clause-words
returns-clause-words c =
    rw (← c.self.view_is, last_number c)
    (removed_words _ c.args.table c.row-row.result _ _ _ _ _ _ c.self.invariant (own c) (removal c) (rw (← c.self.view_is) at c.requires.empty))
