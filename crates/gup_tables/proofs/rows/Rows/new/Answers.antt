use Rattle.std.proofs.Common.{◌≡◌, None, length, refl, arith}
use Rattle.std.proofs.Math.Path.{fun_ext}
use Rattle.gup_tables.specs.Rows.{RowLists, place_in, word_in}
use Rattle.gup_tables.proofs.RowLists.{no_row}
use Rattle.gup_tables.proofs.rows.Rows.new.Goals as goal

pub invariant_of-result : goal.invariant_of-result
invariant_of-result c = record {
  few = c.requires;
  within = omega (arith, c.in_ok-with_capacity.ensures.len);
  places = omega (arith, c.in_ok-with_capacity.ensures.len, c.in_ok-with_capacity-2.ensures.len);
  words = omega (arith, c.in_ok-with_capacity.ensures.len, c.in_ok-with_capacity-3.ensures.len);
  rows = omega (arith, c.in_ok-vec.ensures.len);
  known = λ r inside. absurd (omega (arith, inside, c.in_ok-with_capacity.ensures.len));
  numbered = λ r inside. absurd (omega (arith, inside, c.in_ok-with_capacity.ensures.len));
  numbers_room = c.in_ok-with_capacity.ensures.capacity;
  places_room = c.in_ok-with_capacity-2.ensures.capacity;
  words_room = c.in_ok-with_capacity-3.ensures.capacity;
}

module _ (l : RowLists) (none : length l.numbers ≡ 0) where
  no_places : place_in l ≡ (λ _. None)
  no_places = fun_ext (λ table. rw (no_row l table (λ r h. omega (arith, h.within, none))) refl)

  no_words : word_in l ≡ (λ _ _. 0)
  no_words = fun_ext (λ table. fun_ext (λ i. rw (no_row l table (λ r h. omega (arith, h.within, none))) refl))

pub returns-clause-places : goal.returns-clause-places
returns-clause-places c =
    let none : length c.in_ok-with_capacity.field-0.items ≡ 0 = omega (arith, c.in_ok-with_capacity.ensures.len) in
    no_places (record { numbers = c.in_ok-with_capacity.field-0.items; places = c.in_ok-with_capacity-2.field-0.items; words = c.in_ok-with_capacity-3.field-0.items; rows = c.in_ok-vec.field-0.items; room = c.args.room }) none

pub returns-clause-words : goal.returns-clause-words
returns-clause-words c =
    let none : length c.in_ok-with_capacity.field-0.items ≡ 0 = omega (arith, c.in_ok-with_capacity.ensures.len) in
    no_words (record { numbers = c.in_ok-with_capacity.field-0.items; places = c.in_ok-with_capacity-2.field-0.items; words = c.in_ok-with_capacity-3.field-0.items; rows = c.in_ok-vec.field-0.items; room = c.args.room }) none
