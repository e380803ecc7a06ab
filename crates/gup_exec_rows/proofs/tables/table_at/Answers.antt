use Rattle.std.proofs.Common.{◌≡◌, ℕ, true, Option, Some, sym, ap, ◌∙◌, arith}
use Rattle.gup_bits.proofs.Lowest.{lowest_is, lowest_none}
use Rattle.gup_spec_tables.specs.declared.place.Place.{Place}
use Rattle.gup_spec_tables.specs.Tables.{table_numbers, is_at}
use Rattle.gup_exec_rows.specs.Grid.{found}
use Rattle.gup_exec_rows.proofs.tables.table_at.Goals as goal

pub returns-then-stands : goal.returns-then-stands
unfolding table_numbers
returns-then-stands c =
    let test = c.loop-k-test.true in
    let places = found c.args.places.now c.args.p in
    let there = c.get.ensures ∙ ap places (c.number.ensures ∙ c.table.ensures) in
    let stands : is_at c.args.place (places c.loop-k.k) ≡ true = sym (c.is_at-stands.ensures ∙ ap (λ (o : Option Place). is_at c.args.place o) there) ∙ c.if-stands.true in
    ap (λ (n : ℕ). Some n) c.table-then-stands.ensures
    ∙ sym (lowest_is 0 8192 (λ t. is_at c.args.place (places t)) c.loop-k.k (omega arith) (omega arith) stands (λ j h l. c.loop-k.invariant j l))

pub returns : goal.returns
unfolding table_numbers
returns c =
    let end = c.loop-k-test.false in
    sym (lowest_none 0 8192 (λ t. is_at c.args.place (found c.args.places.now c.args.p t)) (λ j h l. c.loop-k.invariant j (omega (arith, l, end))))
