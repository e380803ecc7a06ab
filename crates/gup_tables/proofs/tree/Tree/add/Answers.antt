use Rattle.std.proofs.Common.{◌≡◌, ◌+◌, ◌-◌, ◌/◌, ◌%◌, ◌^◌, ◌<◌, Some, sym, ap, ◌∙◌, rules, arith}
use Rattle.gup_plain.specs.Put.{put, put2}
use Rattle.gup_tables.specs.Kept.{IsLowest}
use Rattle.gup_tables.specs.Rows.{RowLists, place_in, word_in}
use Rattle.gup_spec_tables.specs.Tables.{on_path, lacks, with_table, link_to}
use Rattle.gup_tables.specs.Tree.{tree_of}
use Rattle.gup_tables.proofs.GrownRows.{HasGrown, grown_rows, rooted_rows}
use Rattle.gup_tables.proofs.Places.{at_level}
use Rattle.gup_tables.proofs.tree.Tree.add.Goals as goal

pub insert-requires-2-clause-absent : goal.insert-requires-2-clause-absent
insert-requires-2-clause-absent c =
    let other = rw (← c.self.view_is) at c.requires.other in
    ap (λ f. f c.number-number.result) c.set_word.ensures.places ∙ ap (place_in c.self.inside.rows) c.number-number.ensures ∙ other

rooted : (c : goal.After-insert) → HasGrown c.self.inside.rows c.insert.new.self (Some c.args.table) c.args.table c.args.page
rooted c =
    let other = rw (← c.self.view_is) at c.requires.other in
    let small : c.args.table < 8192 = rw c.number-number.ensures at c.insert.ensures.number in
    let places = c.insert.ensures.places ∙ ap (λ t. put t (Some (on_path 4 0)) (place_in c.self.inside.rows)) c.number-number.ensures in
    let none = rw (← c.self.view_is) at c.in_default.ensures in
    rooted_rows c.self.inside.rows c.insert.new.self c.self.inside.root c.self.invariant c.args.table c.args.page other small (search rules) c.insert.ensures.len c.insert.ensures.room none places c.insert.ensures.words

pub invariant_of-self : goal.invariant_of-self
invariant_of-self c = rw c.number-number.ensures ((rooted c).tree)

pub returns-in_default-clause-tree : goal.returns-in_default-clause-tree
returns-in_default-clause-tree c =
    (rooted c).value ∙ ap (λ (r : RowLists). with_table c.args.table c.args.page (tree_of r)) c.self.view_is

pub returns-in_default-clause-lacks : goal.returns-in_default-clause-lacks
returns-in_default-clause-lacks c =
    (rooted c).lacks_less ∙ ap (λ (r : RowLists). lacks (tree_of r) c.args.page) c.self.view_is

grown : (c : goal.After-insert-2) → HasGrown c.self.inside.rows c.insert-2.new.self c.self.inside.root c.args.table c.args.page
grown c =
    let rows = c.self.inside.rows in
    let other = rw (← c.self.view_is) at c.requires.other in
    let small : c.args.table < 8192 = rw c.number-number.ensures at c.insert-2.ensures.number in
    let low : IsLowest (tree_of rows) c.args.page 1 c.in-Some.over = rw (← c.self.view_is) at c.in-Some.ensures in
    let same : lacks (tree_of c.args.self.now) c.args.page ≡ lacks (tree_of rows) c.args.page = ap (λ (r : RowLists). lacks (tree_of r) c.args.page) (sym c.self.view_is) in
    let missing : 0 < lacks (tree_of rows) c.args.page = omega (arith, c.requires.missing, same) in
    let places =
    c.insert-2.ensures.places
    ∙ ap (put c.number-number.result (Some (at_level (c.in-Some.over.level - 1) c.span.result))) c.set_word.ensures.places
    ∙ ap (λ t. put t (Some (at_level (c.in-Some.over.level - 1) c.span.result)) (place_in rows)) c.number-number.ensures
    ∙ ap (λ s. put c.args.table (Some (at_level (c.in-Some.over.level - 1) s)) (place_in rows)) c.span.ensures in
    let words =
    c.insert-2.ensures.words ∙ c.set_word.ensures.words
    ∙ ap (λ i. put2 c.in-Some.over.table i c.link.result (word_in rows)) c.index.ensures
    ∙ ap (λ w. put2 c.in-Some.over.table (c.args.page / 512 ^ (c.in-Some.over.level - 1) % 512) w (word_in rows)) (c.link.ensures ∙ ap (λ t. link_to (Some t)) c.number-number.ensures) in
    grown_rows rows c.insert-2.new.self c.self.inside.root c.self.invariant c.args.table c.args.page other small (search rules)
    (c.insert-2.ensures.len ∙ ap (λ n. n + 1) c.set_word.ensures.len)
    (c.insert-2.ensures.room ∙ c.set_word.ensures.room)
    c.in-Some.over.table c.in-Some.over.level low missing places words

pub invariant_of-self-2 : goal.invariant_of-self-2
invariant_of-self-2 c = (grown c).tree

pub returns-clause-tree : goal.returns-clause-tree
returns-clause-tree c =
    (grown c).value ∙ ap (λ (r : RowLists). with_table c.args.table c.args.page (tree_of r)) c.self.view_is

pub returns-clause-lacks : goal.returns-clause-lacks
returns-clause-lacks c =
    (grown c).lacks_less ∙ ap (λ (r : RowLists). lacks (tree_of r) c.args.page) c.self.view_is
