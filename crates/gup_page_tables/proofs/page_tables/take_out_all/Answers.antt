use Rattle.std.proofs.Common.{ap, sym, ◌∙◌}
use Rattle.gup_page_tables.specs.PageTables.{some_of, shrinks}
use Rattle.gup_page_tables.proofs.TakenOut.{stuck}
use Rattle.gup_page_tables.proofs.page_tables.take_out_all.Goals as goal

pub returns-then-not-take_out-clause-shrunk : goal.returns-then-not-take_out-clause-shrunk
returns-then-not-take_out-clause-shrunk c =
    let old = some_of c.args.tree.now c.args.limbo.now in
    let none = sym c.take_out.ensures.out ∙ c.if-not-take_out.true in
    c.take_out.ensures.shrunk ∙ stuck c.args.page 1 old none ∙ sym (stuck c.args.page 3 old none)

pub returns-then-not-take_out-2-clause-shrunk : goal.returns-then-not-take_out-2-clause-shrunk
returns-then-not-take_out-2-clause-shrunk c =
    let once = some_of c.take_out.new.tree c.take_out.new.limbo in
    let none = sym c.take_out-2.ensures.out ∙ c.if-not-take_out-2.true in
    c.take_out-2.ensures.shrunk ∙ stuck c.args.page 1 once none ∙ sym (stuck c.args.page 2 once none)
    ∙ ap (shrinks c.args.page 2) c.take_out.ensures.shrunk
