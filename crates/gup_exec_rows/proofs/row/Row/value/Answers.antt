use Rattle.std.proofs.Common.{sym, arith}
use Rattle.gup_exec_rows.proofs.RowLemmas.{at_is}
use Rattle.gup_exec_rows.proofs.row.Row.value.Goals as goal

pub returns-in-Some : goal.returns-in-Some
returns-in-Some g c =
    let small = c.requires in
    let whole = c.self.invariant in
    let read = at_is c.self.inside.blank.value c.self.inside.items.items c.args.k c.index.result.now (omega (arith, c.self.inside.items.ok.0)) c.index.ensures in
    rw (← c.self.view_is) (sym (rw c.in-Some.is at read))

pub returns-in-None : goal.returns-in-None
returns-in-None g c =
    let small = c.requires in
    let whole = c.self.invariant in
    let read = at_is c.self.inside.blank.value c.self.inside.items.items c.args.k c.index.result.now (omega (arith, c.self.inside.items.ok.0)) c.index.ensures in
    rw (← c.self.view_is) (rw c.deref.ensures (sym (rw c.in-None.is at read)))
