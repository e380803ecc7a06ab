use Rattle.std.proofs.Common.{sym, subst}
use Rattle.gup_spec_tables.specs.Tables.{TreeValue}
use Rattle.gup_page_tables.specs.Kept.{LacksNone}
use Rattle.gup_page_tables.proofs.page_tables.PageTables.set_entry.Goals as goal

pub invariant_of-self : goal.invariant_of-self
invariant_of-self c =
    let k = c.self.invariant.0 in (
      rw c.set.ensures (record { apart = k.apart; gone = k.gone; few = k.few; room = k.room }),
      subst (λ (v : TreeValue). LacksNone v c.self.inside.whole) (sym c.set.ensures) c.self.invariant.1,
    )
