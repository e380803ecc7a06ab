use Rattle.std.proofs.Common.{rules, sym, subst, ◌∙◌}
use Rattle.gup_tables.specs.Rows.{place_in}
use Rattle.gup_page_tables.specs.PageTables.{TablesParts, IsBare, tables_of}
use Rattle.gup_page_tables.proofs.Bare.{no_root}
use Rattle.gup_page_tables.proofs.page_tables.PageTables.is_bare.Goals as goal

pub returns-else-is_none : goal.returns-else-is_none
returns-else-is_none c = (
  λ yes. absurd (cc),
  λ bare.
      let its = subst (λ (t : TablesParts). IsBare (tables_of t).tree.place t.limbo.retired) (sym c.self.view_is) bare in
      let none = c.root.ensures.root ∙ no_root (place_in c.self.inside.tree) its.0 in
      search rules,
)
