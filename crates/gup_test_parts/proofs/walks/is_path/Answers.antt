use Rattle.std.proofs.Common.{◌≡◌, true, sym, subst, ◌∙◌, rules}
use Rattle.gup_space.specs.Space.{space_of, tables_in}
use Rattle.gup_spec_tables.specs.Paths.{KeepsPath}
use Rattle.gup_tables.specs.Path.{tables_on}
use Rattle.gup_tables.specs.declared.path.Path.{Path}
use Rattle.gup_tables.specs.contracts.path.PathPartialEq.TheImpl as path_eq
use Rattle.gup_law_tables.proofs.ReadDown.{path_is_kept}
use Rattle.gup_test_parts.proofs.walks.is_path.Goals as goal

-- equal paths have the same tables
path_same : (a b : Path) → path_eq.eq-value.it a b ≡ true → a ≡ b
path_same a b h = search rules

pub returns : goal.returns
returns c is =
    let now = c.in-Some.now in
    subst (λ (p : Path). KeepsPath (tables_in (space_of c.args.space.now)) (tables_on p) c.args.page) (path_same now c.args.path.now (sym c.eq.ensures ∙ is))
    (path_is_kept (tables_in (space_of c.args.space.now)) c.args.page now.last now.second now.third c.in-Some.ensures.path)
