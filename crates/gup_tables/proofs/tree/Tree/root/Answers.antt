use Rattle.std.proofs.Common.{◌≡◌, ℕ, Option, Some, None, IfNone, refl, sym, ◌∙◌}
use Rattle.gup_spec_tables.specs.declared.place.Place.{Place}
use Rattle.gup_tables.specs.Rows.{place_in, word_in}
use Rattle.gup_tables.proofs.PathRead.{rootless}
use Rattle.gup_tables.proofs.tree.Tree.root.Goals as goal

if_none : (o : Option ℕ) (place : ℕ → Option Place) → (o ≡ None → (table : ℕ) → place table ≡ None) → IfNone o ((table : ℕ) → place table ≡ None)
if_none None place none = none refl
if_none (Some root) place none = tt

pub returns-clause-none : goal.returns-clause-none
returns-clause-none c =
    let rows = c.self.inside.rows in
    rw (← c.self.view_is)
    (if_none c.self.inside.root (place_in rows) (λ is. rootless (place_in rows) (word_in rows) c.self.inside.root c.self.invariant (sym c.self.invariant.root_there ∙ is)))
