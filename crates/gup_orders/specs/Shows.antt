-- Outcomes of a search, and how they are printed.
use Rattle.std.specs.Prelude.{◌≡◌, List, [], ◌∷◌, map}
use Rattle.gup_spec_orders.specs.Printed.{lines_told}
use Rattle.gup_spec_orders.specs.declared.told.Named.{Named}
use Rattle.gup_spec_orders.specs.declared.told.Outcome.{Outcome}
use Rattle.gup_conditions.specs.Line.{line_of_answer}
use Rattle.gup_conditions.specs.declared.shown.Shown.{Shown}

-- it has the lines that the outcome tells, and else what the outcome has
pub record IsShownOf (named : List Named) (outcome : Outcome) (shown : Shown) : Type 0 where
  pub lines : shown.lines.items ≡ map line_of_answer (lines_told named outcome.tells.items)
  pub waits : shown.waits ≡ outcome.waits
  pub path : shown.path ≡ outcome.path

abbrev pub AreShownOf : List Named → List Outcome → List Shown → Type 0
AreShownOf named [] shown = shown ≡ []
AreShownOf named (outcome ∷ outcomes) shown =
    (first : Shown) × (more : List Shown) × IsShownOf named outcome first × AreShownOf named outcomes more × (shown ≡ first ∷ more)
