-- Conditions on what the runs of a script print, in any order of its actors' turns, and when they hold.
use Rattle.std.specs.Prelude.{ℕ, Bool, List, ◌++◌, All, Contains, codes, map}
use Rattle.std.specs.List.{join_with_byte}
use Rattle.gup_script.specs.Script.{ScriptValue}
use Rattle.gup_spec_orders.specs.Orders.{IsOrder, setup, journal_in}
use Rattle.gup_conditions.specs.Line.{LineValue, line_text, printed}
use Rattle.gup_conditions.specs.declared.condition.Often.{Often}
use Rattle.gup_conditions.specs.declared.condition.Often.TheVariants.{Never, Sometimes, Always}

-- some lines, and how often runs are to print all of them
pub record ConditionValue : Type 0 where
  pub often : Often
  pub lines : List LineValue

-- ---- how a condition stands in a script's text: as a comment

abbrev pub often_text : Often → List ℕ
often_text Never = codes "# never"
often_text Sometimes = codes "# sometimes"
often_text Always = codes "# always"

-- the lines, each behind a space, with a semicolon between two
abbrev pub wanted_text : ScriptValue → List LineValue → List ℕ
wanted_text script lines = join_with_byte 59 (map (λ (line : LineValue). codes " " ++ line_text script line) lines)

abbrev pub condition_text : ScriptValue → ConditionValue → List ℕ
condition_text script condition = often_text condition.often ++ codes ":" ++ wanted_text script condition.lines

-- ---- when it holds

-- a run in this order prints all these lines
abbrev pub PrintsAll : ScriptValue → (order : List ℕ) → List LineValue → Type 0
PrintsAll script order lines = All (λ (line : LineValue). Contains (printed (journal_in script order)) line) lines

-- an order in which all these lines are printed, none, and each
abbrev pub SomePrints : ScriptValue → (behind : Bool) → List LineValue → Type 0
SomePrints script behind lines = (order : List ℕ) × IsOrder script behind order × PrintsAll script (setup script behind ++ order) lines

abbrev pub NonePrints : ScriptValue → (behind : Bool) → List LineValue → Type 0
NonePrints script behind lines = (order : List ℕ) → IsOrder script behind order → PrintsAll script (setup script behind ++ order) lines → ⊥

abbrev pub EachPrints : ScriptValue → (behind : Bool) → List LineValue → Type 0
EachPrints script behind lines = (order : List ℕ) → IsOrder script behind order → PrintsAll script (setup script behind ++ order) lines

abbrev pub SomeLacks : ScriptValue → (behind : Bool) → List LineValue → Type 0
SomeLacks script behind lines = (order : List ℕ) × IsOrder script behind order × (PrintsAll script (setup script behind ++ order) lines → ⊥)

abbrev pub HoldsOften : ScriptValue → (behind : Bool) → Often → List LineValue → Type 0
HoldsOften script behind Never lines = NonePrints script behind lines
HoldsOften script behind Sometimes lines = SomePrints script behind lines
HoldsOften script behind Always lines = EachPrints script behind lines

abbrev pub FailsOften : ScriptValue → (behind : Bool) → Often → List LineValue → Type 0
FailsOften script behind Never lines = SomePrints script behind lines
FailsOften script behind Sometimes lines = NonePrints script behind lines
FailsOften script behind Always lines = SomeLacks script behind lines

abbrev pub Holds : ScriptValue → (behind : Bool) → ConditionValue → Type 0
Holds script behind condition = HoldsOften script behind condition.often condition.lines

abbrev pub Fails : ScriptValue → (behind : Bool) → ConditionValue → Type 0
Fails script behind condition = FailsOften script behind condition.often condition.lines
