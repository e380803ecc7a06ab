-- Why there is nothing to tell of a script's orders.
use Rattle.std.specs.Prelude.{ℕ, List}
use Rattle.gup_script.specs.Script.{ScriptValue}
use Rattle.gup_conditions.specs.declared.read.ConditionRefusal.{ConditionRefusal}
use Rattle.gup_conditions.specs.declared.read.ConditionRefusal.TheVariants as refusals
use Rattle.gup_orders.specs.Report.{HasWrongCondition}
use Rattle.gup_orders.specs.declared.top.Refusal.{Refusal}
use Rattle.gup_orders.specs.declared.top.Refusal.TheVariants as refused
use Rattle.gup_orders.specs.declared.top.Untold.{Untold}
use Rattle.gup_orders.specs.declared.top.Untold.TheVariants as untold

abbrev pub untold_by : ConditionRefusal → Untold
untold_by (refusals.Fault fault) = untold.Fault fault
untold_by refusals.NoMemory = untold.NoMemory

-- a condition is wrong, or memory ran out
abbrev pub IsUntoldFor : (bytes : List ℕ) → ScriptValue → Untold → Type 0
IsUntoldFor bytes script (untold.Fault fault) = HasWrongCondition bytes script fault
IsUntoldFor bytes script untold.NoMemory = Unit {0}

-- a text that is a script is refused for a wrong condition
abbrev pub IsWrongIn : (bytes : List ℕ) → ScriptValue → Refusal → Type 0
IsWrongIn bytes script (refused.Script fault) = ⊥
IsWrongIn bytes script (refused.Condition fault) = HasWrongCondition bytes script fault
