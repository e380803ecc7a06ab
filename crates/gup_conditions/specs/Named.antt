-- The operations whose lines tell outcomes apart.
use Rattle.std.specs.Prelude.{◌≡◌, ℕ, ◌+◌, ◌==◌, ◌&&◌, Bool, List, [], ◌∷◌, ◌++◌, Some, filter, slice_get}
use Rattle.std.specs.List.{list_any}
use Rattle.gup_script.specs.declared.op.Op.{Op}
use Rattle.gup_script.specs.Script.{ScriptValue, Actor}
use Rattle.gup_spec_orders.specs.declared.told.Named.{Named}
use Rattle.gup_conditions.specs.Line.{LineValue}
use Rattle.gup_conditions.specs.Condition.{ConditionValue}

-- an actor's operations, from the number k on, and those of the actors from a on
abbrev pub ops_named : (a k : ℕ) → List Op → List Named
ops_named a k [] = []
ops_named a k (op ∷ ops) = record { actor = a; op = k } ∷ ops_named a (k + 1) ops

abbrev pub actors_named : (a : ℕ) → List Actor → List Named
actors_named a [] = []
actors_named a (actor ∷ actors) = ops_named a 1 actor.ops ++ actors_named (a + 1) actors

-- is the line one of this operation, and is it wanted by a condition?
abbrev pub is_wanted_by : Named → LineValue → Bool
is_wanted_by name line = (line.actor == name.actor) && (line.op == name.op)

abbrev pub is_wanted : List ConditionValue → Named → Bool
is_wanted conditions name = list_any (λ (condition : ConditionValue). list_any (is_wanted_by name) condition.lines) conditions

-- where there are conditions, the operations alone of which a line is wanted
abbrev pub wanted_of : List ConditionValue → List Named → List Named
wanted_of [] named = named
wanted_of (condition ∷ conditions) named = filter (is_wanted (condition ∷ conditions)) named

-- the operations of the script, actor by actor; where there are conditions, those alone of which a line is wanted
abbrev pub named_of : ScriptValue → List ConditionValue → List Named
named_of script conditions = wanted_of conditions (actors_named 0 script.actors)

-- each line is of one of the operations
abbrev pub IsNamed : List Named → LineValue → Type 0
IsNamed named line =
    (k : ℕ) × (name : Named) × (slice_get named k ≡ Some name) × (name.actor ≡ line.actor) × (name.op ≡ line.op)

abbrev pub AreNamed : List Named → List LineValue → Type 0
AreNamed named [] = Unit {0}
AreNamed named (line ∷ lines) = IsNamed named line × AreNamed named lines
