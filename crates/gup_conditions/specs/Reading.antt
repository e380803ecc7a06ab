-- The conditions that stand in a script's text, and why one of its lines is refused.
use Rattle.std.specs.Prelude.{◌≡◌, ◌≢◌, ℕ, ◌<◌, ◌≤◌, ◌-◌, ◌+◌, ◌⊎◌, Bool, true, false, List, [], ◌∷◌, ◌++◌, Option, Some, None, codes, decimal, slice_get, take}
use Rattle.gup_script.specs.declared.op.Op.{Op}
use Rattle.gup_script.specs.Script.{ScriptValue, actor_at, ops_of}
use Rattle.gup_lines.specs.Text.{name_in}
use Rattle.gup_spec_grammar.specs.Spelling.{parts, Lacks, IsNumber}
use Rattle.gup_conditions.specs.Line.{LineValue, line_text}
use Rattle.gup_conditions.specs.Condition.{ConditionValue, often_text, condition_text}
use Rattle.gup_conditions.specs.Answers.{can_answer}
use Rattle.gup_conditions.specs.declared.condition.Often.{Often}
use Rattle.gup_conditions.specs.declared.read.ConditionReason.{ConditionReason}
use Rattle.gup_conditions.specs.declared.read.ConditionReason.TheVariants as reasons
use Rattle.gup_conditions.specs.declared.read.ConditionFault.{ConditionFault}
use Rattle.gup_conditions.specs.declared.read.ConditionRefusal.{ConditionRefusal}
use Rattle.gup_conditions.specs.declared.read.ConditionRefusal.TheVariants as refusals
use Rattle.gup_conditions.specs.declared.read.Trouble.{Trouble}
use Rattle.gup_conditions.specs.declared.read.Trouble.TheVariants as troubles

-- the actor's operation with this number, from 1
abbrev pub HasOperation : ScriptValue → (actor k : ℕ) → Op → Type 0
HasOperation script actor k op = (1 ≤ k) × (slice_get (ops_of script actor) (k - 1) ≡ Some op)

-- an operation of the script can print the line
pub record CanPrint (script : ScriptValue) (line : LineValue) : Type 0 where
  pub op : Op
  pub has : HasOperation script line.actor line.op op
  pub can : can_answer op (parts 32 line.text) ≡ true

abbrev pub AllPrint : ScriptValue → List LineValue → Type 0
AllPrint script [] = Unit {0}
AllPrint script (line ∷ lines) = CanPrint script line × AllPrint script lines

-- the line of a script's text is this condition, which wants a line at least
pub record IsCondition (script : ScriptValue) (line : List ℕ) (condition : ConditionValue) : Type 0 where
  pub text : line ≡ condition_text script condition
  pub some : condition.lines ≢ []
  pub can : AllPrint script condition.lines

-- a line that is meant as a condition: what stands behind its colon is what is to be printed
abbrev pub Means : (line : List ℕ) → Often → (wanted : List ℕ) → Type 0
Means line often wanted = line ≡ often_text often ++ (codes ":" ++ wanted)

-- it is meant as none
abbrev pub IsPassed : (line : List ℕ) → Type 0
IsPassed line = (often : Often) (wanted : List ℕ) → Means line often wanted → ⊥

-- the lines of a text are these conditions, in order, and else none is meant as one
abbrev pub AreConditions : ScriptValue → (lines : List (List ℕ)) → List ConditionValue → Type 0
AreConditions script [] conditions = conditions ≡ []
AreConditions script (line ∷ lines) conditions =
    (IsPassed line × AreConditions script lines conditions)
    ⊎ ((condition : ConditionValue) × (more : List ConditionValue)
    × IsCondition script line condition × AreConditions script lines more × (conditions ≡ condition ∷ more))

-- ---- refusals

-- a piece between two semicolons: a space, a name, a number and a text, with a space between two
pub record IsSplit (piece name number text : List ℕ) : Type 0 where
  pub pieces : piece ≡ codes " " ++ (name ++ (codes " " ++ (number ++ (codes " " ++ text))))
  pub name_lacks : Lacks 32 name
  pub number_lacks : Lacks 32 number

-- no actor of this name has an operation with this number
abbrev pub IsNowhere : ScriptValue → (name number : List ℕ) → Type 0
IsNowhere script name number =
    (actor k : ℕ) (op : Op) → name_in (actor_at script actor) ≡ name → IsNumber number k → HasOperation script actor k op → ⊥

-- what is wrong with a piece: it has no such shape; no actor of this name has an operation with this number; or that can't answer so
abbrev pub IsWrong : ScriptValue → (piece : List ℕ) → ConditionReason → Type 0
IsWrong script piece reasons.Shape = (name number text : List ℕ) → IsSplit piece name number text → ⊥
IsWrong script piece reasons.Name =
    (name : List ℕ) × (number : List ℕ) × (text : List ℕ) × IsSplit piece name number text
    × IsNowhere script name number
IsWrong script piece reasons.Answer =
    (line : LineValue) × (op : Op) × (piece ≡ codes " " ++ line_text script line)
    × HasOperation script line.actor line.op op × (can_answer op (parts 32 line.text) ≡ false)

-- a piece is a line that can be printed
abbrev pub IsPiece : ScriptValue → (piece : List ℕ) → LineValue → Type 0
IsPiece script piece line = (piece ≡ codes " " ++ line_text script line) × CanPrint script line

-- the pieces are these lines
abbrev pub ArePieces : ScriptValue → (pieces : List (List ℕ)) → List LineValue → Type 0
ArePieces script [] lines = lines ≡ []
ArePieces script (piece ∷ pieces) lines =
    (line : LineValue) × (more : List LineValue) × IsPiece script piece line × ArePieces script pieces more × (lines ≡ line ∷ more)

-- the first of the pieces that is wrong, and why
pub record IsWrongFirst (script : ScriptValue) (pieces : List (List ℕ)) (reason : ConditionReason) : Type 0 where
  pub k : ℕ
  pub right : List LineValue
  pub before : ArePieces script (take k pieces) right
  pub piece : List ℕ
  pub at : slice_get pieces k ≡ Some piece
  pub wrong : IsWrong script piece reason

-- a line that is meant as a condition has a wrong piece
abbrev pub IsFault : ScriptValue → (line : List ℕ) → ConditionReason → Type 0
IsFault script line reason =
    (often : Often) × (wanted : List ℕ) × Means line often wanted × IsWrongFirst script (parts 59 wanted) reason

-- the lines before it are right, and this one is the first with a fault
pub record IsFirstFault (script : ScriptValue) (lines : List (List ℕ)) (fault : ConditionFault) : Type 0 where
  pub k : ℕ
  pub number : fault.line ≡ k + 1
  pub conditions : List ConditionValue
  pub before : AreConditions script (take k lines) conditions
  pub line : List ℕ
  pub at : slice_get lines k ≡ Some line
  pub wrong : IsFault script line fault.reason

-- why a text's conditions aren't read: memory ran out, or a line has a fault
abbrev pub IsRefused : ScriptValue → (lines : List (List ℕ)) → ConditionRefusal → Type 0
IsRefused script lines (refusals.Fault fault) = IsFirstFault script lines fault
IsRefused script lines refusals.NoMemory = Unit {0}

-- ---- the parts of the reader

abbrev pub refusal_at : (line : ℕ) → Trouble → ConditionRefusal
refusal_at line (troubles.Reason reason) = refusals.Fault (record { line = line; reason = reason })
refusal_at line troubles.NoMemory = refusals.NoMemory

-- a line is read as this, or is passed
abbrev pub IsReadAs : ScriptValue → (line : List ℕ) → Option ConditionValue → Type 0
IsReadAs script line None = IsPassed line
IsReadAs script line (Some condition) = IsCondition script line condition

abbrev pub IsFaultOf : ScriptValue → (line : List ℕ) → Trouble → Type 0
IsFaultOf script line (troubles.Reason reason) = IsFault script line reason
IsFaultOf script line troubles.NoMemory = Unit {0}

abbrev pub IsFirstWrong : ScriptValue → (pieces : List (List ℕ)) → Trouble → Type 0
IsFirstWrong script pieces (troubles.Reason reason) = IsWrongFirst script pieces reason
IsFirstWrong script pieces troubles.NoMemory = Unit {0}

abbrev pub IsPieceFault : ScriptValue → (piece : List ℕ) → Trouble → Type 0
IsPieceFault script piece (troubles.Reason reason) = IsWrong script piece reason
IsPieceFault script piece troubles.NoMemory = Unit {0}

-- an actor of this name has the operation with this number
pub record IsFound (script : ScriptValue) (name number : List ℕ) (actor k : ℕ) (op : Op) : Type 0 where
  pub name_is : name_in (actor_at script actor) ≡ name
  pub number_is : number ≡ decimal k
  pub has : HasOperation script actor k op
