-- What the top call is asked, and what it may answer.
use Rattle.std.specs.Prelude.{◌≡◌, ℕ, ◌<◌, ◌^◌, ◌⊎◌, Bool, true, false, List, [], ◌∷◌, ◌++◌, codes, decimal, Option, None, Some}
use Rattle.gup_script.specs.Script.{ScriptValue}
use Rattle.gup_spec_grammar.specs.Grammar.{Accepts}
use Rattle.gup_spec_grammar.specs.Spelling.{parts, IsNumber}
use Rattle.gup_orders.specs.declared.command.Asked.{Asked}
use Rattle.gup_front.specs.Lines.{refusal_text}
use Rattle.gup_front.specs.Reading.{IsRefusedFor}
use Rattle.gup_conditions.specs.Condition.{ConditionValue}
use Rattle.gup_conditions.specs.Reading.{AreConditions, IsFirstFault}
use Rattle.gup_conditions.specs.declared.read.ConditionFault.{ConditionFault}
use Rattle.gup_conditions.specs.declared.read.ConditionReason.{ConditionReason}
use Rattle.gup_conditions.specs.declared.read.ConditionReason.TheVariants as reasons
use Rattle.gup_orders.specs.Found.{Findings, AreFindings, AreRight, status_of}
use Rattle.gup_orders.specs.Text.{found_text}
use Rattle.gup_orders.specs.declared.top.Refusal.{Refusal}
use Rattle.gup_orders.specs.declared.top.Refusal.TheVariants as refusals

-- ---- the words

abbrev pub behind_words : (behind : Bool) → List (List ℕ)
behind_words false = []
behind_words true = codes "behind" ∷ []

-- how many states are gone over at most, where nothing is said of it
abbrev pub usual_limit : ℕ
usual_limit = 1000000

-- The orders from the start, or behind the written turns; over at most so many states, as the words say or as usual.
abbrev pub IsAsked : List (List ℕ) → (behind : Bool) → (limit : ℕ) → Type 0
IsAsked words behind limit =
    ((words ≡ behind_words behind) × (limit ≡ usual_limit))
    ⊎ ((words ≡ behind_words behind ++ codes "--limit" ∷ decimal limit ∷ []) × (limit < 2 ^ 64))

abbrev pub IsCommand : List (List ℕ) → Type 0
IsCommand words = (behind : Bool) × (limit : ℕ) × IsAsked words behind limit

-- what is written where the words are none of these
abbrev pub usage : List ℕ
usage = codes "usage: gup orders [behind] [--limit N]\n"

-- a word behind `--limit`, and what it asks
abbrev pub IsLimited : (behind : Bool) → (word : List ℕ) → Option Asked → Type 0
IsLimited behind word None = (n : ℕ) → IsNumber word n → ⊥
IsLimited behind word (Some asked) = (asked.behind ≡ behind) × IsNumber word asked.limit

-- ---- what is told

-- the statuses where all orders were searched, or as many as the limit allows
abbrev pub HasFound : ℕ → Type 0
HasFound status = (status ≡ 0) ⊎ (status ≡ 8) ⊎ (status ≡ 9)

abbrev pub IsStatus : ℕ → Type 0
IsStatus status = HasFound status ⊎ (status ≡ 3) ⊎ (status ≡ 5) ⊎ (status ≡ 6) ⊎ (status ≡ 7)

-- The text's conditions are these, the orders were searched with these findings, each verdict is right, and this is the text of it.
pub record IsTold (behind : Bool) (limit : ℕ) (bytes : List ℕ) (script : ScriptValue) (status : ℕ) (text : List ℕ) : Type 0 where
  pub conditions : List ConditionValue
  pub read : AreConditions script (parts 10 bytes) conditions
  pub found : Findings
  pub findings : AreFindings script behind limit conditions found
  pub right : AreRight script behind conditions found
  pub status_is : status ≡ status_of conditions found
  pub text_is : text ≡ found_text script conditions found

-- Where the source tells its bytes, this holds of them and of the script that they are, if they are one.
abbrev pub OfText : Option (List ℕ) → (List ℕ → ScriptValue → Type 0) → Type 0
OfText None P = Unit {0}
OfText (Some bytes) P = (script : ScriptValue) → Accepts bytes script → P bytes script

-- ---- refusals

abbrev pub condition_reason_text : ConditionReason → List ℕ
condition_reason_text reasons.Shape = codes "shape"
condition_reason_text reasons.Name = codes "name"
condition_reason_text reasons.Answer = codes "answer"

abbrev pub condition_refusal_text : ConditionFault → List ℕ
condition_refusal_text fault = codes "line " ++ (decimal fault.line ++ (codes ": " ++ (condition_reason_text fault.reason ++ codes "\n")))

abbrev pub refused_text : Refusal → List ℕ
refused_text (refusals.Script fault) = refusal_text fault
refused_text (refusals.Condition fault) = condition_refusal_text fault

-- a line of the text is meant as a condition and is none
abbrev pub HasWrongCondition : (bytes : List ℕ) → ScriptValue → ConditionFault → Type 0
HasWrongCondition bytes script fault = IsFirstFault script (parts 10 bytes) fault

-- why it is refused: the bytes are no script, or a condition is none
abbrev pub IsRefusedBy : Option (List ℕ) → Refusal → Type 0
IsRefusedBy told (refusals.Script fault) = IsRefusedFor told fault
IsRefusedBy told (refusals.Condition fault) = OfText told (λ bytes script. HasWrongCondition bytes script fault)

-- a script that is refused has a wrong condition
abbrev pub IsOfCondition : Option Refusal → Type 0
IsOfCondition None = ⊥
IsOfCondition (Some (refusals.Script fault)) = ⊥
IsOfCondition (Some (refusals.Condition fault)) = Unit {0}
