-- What is said of the text that was read is said of the bytes that the source tells.
use Rattle.std.proofs.Common.{◌≡◌, ℕ, List, Option, Some, None, subst}
use Rattle.std.specs.Prelude.{IfSome, IsSome}
use Rattle.gup_script.specs.Script.{ScriptValue}
use Rattle.gup_spec_grammar.specs.Grammar.{Accepts}
use Rattle.gup_front.specs.Reading.{OfScript, IsScriptOf}
use Rattle.gup_orders.specs.Report.{OfText, HasWrongCondition, IsRefusedBy, IsOfCondition}
use Rattle.gup_orders.specs.Untold.{IsWrongIn}
use Rattle.gup_orders.specs.declared.top.Refusal.{Refusal}
use Rattle.gup_orders.specs.declared.top.Refusal.TheVariants.{Script, Condition}

abbrev pub OneScript : Type 0
OneScript = (text : List ℕ) (a b : ScriptValue) → Accepts text a → Accepts text b → a ≡ b

pub of_text : (told : Option (List ℕ)) (text : List ℕ) (script : ScriptValue) (P : List ℕ → ScriptValue → Type 0) → OneScript → IfSome told (λ bytes. text ≡ bytes) → IsScriptOf told script → P text script → OfText told P
of_text None text script P one same read p = tt
of_text (Some bytes) text script P one same read p = λ it accepts. subst (λ (s : ScriptValue). P bytes s) (one bytes script it read accepts) (subst (λ (b : List ℕ). P b script) same p)

pub of_any : (told : Option (List ℕ)) (X : Type 0) → X → OfText told (λ bytes script. X)
of_any None X x = tt
of_any (Some bytes) X x = λ it accepts. x

-- where the bytes are no script, anything is so of it
pub of_no_script : (told : Option (List ℕ)) (P : List ℕ → ScriptValue → Type 0) → OfScript told (λ script. ⊥) → OfText told P
of_no_script None P none = tt
of_no_script (Some bytes) P none = λ it accepts. absurd (none it accepts)

-- ---- refusals

pub is_of_condition : (bytes : List ℕ) (script : ScriptValue) (refusal : Option Refusal) → IsSome refusal → IfSome refusal (λ r. IsWrongIn bytes script r) → IsOfCondition refusal
is_of_condition bytes script None some wrong = absurd (cc some)
is_of_condition bytes script (Some (Script fault)) some wrong = wrong
is_of_condition bytes script (Some (Condition fault)) some wrong = tt

pub refused_by : (told : Option (List ℕ)) (text : List ℕ) (script : ScriptValue) (refusal : Option Refusal) → OneScript → IfSome told (λ bytes. text ≡ bytes) → IsScriptOf told script → IfSome refusal (λ r. IsWrongIn text script r) → IfSome refusal (λ r. IsRefusedBy told r)
refused_by told text script None one same read wrong = tt
refused_by told text script (Some (Script fault)) one same read wrong = absurd wrong
refused_by told text script (Some (Condition fault)) one same read wrong = of_text told text script (λ bytes s. HasWrongCondition bytes s fault) one same read wrong
