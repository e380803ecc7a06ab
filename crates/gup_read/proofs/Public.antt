-- What the grammar promises of every text.
use Rattle.std.proofs.Common.{◌≡◌, ◌⊎◌, ℕ, List, refl, sym, ap, ◌∙◌, Result, Ok, Err, inl, inr}
use Rattle.gup_spec_grammar.specs.declared.fault.ScriptFault.{ScriptFault}
use Rattle.gup_script.specs.Script.{ScriptValue}
use Rattle.gup_spec_grammar.specs.Outline.{Outline}
use Rattle.gup_spec_grammar.specs.Grammar.{Accepts}
use Rattle.gup_spec_grammar.specs.Fault.{HasFault}
use Rattle.gup_read.specs.Reading.{reading}
use Rattle.gup_read.proofs.Laws.{same_read, same_fault, not_faulty, found, again, fault_found, fault_again}

pub one_script : (text : List ℕ) (a b : ScriptValue) → Accepts text a → Accepts text b → a ≡ b
one_script text a b h g =
    let x = again text a h in
    let y = again text b g in
    x.2 ∙ ap (λ st. st.script) (same_read x.0 y.0 (sym x.1 ∙ y.1)) ∙ sym y.2

pub one_fault : (text : List ℕ) (a b : ScriptFault) → HasFault text a → HasFault text b → a ≡ b
one_fault text a b h g = same_fault a b (sym (fault_again text a h) ∙ fault_again text b g)

pub script_or_fault : (text : List ℕ) → ((script : ScriptValue) × Accepts text script) ⊎ ((fault : ScriptFault) × HasFault text fault)
script_or_fault text = way (reading text) refl where
  way : (m : Result Outline ScriptFault) → reading text ≡ m → ((script : ScriptValue) × Accepts text script) ⊎ ((fault : ScriptFault) × HasFault text fault)
  way (Ok st) e = inl (st.script, found text st e)
  way (Err fault) e = inr (fault, fault_found text fault e)

pub scripts_have_no_fault : (text : List ℕ) (script : ScriptValue) (fault : ScriptFault) → Accepts text script → HasFault text fault → ⊥
scripts_have_no_fault text script fault h g =
    let x = again text script h in
    not_faulty x.0 fault (sym x.1 ∙ fault_again text fault g)
