-- What is read of a text is right by the grammar, and so is a refusal.
use Rattle.std.proofs.Common.{ℕ, List, Result, Ok, Err, sym, subst}
use Rattle.std.specs.Prelude.{IfOk, IfErr}
use Rattle.gup_spec_grammar.specs.declared.fault.ReadRefusal.{ReadRefusal}
use Rattle.gup_spec_grammar.specs.declared.fault.ReadRefusal.TheVariants as refusals
use Rattle.gup_script.specs.Script.{ScriptValue}
use Rattle.gup_spec_grammar.specs.Grammar.{Accepts}
use Rattle.gup_spec_grammar.specs.Fault.{IsRefusalOf}
use Rattle.gup_read.specs.Reading.{reading}
use Rattle.gup_read.specs.Steps.{IsRead}
use Rattle.gup_read.proofs.Laws.{found, fault_found}

pub accepted : (text : List ℕ) (r : Result ScriptValue ReadRefusal) → IsRead (reading text) r → IfOk r (λ script. Accepts text script)
accepted text (Ok script) h = subst (λ (s : ScriptValue). Accepts text s) (sym h.2) (found text h.0 h.1)
accepted text (Err refusal) h = tt

pub refused : (text : List ℕ) (r : Result ScriptValue ReadRefusal) → IsRead (reading text) r → IfErr r (λ refusal. IsRefusalOf text refusal)
refused text (Ok script) h = tt
refused text (Err (refusals.Fault fault)) h = fault_found text fault h
refused text (Err refusals.NoMemory) h = tt
