use Rattle.std.proofs.Common.{ℕ, List, sym, subst}
use Rattle.gup_spec_grammar.specs.declared.fault.ReadRefusal.{ReadRefusal}
use Rattle.gup_spec_grammar.specs.Fault.{HasFault, IsRefusalOf}
use Rattle.gup_spec_grammar.specs.Grammar.{Accepts}
use Rattle.gup_top.proofs.serial.made_script.Goals as goal

-- the text that is made is a script's, and no such text has a fault
pub unreachable-requires : goal.unreachable-requires
unreachable-requires c =
    let text = c.in_ok-text.text.items in
    let fault = c.in-Err-Fault.field-0-0 in
    let made = c.made_texts_are_scripts.ensures c.args.n c.ranges.n.fits in
    let Refused : ReadRefusal → Type 0 = λ r. IsRefusalOf c.as_slice.result.now r in
    let Faulty : List ℕ → Type 0 = λ v. HasFault v fault in
    let Accepted : List ℕ → Type 0 = λ v. Accepts v made.0 in
    c.scripts_have_no_fault.ensures text made.0 fault (subst Accepted (sym c.in_ok-text.ensures) made.1) (subst Faulty c.as_slice.ensures.value (subst Refused c.in-Err-Fault.field-0-is c.in-Err-Fault.ensures.refused))
