use Rattle.std.proofs.Common.{false, subst, sym}
use Rattle.gup_plain.specs.State.{PlainState}
use Rattle.gup_exec_plain.proofs.Made.{start_is_made}
use Rattle.gup_exec_plain.specs.Parts.{IsMade}
use Rattle.gup_exec_plain.proofs.plain.Plain.new.Goals as goal

pub invariant_of-result : goal.invariant_of-result
invariant_of-result c =
    let P : PlainState → Type 0 = λ s. IsMade s in
    record { all = c.in_ok-new.ensures.all; made = subst P (sym c.in_ok-new.ensures.state) (start_is_made (λ _. false)) }
