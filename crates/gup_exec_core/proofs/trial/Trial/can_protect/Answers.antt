use Rattle.gup_exec_core.specs.Protected.{MayProtect}
use Rattle.gup_exec_core.proofs.trial.Trial.can_protect.Goals as goal

pub returns : goal.returns
unfolding MayProtect
returns c = (
  λ h. (
    λ k small. (c.are_protectable.ensures.0 h k small).0,
    λ k e small. (c.are_protectable.ensures.0 h k small).1 e,
    λ k small. (c.are_protectable.ensures.0 h k small).2,
  ),
  λ can. c.are_protectable.ensures.1 (λ k small. (can.0 k small, λ e. can.1 k e small, can.2 k small)),
)
