use Rattle.std.proofs.lemmas.Result.{on_ok_weaker}
use Rattle.gup_space.proofs.Fields.{other_rights}
use Rattle.gup_space.proofs.space.Space.protect.Goals as goal

pub returns-clause-protected : goal.returns-clause-protected
returns-clause-protected c =
    rw (← c.self.view_is)
    (on_ok_weaker c.protect.result (λ right. other_rights _ _ _ _ _ _ _ _ _ _ _ _ right c.protect.ensures.pages) c.protect.ensures.right)
