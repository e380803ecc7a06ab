use Rattle.gup_space.proofs.Fields.{other_rights, on_ok_both}
use Rattle.gup_space.proofs.space.Space.map.Goals as goal

pub returns-clause-mapped : goal.returns-clause-mapped
returns-clause-mapped c =
    rw (← c.self.view_is)
    (on_ok_both c.map.result (other_rights _ _ _ _ _ _ _ _ _ _ _ _) c.map.ensures.right c.map.ensures.pages)
