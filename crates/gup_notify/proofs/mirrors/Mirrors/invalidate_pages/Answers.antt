use Rattle.std.proofs.Common.{◌≡◌, ◌∙◌, ap, sym}
use Rattle.std.proofs.lemmas.Bool.{OnFalse_at}
use Rattle.gup_notify.specs.Mirrors.{mirrors_of, no_mirrors, without}
use Rattle.gup_notify.proofs.Invalidation.{is_invalidation}
use Rattle.gup_notify.proofs.mirrors.Mirrors.invalidate_pages.Goals as goal

pub returns-else-is_any_filled-clause-emptied : goal.returns-else-is_any_filled-clause-emptied
returns-else-is_any_filled-clause-emptied c =
    let none : mirrors_of c.args.self.now ≡ no_mirrors = OnFalse_at c.if-is_any_filled.false c.is_any_filled.ensures.none in
    none ∙ sym (ap (without c.args.p c.args.page c.args.n) none)

pub returns-else-is_any_filled-clause-state : goal.returns-else-is_any_filled-clause-state
returns-else-is_any_filled-clause-state c =
    is_invalidation c.args.p c.args.page c.args.n _ _ (returns-else-is_any_filled-clause-emptied c)
