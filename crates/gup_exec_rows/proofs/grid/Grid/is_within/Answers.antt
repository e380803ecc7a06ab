use Rattle.std.proofs.Common.{ℕ, ◌↔◌, Option, IsSome, Contains, IsTrue, subst}
use Rattle.gup_exec_parts.proofs.SpaceLemmas.{all_keys}
use Rattle.gup_exec_rows.specs.Lists.{IsOneOf}
use Rattle.gup_exec_rows.proofs.grid.Grid.is_within.Goals as goal

pub returns : goal.returns
unfolding IsOneOf
returns g c =
    let P : (ℕ → Option g.row.V.Denot) → Type 0 = λ f. IsTrue c.all_among.result ↔ ((page : ℕ) → IsSome (f page) → Contains c.args.pages.now page) in
    let all = all_keys (λ page. IsOneOf c.args.pages.now page) c.row.result.now in
    subst P c.row.ensures (λ h. all.0 (c.all_among.ensures.0 h), λ h. c.all_among.ensures.1 (all.1 h))
