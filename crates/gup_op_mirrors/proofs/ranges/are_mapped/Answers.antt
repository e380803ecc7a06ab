use Rattle.std.proofs.Common.{◌≡◌, ℕ, ◌+◌, not, true, is_some, Option, sym, ap, ◌∙◌}
use Rattle.gup_base.specs.declared.entry.Rights.{Rights}
use Rattle.gup_maps.proofs.Ranges.{any_below_some}
use Rattle.gup_space.specs.Space.{space_of}
use Rattle.gup_op_mirrors.proofs.ranges.are_mapped.Goals as goal

pub returns-then-is_none : goal.returns-then-is_none
returns-then-is_none c =
    let right = (space_of c.args.space.now).right in
    let page = c.args.page in
    let k = c.loop-k.k in
    let found : right (page + k) ≡ c.rights_at.result = sym (c.rights_at.ensures ∙ ap right c.page_behind.ensures) in
    let lacks : not (is_some (right (page + k))) ≡ true =
    ap (λ (o : Option Rights). not (is_some o)) found ∙ ap not (c.if-is_none.ensures) in
    sym (ap not (any_below_some c.args.n (λ (j : ℕ). not (is_some (right (page + j)))) k c.loop-k-test.true lacks))
