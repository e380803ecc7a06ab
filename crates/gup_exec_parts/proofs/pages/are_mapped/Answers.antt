use Rattle.std.proofs.Common.{◌≡◌, ℕ, ◌+◌, ◌<◌, true, false, IsTrue, IsSome, Option, is_some, ◌∙◌, ap, arith}
use Rattle.std.specs.BTreeMap.{get}
use Rattle.std.specs.Ordering.{nat_cmp}
use Rattle.gup_exec_parts.specs.declared.pages.Page.{Page}
use Rattle.gup_exec_parts.specs.Pages.{AreMapped}
use Rattle.gup_exec_parts.proofs.pages.are_mapped.Goals as goal

is-there : (o : Option Page) → false ≡ is_some o → IsSome o → IsTrue false
is-there o lacks found = grind arith

no-truth : {P : Type 0} → IsTrue false → P
no-truth h = let clash : false ≡ true = h in absurd (cc)

one-missing : (f : ℕ → Option Page) (first n k page : ℕ) → k < n → page ≡ first + k → false ≡ is_some (f page) → AreMapped f first n → IsTrue false
one-missing f first n k page within at found mapped =
    is-there (f (first + k)) (found ∙ ap (λ q. is_some (f q)) at) (mapped k within)

pub returns-then-not-contains_key : goal.returns-then-not-contains_key
returns-then-not-contains_key c =
    (λ h. no-truth h, one-missing (get nat_cmp c.args.pages.now) c.args.first c.args.n c.loop-k.k c.nth.result c.loop-k-test.true c.nth.ensures c.if-not-contains_key.ensures)
