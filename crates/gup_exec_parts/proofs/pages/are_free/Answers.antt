use Rattle.std.proofs.Common.{◌≡◌, ℕ, ◌+◌, ◌<◌, true, false, IsTrue, Option, is_some, ◌∙◌, ap}
use Rattle.std.specs.BTreeMap.{get}
use Rattle.std.specs.Ordering.{nat_cmp}
use Rattle.gup_exec_parts.specs.declared.pages.Page.{Page}
use Rattle.gup_exec_parts.specs.Pages.{AreFree}
use Rattle.gup_exec_parts.proofs.pages.are_free.Goals as goal

no-truth : {P : Type 0} → IsTrue false → P
no-truth h = let clash : false ≡ true = h in absurd (cc)

one-mapped : (f : ℕ → Option Page) (first n k page : ℕ) → k < n → page ≡ first + k → true ≡ is_some (f page) → AreFree f first n → IsTrue false
one-mapped f first n k page within at found free =
    let none = free k within in
    let there : true ≡ is_some (f (first + k)) = found ∙ ap (λ q. is_some (f q)) at in
    let clash : true ≡ false = there ∙ ap (λ (o : Option Page). is_some o) none in
    cc

pub returns-then-contains_key : goal.returns-then-contains_key
returns-then-contains_key c =
    (λ h. no-truth h, one-mapped (get nat_cmp c.args.pages.now) c.args.first c.args.n c.loop-k.k c.nth.result c.loop-k-test.true c.nth.ensures c.if-contains_key.ensures)
