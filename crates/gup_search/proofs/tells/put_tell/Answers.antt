use Rattle.std.proofs.Common.{ℕ, ◌<◌, ◌≤◌, List, take, drop, sym, subst, arith}
use Rattle.std.specs.List.{All}
use Rattle.gup_search.specs.Search.{GoUp, Puts}
use Rattle.gup_spec_orders.specs.declared.told.Tell.{Tell}
use Rattle.gup_search.proofs.Tellings.{puts_at, up_with}
use Rattle.gup_search.proofs.tells.put_tell.Goals as goal

pub returns-clause-puts : goal.returns-clause-puts
returns-clause-puts c =
    let tells = c.args.tells.now.items in
    let tell = c.args.tell in
    subst (λ (ts : List Tell). Puts tells ts tell) (sym c.in_ok-insert.ensures.items)
    (puts_at tells c.place_of-at.result tell (subst (λ (ts : List Tell). All (λ (t : Tell). tell.name < t.name) (drop c.place_of-at.result ts)) c.as_slice.ensures.value c.place_of-at.ensures.behind))

from_zero : (n : ℕ) → 0 ≤ n
from_zero n = omega arith

pub returns-clause-in_order : goal.returns-clause-in_order
returns-clause-in_order c =
    λ end below up.
    let tells = c.args.tells.now.items in
    let tell = c.args.tell in
    let at = c.place_of-at.result in
    let same = c.as_slice.ensures.value in
    let before = c.place_of-at.ensures.before 0 end (subst (λ (ts : List Tell). GoUp 0 end ts) (sym same) up) in
    subst (λ (ts : List Tell). GoUp 0 end ts) (sym c.in_ok-insert.ensures.items)
    (up_with 0 end at tells tell (from_zero tell.name) below
    (subst (λ (ts : List Tell). All (λ (t : Tell). t.name ≤ tell.name) (take at ts)) same before)
    (subst (λ (ts : List Tell). All (λ (t : Tell). tell.name < t.name) (drop at ts)) same c.place_of-at.ensures.behind)
    up)
