use Rattle.std.proofs.Common.{◌-◌, ◌^◌, ◌≡◌, ℕ, ◌≤◌, ◌<◌, None}
use Rattle.gup_tables.specs.Tree.{tree_of}
use Rattle.gup_tables.proofs.tree.Tree.next_touched.Given as goal

-- the pages so far have no entry
abbrev pub invariant-loop-next : goal.invariant-loop-next
invariant-loop-next l = record {
  further : l.fn.from ≤ l.next;
  none : (page : ℕ) → l.fn.from ≤ page → page < l.next → (tree_of l.self).entry page ≡ None;
}

abbrev pub decreases-loop-next : goal.decreases-loop-next
decreases-loop-next l = 2 ^ 35 - l.next
