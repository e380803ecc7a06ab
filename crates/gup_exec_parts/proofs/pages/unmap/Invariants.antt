use Rattle.std.proofs.Common.{◌≡◌, ◌+◌, None}
use Rattle.std.specs.BTreeMap.{get, btree_map_len}
use Rattle.std.specs.Ordering.{nat_cmp}
use Rattle.gup_plain.specs.Put.{spread}
use Rattle.gup_exec_parts.proofs.pages.unmap.Given as goal

-- the pages so far are out
abbrev pub invariant-loop-k : goal.invariant-loop-k
invariant-loop-k l = record {
  pages : get nat_cmp l.pages ≡ spread l.first l.k (λ _. None) (get nat_cmp l.initial.pages);
  len : btree_map_len l.pages + l.k ≡ btree_map_len l.initial.pages;
}
