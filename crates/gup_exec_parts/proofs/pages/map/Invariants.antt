use Rattle.std.proofs.Common.{◌≡◌, ◌+◌}
use Rattle.std.specs.BTreeMap.{get, btree_map_len}
use Rattle.std.specs.Ordering.{nat_cmp}
use Rattle.gup_plain.specs.Put.{spread}
use Rattle.gup_exec_parts.specs.Pages.{pages_from}
use Rattle.gup_exec_parts.proofs.pages.map.Given as goal

-- the pages so far are in
abbrev pub invariant-loop-k : goal.invariant-loop-k
invariant-loop-k l = record {
  pages : get nat_cmp l.pages ≡ spread l.first l.k (pages_from l.first l.rights l.object) (get nat_cmp l.initial.pages);
  len : btree_map_len l.pages ≡ btree_map_len l.initial.pages + l.k;
}
