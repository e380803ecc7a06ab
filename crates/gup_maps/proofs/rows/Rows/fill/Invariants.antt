use Rattle.std.proofs.Common.{◌≡◌, ℕ, Some, ◌≤◌, drop, vec_len, vec_capacity}
use Rattle.gup_plain.specs.Put.{spread}
use Rattle.gup_maps.specs.Table.{at, pages_of, IsRun}
use Rattle.gup_maps.proofs.rows.Rows.fill.Given as goal

abbrev pub invariant-loop-k : goal.invariant-loop-k
invariant-loop-k g l =
    let start = l.initial.self-inside.start in
    let was = drop start l.initial.self-inside.items.items in
    let rows = drop start l.self-inside.items.items in
    record {
      start : l.self-inside.start ≡ start;
      pages : pages_of rows ≡ pages_of was;
      at : (page : ℕ) → IsRun (pages_of was) page l.n l.place → at rows ≡ spread page l.k (λ _. Some l.value) (at was);
      len : vec_len l.self-inside.items ≡ vec_len l.initial.self-inside.items;
      room : vec_capacity l.initial.self-inside.items ≤ vec_capacity l.self-inside.items;
    }
