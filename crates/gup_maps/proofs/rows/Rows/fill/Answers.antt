use Rattle.std.proofs.Common.{◌≡◌, ◌+◌, ◌-◌, ◌<◌, drop, set, get_or, length, arith, length-drop}
use Rattle.std.proofs.lemmas.List.{get_or-drop, drop-set-add}
use Rattle.gup_maps.proofs.Values.{at-filled, pages-filled}
use Rattle.gup_maps.proofs.rows.Rows.fill.Goals as goal

pub loop-k-preserved : goal.loop-k-preserved
loop-k-preserved g c =
    let start = c.self.inside.start in
    let was = drop start c.self.inside.items.items in
    let items = c.loop-k.self-inside.items.items in
    let rows = drop start items in
    let i = c.args.place + c.from.result in
    let row = c.index_mut.result.now in
    let len : length rows ≡ length items - start = length-drop start items in
    let few = rw (← c.self.view_is) at c.requires.within in
    let ordered = rw (← c.self.view_is) at c.requires.ordered in
    let inside : i < length rows = omega (arith, few, length-drop start c.self.inside.items.items) in
    let there : start + i ≡ start + c.args.place + c.from.result = omega arith in
    let read : row ≡ get_or rows i row = rw (get_or-drop start items i row, there) c.index_mut.ensures.value in
    let made : drop start (set items (start + c.args.place + c.from.result) (row.0, c.args.value)) ≡ set rows i (row.0, c.args.value) =
    rw (← there) (drop-set-add start items i (row.0, c.args.value)) in
    record {
      start = c.loop-k.invariant.start;
      pages = rw made (pages-filled was rows ordered c.loop-k.invariant.pages i row inside read c.args.value);
      at = λ page run.
          rw made
          (at-filled was rows ordered c.loop-k.invariant.pages i row inside read page c.args.n c.args.place c.loop-k.k c.args.value
          (omega arith) c.loop-k-test.true run (c.loop-k.invariant.at page run));
      len = omega arith;
      room = omega arith;
    }

pub returns-clause-at : goal.returns-clause-at
returns-clause-at g c page run =
    let all : c.loop-k.k ≡ c.args.n = omega arith in
    let run' = rw (← c.self.view_is) at run in
    let filled = rw all at (c.loop-k.invariant.at page run') in
    rw (c.loop-k.invariant.start, ← c.self.view_is) filled
