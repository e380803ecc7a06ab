use Rattle.std.proofs.Common.{◌≡◌, ◌++◌, ◌∙◌, arith}
use Rattle.gup_maps.specs.Table.{run}
use Rattle.gup_maps.proofs.Values.{turned, length-run}
use Rattle.gup_maps.proofs.rows.insert_run.Goals as goal

pub returns-clause-rows : goal.returns-clause-rows
returns-clause-rows g c =
    let was = c.args.rows.now.items in
    let new = run c.args.page c.args.n c.args.value in
    let all : c.loop-k.k ≡ c.args.n = omega arith in
    let pushed : c.deref_mut.result.now ≡ was ++ new = c.deref_mut.ensures.value ∙ rw all at c.loop-k.invariant.rows in
    turned was new c.deref_mut.result.now c.rotate_right.new.self c.loop-k.rows.items c.args.place c.from-2.result c.loop-k.rows.len pushed
    (length-run c.args.page c.args.n c.args.value ∙ omega arith)
    (omega arith)
    (omega arith)
    c.rotate_right.ensures.after
