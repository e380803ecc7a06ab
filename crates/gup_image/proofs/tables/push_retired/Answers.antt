use Rattle.std.proofs.Common.{◌++◌, ◌∙◌, ap}
use Rattle.gup_space.specs.Space.{space_of}
use Rattle.gup_image.specs.Image.{retired_fact}
use Rattle.gup_image.proofs.Gathered.{along-put}
use Rattle.gup_image.proofs.Waiting.{over_next, next_here}
use Rattle.gup_image.proofs.tables.push_retired.Goals as goal

-- one table more
pub loop-table-preserved : goal.loop-table-preserved
loop-table-preserved c =
    let waits = (space_of c.args.space.now).retired in
    let p = c.args.proc in (
      along-put (retired_fact p) waits c.loop-table.place c.in-Some.table.now _ _ _ c.loop-table.invariant.0
          (next_here waits _ _ c.in-Some.table.now c.loop-table.place c.in-Some.ensures.steps c.loop-table.invariant.1)
          (c.in_ok-push_waiting.ensures ∙ ap (λ t. c.loop-table.facts.items ++ retired_fact p c.loop-table.place t) c.number.ensures),
      over_next waits _ _ c.in-Some.table.now c.loop-table.place c.in-Some.ensures.steps c.loop-table.invariant.1,
    )
