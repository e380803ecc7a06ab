use Rattle.std.proofs.Common.{◌≡◌, length, ap, ◌∙◌, refl}
use Rattle.std.proofs.Math.ListN.{length-replicate}
use Rattle.gup_spec_turns.specs.Run.{run_start}
use Rattle.gup_tables.specs.Pool.{PoolValue, pool_of, all_free}
use Rattle.gup_core.specs.Machine.{machine_of, Shows}
use Rattle.gup_core.proofs.Starting.{no_turn, shows_start}
use Rattle.gup_core.proofs.inner.Inner.of.Goals as goal

-- the pool has the script's tables, all free
free : (c : goal.In_ok-pool) → pool_of c.in_ok-pool.pool ≡ all_free c.args.script.frames.tables
free c = c.in_ok-pool.ensures ∙ ap (λ counts. all_free counts.2) c.frames-movable.ensures.counts

-- what was made shows the start of the script
starts : (c : goal.In_ok-pool) → Shows (machine_of c.args.script c.in_ok-parts.parts c.in_ok-mirrors.mirrors c.in_ok-seats.seats.items c.in_ok-pool.pool 0) (run_start c.args.script)
starts c =
    shows_start c.args.script c.in_ok-parts.parts c.in_ok-mirrors.mirrors c.in_ok-seats.seats.items c.in_ok-pool.pool c.actors.result c.in_ok-parts.ensures.shown c.in_ok-mirrors.ensures c.in_ok-seats.ensures (free c)

pub invariant_of-result : goal.invariant_of-result
invariant_of-result c =
    record {
      parts = c.in_ok-parts.ensures.parts;
      seats = ap length c.in_ok-seats.ensures ∙ length-replicate c.actors.result no_turn ∙ c.actors.ensures.count;
      tables = ap (λ (pool : PoolValue). pool.tables) (free c);
      shown = (run_start c.args.script, starts c);
    }

pub returns : goal.returns
returns c = record { script = refl; turns = refl; shown = starts c }
