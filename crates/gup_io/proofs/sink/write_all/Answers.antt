use Rattle.std.proofs.Common.{rules}
use Rattle.std.proofs.lemmas.List.{take_rest}
use Rattle.gup_io.proofs.Told.{Appends-more}
use Rattle.gup_io.proofs.sink.write_all.Goals as goal

pub loop-at-preserved : goal.loop-at-preserved
loop-at-preserved g c =
    let taken = rw take_rest at c.in_ok-at.ensures.bytes in
    record {
      within = search rules;
      so_far = Appends-more _ _ _ c.args.text.now c.loop-at.at c.in_ok-at.field-0 c.loop-at.invariant.so_far taken;
      uncounted = search rules;
    }
