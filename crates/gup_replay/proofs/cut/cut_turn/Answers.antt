use Rattle.std.proofs.Common.{refl}
use Rattle.gup_replay.proofs.Cuts.{one_more_of_turn}
use Rattle.gup_replay.proofs.cut.cut_turn.Goals as goal

pub loop-end-preserved : goal.loop-end-preserved
loop-end-preserved c =
    let first = c.index-notes-0.result in
    one_more_of_turn first.turn first.actor c.args.notes.now c.loop-end.end c.index-notes-end.result c.loop-end-test.true c.index-notes-end.is c.loop-end.invariant
    (c.if-not-is_of_turn.ensures.0 refl)
