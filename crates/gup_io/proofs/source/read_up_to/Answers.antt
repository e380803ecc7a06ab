use Rattle.std.proofs.Common.{arith}
use Rattle.std.proofs.lemmas.Result.{err_from_is_err_and}
use Rattle.gup_io.proofs.Told.{Loses-more}
use Rattle.gup_io.proofs.source.read_up_to.Goals as goal

pub returns-in_err-read_more-clause-broken_off : goal.returns-in_err-read_more-clause-broken_off
returns-in_err-read_more-clause-broken_off g c =
    let p = err_from_is_err_and c.from_residual.result c.from_residual.ensures.1 in
    rw (p.1, p.2) (Loses-more _ _ _ _ _ _ _ c.loop-bytes.invariant.so_far c.in_err-read_more.ensures.broken_off (omega (arith, c.loop-bytes.bytes.ok.0)))
