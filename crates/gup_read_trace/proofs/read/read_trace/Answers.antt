use Rattle.std.proofs.Common.{arith}
use Rattle.gup_read_trace.proofs.Refused.{parted_few}
use Rattle.gup_read_trace.proofs.read.read_trace.Goals as goal

pub read_parted-requires : goal.read_parted-requires
read_parted-requires c =
    let few = parted_few c.args.text.now c.in-Some.parted c.in-Some.ensures in
    record { few = omega (arith, c.if-text-gt-MAX_BYTES.false) }
