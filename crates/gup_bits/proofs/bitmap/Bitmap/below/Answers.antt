use Rattle.std.proofs.Common.{◌≡◌, ◌∙◌, ap, arith, true}
use Rattle.gup_plain.specs.Put.{put}
use Rattle.gup_bits.proofs.Bits.{below_more}
use Rattle.gup_bits.proofs.bitmap.Bitmap.below.Goals as goal

pub loop-k-preserved : goal.loop-k-preserved
loop-k-preserved c = (
  c.insert.ensures.set
      ∙ ap (put c.loop-k.k true) c.loop-k.invariant.0
      ∙ below_more c.loop-k.k,
  omega (arith, c.insert.ensures.room, c.loop-k.invariant.1),
)

pub returns : goal.returns
returns c = let e : c.loop-k.k ≡ c.args.n = omega arith in record {
  set = rw (← e) c.loop-k.invariant.0;
  room = c.loop-k.invariant.1;
}
