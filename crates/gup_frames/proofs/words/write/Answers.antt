use Rattle.std.proofs.Common.{◌+◌, ◌*◌, ◌<◌, length, arith}
use Rattle.gup_frames.proofs.FrameWords.{written_word}
use Rattle.gup_frames.proofs.words.write.Goals as goal

pub returns-then-place-len-clause-words : goal.returns-then-place-len-clause-words
returns-then-place-len-clause-words c =
    let inside : 512 * c.args.frame + c.args.word < length c.args.words.now.items = omega (arith, c.get.ensures.value, c.if-place-len.true, c.len.ensures) in
    rw c.get.ensures.value
    (written_word c.args.words.now.items c.args.frame c.args.word c.args.v (omega (arith, c.get.ensures.value, c.get.ensures.below)) inside)
