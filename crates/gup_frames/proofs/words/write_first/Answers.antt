use Rattle.std.proofs.Common.{◌+◌, ◌*◌, ◌<◌, ◌∙◌, length, arith, ap}
use Rattle.gup_plain.specs.Put.{put2}
use Rattle.gup_frames.proofs.FrameWords.{written_word}
use Rattle.gup_frames.proofs.words.write_first.Goals as goal

pub returns-clause-words : goal.returns-clause-words
returns-clause-words c =
    let inside : 512 * c.args.frame + c.args.word < length c.reach.new.words.items = omega (arith, c.reach.ensures.reached, c.get.ensures.value, c.get.ensures.below) in
    rw c.get.ensures.value
    (written_word c.reach.new.words.items c.args.frame c.args.word c.args.v (omega (arith, c.get.ensures.value, c.get.ensures.below)) inside
    ∙ ap (put2 c.args.frame c.args.word c.args.v) c.reach.ensures.words)
