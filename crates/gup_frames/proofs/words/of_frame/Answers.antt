use Rattle.std.proofs.Common.{arith}
use Rattle.gup_frames.proofs.FrameWords.{words_there}
use Rattle.gup_frames.proofs.words.of_frame.Goals as goal

pub returns-clause-words : goal.returns-clause-words
returns-clause-words c =
    let first = c.min-first.ensures in
    let end = c.min-end.ensures in
    words_there c.args.words.now c.args.frame c.min-first.result c.min-end.result (omega (arith, first, end, c.of_frames.ensures, c.of_frames-2.ensures)) (omega (arith, first, end, c.of_frames.ensures, c.of_frames-2.ensures)) (omega (arith, first, end, c.of_frames.ensures, c.of_frames-2.ensures)) (λ a. omega (arith, a, first, end, c.of_frames.ensures, c.of_frames-2.ensures)) (λ b. omega (arith, b, first, end, c.of_frames.ensures, c.of_frames-2.ensures)) (λ d. omega (arith, d, first, end, c.of_frames.ensures, c.of_frames-2.ensures)) (λ e. omega (arith, e, first, end, c.of_frames.ensures, c.of_frames-2.ensures))
