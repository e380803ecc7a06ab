use Rattle.std.proofs.Common.{◌≡◌, ◌+◌, ◌*◌, ◌<◌, length, arith, ◌∙◌, ap}
use Rattle.gup_plain.specs.Put.{put}
use Rattle.gup_frames.specs.Frames.{word_in}
use Rattle.gup_frames.proofs.FrameWords.{front_zero, front_all, front_more, unwritten}
use Rattle.gup_frames.proofs.words.clear.Goals as goal

pub loop-word-preserved : goal.loop-word-preserved
loop-word-preserved c =
    let inside : 512 * c.args.frame + c.loop-word.word < length c.loop-word.words.items = omega (arith, c.loop-word.invariant.1, c.reach.ensures.reached) in (
      front_more c.loop-word.words.items c.reach.new.words.items c.args.frame c.loop-word.word c.loop-word-test.true inside c.loop-word.invariant.0,
      c.loop-word.invariant.1,
      c.loop-word.invariant.2,
    )

pub returns-after-loop-word-clause-words : goal.returns-after-loop-word-clause-words
returns-after-loop-word-clause-words c =
    let all : c.loop-word.word ≡ 512 = omega arith in
    c.loop-word.invariant.0
    ∙ ap (λ n. front_zero c.args.frame n (word_in c.reach.new.words.items)) all
    ∙ front_all c.args.frame c.reach.new.words.items
    ∙ ap (put c.args.frame (λ _. 0)) c.reach.ensures.words

pub returns-else-first-len-clause-words : goal.returns-else-first-len-clause-words
returns-else-first-len-clause-words c = unwritten c.args.words.now.items c.args.frame (omega (arith, c.len.ensures))

pub returns-after-loop-word-clause-within : goal.returns-after-loop-word-clause-within
returns-after-loop-word-clause-within c frames there few =
    let reached = c.reach.ensures.within frames there few in
    omega (arith, reached, c.loop-word.invariant.1)
