use Rattle.std.proofs.Common.{◌≡◌, ℕ, ◌<◌, ◌≤◌, ◌++◌, List, [], get_or, ap, sym, ◌∙◌, arith}
use Rattle.std.proofs.lemmas.List.{get_or_past}
use Rattle.gup_plain.specs.Event.{words}
use Rattle.gup_frames.specs.Frames.{frames_of}
use Rattle.gup_image.specs.declared.fact.Fact.{Fact}
use Rattle.gup_image.specs.Image.{word_fact, words_of_frame}
use Rattle.gup_image.proofs.Gathered.{gathered-put, gathered-over}
use Rattle.gup_image.proofs.frames.push_words.Goals as goal

-- one word more
pub loop-w-preserved : goal.loop-w-preserved
loop-w-preserved c =
    let facts = c.loop-w.facts.items in
    let there = c.words-value-items.result.now in
    let of = words_of_frame (frames_of c.args.frames.now) c.args.frame in
    gathered-put of c.loop-w.w c.args.facts.now.items facts c.push_word.new.facts.items c.loop-w.invariant
    (c.in_ok-push_word.ensures
    ∙ ap (λ (k : ℕ). facts ++ word_fact c.args.frame k (get_or there c.loop-w.w 0)) c.word_no.ensures
    ∙ ap (λ (f : ℕ → ℕ). facts ++ word_fact c.args.frame c.loop-w.w (f c.loop-w.w)) c.words-value-items.ensures.words)

-- the words that are left out are 0
pub returns : goal.returns
returns c =
    let there = c.words-value-items.result.now in
    let frame = c.args.frame in
    let of = words_of_frame (frames_of c.args.frames.now) frame in
    let few = c.words-value-items.ensures.few in
    let none : (k : ℕ) → c.loop-w.w ≤ k → k < words → of k ≡ [] =
    λ k past below. ap (word_fact frame k) (sym (ap (λ (f : ℕ → ℕ). f k) c.words-value-items.ensures.words) ∙ get_or_past there k 0 (omega (arith, c.loop-w-test.false, past))) in
    c.loop-w.invariant ∙ ap (λ (xs : List Fact). c.args.facts.now.items ++ xs) (sym (gathered-over of c.loop-w.w words (omega (arith, c.loop-w.auto.w-end, few)) none))
