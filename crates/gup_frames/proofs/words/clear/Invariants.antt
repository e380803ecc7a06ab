use Rattle.std.proofs.Common.{◌≡◌, vec_len, vec_capacity}
use Rattle.gup_frames.specs.Frames.{word_in}
use Rattle.gup_frames.proofs.FrameWords.{front_zero}
use Rattle.gup_frames.proofs.words.clear.Given as goal

abbrev pub invariant-loop-word : goal.invariant-loop-word
invariant-loop-word l =
    (word_in l.words.items ≡ front_zero l.frame l.word (word_in l.initial.words.items))
    × (vec_len l.words ≡ vec_len l.initial.words)
    × (vec_capacity l.words ≡ vec_capacity l.initial.words)
