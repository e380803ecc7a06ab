use Rattle.std.proofs.Common.{◌≡◌, take}
use Rattle.gup_summary.specs.Summary.{words_sum}
use Rattle.gup_summary.proofs.Counts.{answers_over, oks_over}
use Rattle.gup_summary.proofs.counting.Counts.of.Given as goal

-- the notes so far are counted
abbrev pub invariant-loop-note : goal.invariant-loop-note
invariant-loop-note l =
    (l.counts.answers ≡ answers_over (take l.note-index l.note-items))
    × (l.counts.ok ≡ oks_over (take l.note-index l.note-items))
    × (l.counts.words ≡ words_sum (take l.note-index l.note-items))
