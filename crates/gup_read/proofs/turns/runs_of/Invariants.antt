use Rattle.std.proofs.Common.{◌≡◌, ◌+◌, ◌≤◌, Some, map, drop, length, vec_len, vec_capacity}
use denote.Shadow.{shadow}
use denote.Text.{Utf8}
use Rattle.gup_read_words.specs.Text.{turn_times}
use Rattle.gup_read.specs.Reading.{turner}
use Rattle.gup_read.specs.Runs.{turn_in}
use Rattle.gup_read.proofs.Turners.{AreJudged}
use Rattle.gup_read.proofs.turns.runs_of.Given as goal

abbrev pub invariant-loop-word : goal.invariant-loop-word
invariant-loop-word l =
    record {
      before : turn_in (turner l.reader l.before) (turn_times l.before) ≡ Some (l.actor, l.times);
      text : shadow (Utf8 l.before);
      judged : AreJudged l.reader (map (λ word. word.now) l.words) (map (λ word. word.now) (drop l.word-index l.words)) l.runs.items;
      room : vec_len l.runs + length (drop l.word-index l.words) ≤ vec_capacity l.runs;
    }
