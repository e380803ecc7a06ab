use Rattle.std.proofs.Common.{◌≡◌, [], ◌≤◌, length, map, drop}
use Rattle.gup_read.specs.Reading.{segments_in, behind_parts}
use Rattle.gup_read.proofs.operations.read_parts.Given as goal

abbrev pub invariant-loop-word : goal.invariant-loop-word
invariant-loop-word l =
    record {
      few : length l.parts ≤ l.word-index;
      same : behind_parts l.parts l.room (segments_in (map (λ word. word.now) (drop l.word-index l.words))) ≡ behind_parts [] 64 (segments_in (map (λ word. word.now) l.words));
    }
