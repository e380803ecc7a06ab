use denote.Shadow.{shadow}
use denote.Text.{Utf8}
use Rattle.std.proofs.Common.{◌≡◌, ◌++◌, map, length}
use Rattle.gup_spec_grammar.specs.Spelling.{parts}
use Rattle.gup_read_words.proofs.text.cut_words.Given as goal

abbrev pub invariant-loop-word : goal.invariant-loop-word
invariant-loop-word l =
    record {
      done : map (λ word. word.now) l.words.items ++ parts 32 l.rest ≡ parts 32 l.line;
      text : shadow (Utf8 l.rest);
    }

abbrev pub decreases-loop-word : goal.decreases-loop-word
decreases-loop-word l = length l.rest
