use Rattle.std.proofs.Common.{◌≡◌, drop}
use Rattle.gup_spec_grammar.specs.Outline.{with_turns}
use Rattle.gup_read.specs.Runs.{spread}
use Rattle.gup_read.proofs.turns.add_all.Given as goal

abbrev pub invariant-loop-run : goal.invariant-loop-run
invariant-loop-run l = with_turns (spread (drop l.run-index l.runs)) l.reader ≡ with_turns (spread l.runs) l.fn.reader
