use Rattle.gup_exec_parts.proofs.WordsLemmas.{zeros-word_of}
use Rattle.gup_exec_parts.proofs.words.Words.zeros.Goals as goal

pub returns : goal.returns
returns c = rw c.in_ok-fresh.ensures.0 zeros-word_of
