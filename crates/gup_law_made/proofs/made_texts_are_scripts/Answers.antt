-- The head, the rounds and the last line, one after another.
use Rattle.gup_law_made.proofs.Turns.{made_accepted}
use Rattle.gup_law_made.proofs.made_texts_are_scripts.Goals as goal

pub returns : goal.returns
returns c = made_accepted
