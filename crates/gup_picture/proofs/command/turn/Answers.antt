use Rattle.gup_picture.proofs.FirstWords.{turn_found, no_turn}
use Rattle.gup_picture.proofs.command.turn.Goals as goal

pub returns-in-Some : goal.returns-in-Some
returns-in-Some c = turn_found c.from.result c.in-Some.n c.args.word.now c.from.ensures c.in-Some.ensures.found

pub returns-in-None : goal.returns-in-None
returns-in-None c = λ n. no_turn c.from.result n c.args.word.now c.from.ensures c.in-None.ensures.found
