-- Each part by induction over the beginning.
use Rattle.gup_law_accepted.proofs.Beginnings.{accepted_beginning}
use Rattle.gup_law_accepted.proofs.beginnings_are_accepted.Goals as goal

pub returns : goal.returns
returns c script notes more is = accepted_beginning script notes more is
