use Rattle.gup_read_notes.proofs.Lines.{one_note}
use Rattle.gup_read_notes.proofs.note.one_note.Goals as goal

pub returns : goal.returns
returns c = λ script line m n names a b. one_note script line m n names a b
