use Rattle.std.proofs.Common.{ℕ, ap}
use Rattle.gup_plain.specs.declared.note.What.{What}
use Rattle.gup_plain.specs.Note.{NoteValue}
use Rattle.gup_plain.specs.Kinds.{what_of-kind_of}
use Rattle.gup_plain.proofs.note.Note.new.Goals as goal

abbrev with_what : (turn actor op : ℕ) → What → NoteValue
with_what turn actor op what = record { turn = turn; actor = actor; op = op; what = what }

pub returns : goal.returns
returns c = rw c.of.ensures (ap (with_what c.args.turn c.args.actor c.args.op) (what_of-kind_of c.args.what))
