-- By induction over the notes.
use Rattle.std.proofs.Common.{List, [], ◌∷◌, ◌++◌}
use Rattle.std.specs.Prelude.{Option, Some, None}
use Rattle.gup_plain.specs.Note.{NoteValue}
use Rattle.gup_plain.specs.State.{PlainState}
use Rattle.gup_plain.specs.declared.event.PlainEvent.{PlainEvent}
use Rattle.gup_plain.specs.declared.note.What.{What}
use Rattle.gup_plain.specs.declared.note.What.TheVariants.{Silent, Idle, Wait, Event, Done}
use Rattle.gup_script.specs.declared.op.Op.{Op}
use Rattle.gup_script.specs.Script.{ScriptValue}
use Rattle.gup_exec_plain.specs.LastWrite.{ArePossible}
use Rattle.gup_spec_journal.specs.Denial.{References}
use Rattle.gup_spec_journal.specs.Place.{Place, Doer, doer_of, present_op}
use Rattle.gup_spec_journal.specs.Plain.{Judged, judged_first, judged_after, AreSo, IsRightAt, plain_after}
use Rattle.gup_law_owners.specs.Owners.{event_in, journal_events}
use Rattle.gup_law_owners.proofs.plain_journals_are_possible.Goals as goal

-- one note
first_possible : (s : PlainState) (references : References) (who : Doer) (place : Place) (op : Option Op) (what : What) (rest : List PlainEvent) → IsRightAt s references who place op what → ArePossible (plain_after s what) rest → ArePossible s (event_in what ++ rest)
first_possible s references who place (Some op) (Event e) rest right possible = (right.0, possible)
first_possible s references who place None (Event e) rest right possible = absurd right
first_possible s references who place op Silent rest right possible = possible
first_possible s references who place op Idle rest right possible = possible
first_possible s references who place op (Wait waiting) rest right possible = possible
first_possible s references who place op (Done answer) rest right possible = possible

all_possible : (script : ScriptValue) (j : Judged) (notes : List NoteValue) → AreSo IsRightAt script j notes → ArePossible j.plain (journal_events notes)
all_possible script j [] plain = tt
all_possible script j (note ∷ notes) plain =
    let place = j.places note.actor in
    first_possible j.plain j.references (doer_of script note.actor (present_op script note.actor (j.places note.actor))) place (present_op script note.actor place) note.what (journal_events notes) plain.0
    (all_possible script (judged_after script j note) notes plain.1)

pub returns : goal.returns
returns c = λ script notes plain. all_possible script (judged_first script) notes plain
