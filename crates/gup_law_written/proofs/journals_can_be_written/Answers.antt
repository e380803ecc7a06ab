-- A note is one of an operation, which says what that may, or it says that its actor has finished or waits.
use Rattle.std.proofs.Common.{◌≡◌, ℕ, true, Option, get_or, refl}
use Rattle.std.proofs.lemmas.List.Elements.{All-from_recursion}
use Rattle.gup_plain.specs.Note.{NoteValue}
use Rattle.gup_plain.specs.declared.note.What.{What}
use Rattle.gup_plain.specs.declared.note.What.TheVariants.{Idle, Wait}
use Rattle.gup_script.specs.Script.{ScriptValue}
use Rattle.gup_script.specs.declared.op.Op.{Op}
use Rattle.gup_spec_journal.specs.Follows.{is_of_operation}
use Rattle.gup_spec_trace.specs.Written.{op_at}
use Rattle.gup_law_written.proofs.NamedNotes.{Says, note_written}
use Rattle.gup_law_written.proofs.OwnNotes.{IsNamed, IfOwn, own_named}
use Rattle.gup_law_written.proofs.TurnNotes.{WaitsFor, IsTold, notes_told}
use Rattle.gup_law_written.proofs.journals_can_be_written.Goals as goal

-- a note that waits says what is waited for, one that is an operation's what that may, and any other nothing
says : (s : ScriptValue) (a : ℕ) (op : Option Op) (what : What) → WaitsFor s what → (is_of_operation what ≡ true → Says s a op what) → Says s a op what
says s a op (Wait waiting) waits own = waits
says s a op Idle waits own = tt
says s a op what waits own = own refl

pub returns : goal.returns
returns c script notes valid follows order kept k d within =
    let note : NoteValue = get_or notes k d in
    let told : IsTold script note = All-from_recursion (IsTold script) notes (notes_told script valid notes order) k d within in
    let own : is_of_operation note.what ≡ true → IsNamed script note =
    All-from_recursion (IfOwn (IsNamed script) note.actor) notes
    (own_named script valid notes follows note.actor) k d within refl in
    note_written script note (kept k d within) told.0 (says script note.actor (op_at script note.actor note.op) note.what told.1 own)
