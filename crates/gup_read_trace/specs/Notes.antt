-- The notes that bytes are, or begin with.
use Rattle.std.specs.Prelude.{◌≡◌, ℕ, List, [], ◌∷◌, ◌++◌, All, Option, Some, None}
use Rattle.std.specs.Borrow.{Bor}
use Rattle.std.specs.List.{flat_map}
use Rattle.gup_plain.specs.Note.{NoteValue}
use Rattle.gup_script.specs.Script.{ScriptValue}
use Rattle.gup_spec_grammar.specs.declared.fault.ReadRefusal.{ReadRefusal}
use Rattle.gup_spec_grammar.specs.declared.fault.ReadRefusal.TheVariants.{Fault, NoMemory}
use Rattle.gup_spec_trace.specs.Note.{note_line}
use Rattle.gup_spec_trace.specs.Written.{CanBeWritten}
use Rattle.gup_spec_trace.specs.Trace.{IsNoNote, NoteFault}

-- the bytes begin with no note's line, or with that of a note, by which a journal grew
abbrev pub IsTaken : ScriptValue → (rest : List ℕ) → (old new : List NoteValue) → Option (Bor (List ℕ)) → Type 0
IsTaken script rest old new None = IsNoNote script rest
IsTaken script rest old new (Some behind) =
    (note : NoteValue) × CanBeWritten script note × (rest ≡ note_line script note ++ behind.now) × (new ≡ old ++ note ∷ [])

-- the bytes are the lines of these notes
abbrev pub AreNotes : ScriptValue → (text : List ℕ) → List NoteValue → Type 0
AreNotes script text notes = (text ≡ flat_map (note_line script) notes) × All (CanBeWritten script) notes

-- no line of a note stands at that place, or memory ran out
abbrev pub IsNoteRefusal : ScriptValue → (lines : ℕ) → (text : List ℕ) → ReadRefusal → Type 0
IsNoteRefusal script lines text (Fault fault) = NoteFault script lines text fault
IsNoteRefusal script lines text NoMemory = Unit {0}
