-- A trace: the text of a script, the line `journal`, and a line for each note.
use Rattle.std.specs.Prelude.{◌≡◌, ℕ, ◌+◌, ◌≤◌, ◌<◌, ◌⊎◌, List, [], ◌∷◌, ◌++◌, codes, length, All}
use Rattle.std.specs.List.{flat_map}
use Rattle.gup_plain.specs.Note.{NoteValue}
use Rattle.gup_script.specs.Script.{ScriptValue}
use Rattle.gup_spec_grammar.specs.Fault.{HasFault}
use Rattle.gup_spec_grammar.specs.Grammar.{Accepts}
use Rattle.gup_spec_grammar.specs.Spelling.{parts}
use Rattle.gup_spec_grammar.specs.declared.fault.Reason.TheVariants.{Long, Short, Note}
use Rattle.gup_spec_grammar.specs.declared.fault.ScriptFault.{ScriptFault}
use Rattle.gup_spec_trace.specs.Note.{note_line}
use Rattle.gup_spec_trace.specs.Written.{CanBeWritten}

-- the line, without its line feed, is that of a note that can be written
abbrev pub IsLineOf : ScriptValue → (line : List ℕ) → NoteValue → Type 0
IsLineOf script line note = CanBeWritten script note × (line ++ codes "\n" ≡ note_line script note)

abbrev pub IsNoLine : ScriptValue → (line : List ℕ) → Type 0
IsNoLine script line = (note : NoteValue) → IsLineOf script line note → ⊥

-- the line between the script and the notes
abbrev pub journal_line : List ℕ
journal_line = codes "journal\n"

-- what is written: `front` is the text of the script
abbrev pub trace_text : (front : List ℕ) → ScriptValue → List NoteValue → List ℕ
trace_text front script notes = front ++ journal_line ++ flat_map (note_line script) notes

-- the bytes are a trace of this script and these notes
abbrev pub IsTrace : List ℕ → ScriptValue → List NoteValue → Type 0
IsTrace text script notes =
    (front : List ℕ) × (text ≡ trace_text front script notes) × Accepts front script × All (CanBeWritten script) notes

-- The most bytes of a trace.
abbrev pub most_bytes : ℕ
most_bytes = 67108864

-- whole lines: nothing stands behind the last line feed
abbrev pub AreLines : List ℕ → (lines : List (List ℕ)) → Type 0
AreLines text lines = parts 10 text ≡ lines ++ [] ∷ []

-- The part of a text before its first line `journal`, and what stands behind that line.
abbrev pub IsParted : (text front behind : List ℕ) → (lines : List (List ℕ)) → Type 0
IsParted text front behind lines =
    (text ≡ front ++ journal_line ++ behind) × AreLines front lines × All (λ line. line ≡ codes "journal" → ⊥) lines

-- the text has no such line
abbrev pub HasNoJournal : List ℕ → Type 0
HasNoJournal text = (front behind : List ℕ) (lines : List (List ℕ)) → IsParted text front behind lines → ⊥

-- no line of a note stands at the beginning
abbrev pub IsNoNote : ScriptValue → (rest : List ℕ) → Type 0
IsNoNote script rest =
    (note : NoteValue) (behind : List ℕ) → CanBeWritten script note → rest ≡ note_line script note ++ behind → ⊥

-- Behind these many lines and the line `journal` stand right notes, and then a line that is none.
abbrev pub NoteFault : ScriptValue → (lines : ℕ) → (behind : List ℕ) → ScriptFault → Type 0
NoteFault script lines behind fault =
    (good : List NoteValue) × (rest : List ℕ) × (behind ≡ flat_map (note_line script) good ++ rest) × (rest ≡ [] → ⊥)
    × All (CanBeWritten script) good × IsNoNote script rest
    × (fault.line ≡ lines + 1 + length good + 1) × (fault.reason ≡ Note)

-- what is wrong where there is the line `journal`: the script in front of it, or else a note behind it
abbrev pub PartedFault : (text : List ℕ) → ScriptFault → Type 0
PartedFault text fault =
    (front behind : List ℕ) × (lines : List (List ℕ)) × IsParted text front behind lines
    × (HasFault front fault ⊎ ((script : ScriptValue) × Accepts front script × NoteFault script (length lines) behind fault))

-- what is wrong where there is none: the text as a script, or else that it ends too early
abbrev pub WholeFault : (text : List ℕ) → ScriptFault → Type 0
WholeFault text fault =
    HasNoJournal text
    × (HasFault text fault
    ⊎ ((script : ScriptValue) × (lines : List (List ℕ)) × Accepts text script × AreLines text lines
    × (fault.line ≡ length lines + 1) × (fault.reason ≡ Short)))

-- The bytes are no trace for this fault: they are too many, or they have it by the rules above.
abbrev pub HasTraceFault : List ℕ → ScriptFault → Type 0
HasTraceFault text fault =
    ((fault.line ≡ 0) × (fault.reason ≡ Long) × (most_bytes < length text))
    ⊎ ((length text ≤ most_bytes) × (PartedFault text fault ⊎ WholeFault text fault))
