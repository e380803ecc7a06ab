-- A line that a run prints.
use Rattle.std.specs.Prelude.{ℕ, Bool, ◌==◌, ◌&&◌, List, ◌++◌, map}
use Rattle.std.specs.List.{list_any, list_all}
use Rattle.std.specs.Str.{bytes_eq}
use Rattle.gup_plain.specs.Note.{NoteValue}
use Rattle.gup_script.specs.Script.{ScriptValue}
use Rattle.gup_lines.specs.Text.{head_of, answer_text, outcomes_of}
use Rattle.gup_lines.specs.declared.outcome.Outcome.{Outcome as Told}

-- the actor, the number of its operation, and the text of the answer
pub record LineValue : Type 0 where
  pub actor : ℕ
  pub op : ℕ
  pub text : List ℕ

-- the line of an answer
abbrev pub line_of_answer : Told → LineValue
line_of_answer told = record { actor = told.actor; op = told.op; text = answer_text told.answer told.words }

-- the lines that a run with this journal prints
abbrev pub printed : List NoteValue → List LineValue
printed notes = map line_of_answer (outcomes_of notes)

-- how a line stands in a text, without its line feed
abbrev pub line_text : ScriptValue → LineValue → List ℕ
line_text script line = head_of script line.actor line.op ++ line.text

-- are they the same?
abbrev pub is_same : LineValue → LineValue → Bool
is_same a b = (a.actor == b.actor) && ((a.op == b.op) && bytes_eq a.text b.text)

-- is the line among these, and are all of some lines?
abbrev pub has_line : (lines : List LineValue) → LineValue → Bool
has_line lines line = list_any (is_same line) lines

abbrev pub has_all : (lines wanted : List LineValue) → Bool
has_all lines wanted = list_all (has_line lines) wanted
