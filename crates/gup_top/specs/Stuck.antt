-- The end of a run, and the lines of the actors that are stuck there.
use Rattle.std.specs.Prelude.{◌≡◌, ℕ, ◌<◌, false, List, [], ◌++◌, length, Some, zero, suc}
use Rattle.gup_plain.specs.Note.{NoteValue}
use Rattle.gup_plain.specs.declared.note.Waiting.{Waiting}
use Rattle.gup_script.specs.Script.{ScriptValue}
use Rattle.gup_spec_journal.specs.Place.{has_finished}
use Rattle.gup_spec_turns.specs.Cause.{HaveFinished, WaitsForBirthOrPin}
use Rattle.gup_spec_turns.specs.Run.{RunState, IsCoreRun, waiting_in}
use Rattle.gup_sched.specs.Ran.{IsStuckAt}
use Rattle.gup_lines.specs.Text.{text_of}
use Rattle.gup_front.specs.Lines.{stuck_of}
use Rattle.gup_summary.specs.Summary.{summary_lines}

-- the journal is the script's core run, in which every actor has finished
abbrev pub IsFinishedRun : ScriptValue → List NoteValue → Type 0
IsFinishedRun script notes = (end : RunState) × IsCoreRun script notes end × HaveFinished script end

-- each actor that has operations left waits for a process of the script to be born, or for a pin of the script
abbrev pub AreWaiting : ScriptValue → RunState → Type 0
AreWaiting script end =
    (a : ℕ) → a < length script.actors → has_finished script a (end.places a) ≡ false
    → (waiting : Waiting) × (waiting_in script end a ≡ Some waiting) × WaitsForBirthOrPin script waiting

-- the journal is the script's core run, at whose end actors have operations left, and each of them waits
abbrev pub IsStuckRun : ScriptValue → List NoteValue → Type 0
IsStuckRun script notes = (end : RunState) × IsCoreRun script notes end × IsStuckAt script end × AreWaiting script end

-- the lines of the first n actors, in declared order: who waits at the end of a run has operations left
abbrev pub stuck_lines : ScriptValue → RunState → ℕ → List ℕ
stuck_lines script end zero = []
stuck_lines script end (suc n) = stuck_lines script end n ++ stuck_of script n (waiting_in script end n)

abbrev pub stuck_text : ScriptValue → RunState → List ℕ
stuck_text script end = stuck_lines script end (length script.actors)

-- the text of a run: the answers, and after them the actors that are stuck
abbrev pub run_text : ScriptValue → List NoteValue → RunState → List ℕ
run_text script notes end = text_of script notes ++ stuck_text script end

-- the text of the summary of a run: its four lines, and after them the actors that are stuck at the end
abbrev pub summary_text : ScriptValue → List NoteValue → RunState → List ℕ
summary_text script notes end = summary_lines notes end.turns ++ stuck_text script end
