-- What a run in some order prints.
use Rattle.std.specs.Prelude.{◌≡◌, ℕ, ◌<◌, ◌+◌, ◌==◌, ◌&&◌, Bool, List, [], ◌∷◌, ◌++◌, Option, map, filter, length}
use Rattle.std.specs.List.{flat_map}
use Rattle.gup_plain.specs.Note.{NoteValue}
use Rattle.gup_script.specs.Script.{ScriptValue}
use Rattle.gup_spec_turns.specs.Run.{RunState, run_start, turned, waiting_in, IsCoreRun}
use Rattle.gup_lines.specs.Text.{outcomes_of}
use Rattle.gup_lines.specs.declared.outcome.Outcome.{Outcome as Line}
use Rattle.gup_spec_orders.specs.Orders.{setup, journal_in, tells_of, IsOrder}
use Rattle.gup_spec_orders.specs.declared.told.Named.{Named}
use Rattle.gup_spec_orders.specs.declared.told.Tell.{Tell}
use Rattle.gup_spec_orders.specs.declared.told.Told.{Told}
use Rattle.gup_spec_orders.specs.declared.told.Told.TheVariants.{Word, Answer}

-- ---- the lines of named operations

-- is the line one of the operation?
abbrev pub is_line_of : Named → Line → Bool
is_line_of name line = (line.actor == name.actor) && (line.op == name.op)

-- the lines of a journal that are of the named operations, operation by operation
abbrev pub lines_in : List Named → List NoteValue → List Line
lines_in named notes = flat_map (λ (name : Named). filter (is_line_of name) (outcomes_of notes)) named

-- the lines that an operation's tells are, where it has moved these words before them
abbrev pub lines_from : Named → (words : List ℕ) → List Told → List Line
lines_from name words [] = []
lines_from name words (Word word ∷ tolds) = lines_from name (words ++ word ∷ []) tolds
lines_from name words (Answer answer ∷ tolds) =
    (record { actor = name.actor; op = name.op; answer = answer; words = words }) ∷ lines_from name [] tolds

-- the lines that tells are, of the operations that are named from the place k on
abbrev pub lines_told_from : (k : ℕ) → List Named → List Tell → List Line
lines_told_from k [] tells = []
lines_told_from k (name ∷ named) tells = lines_from name [] (tells_of tells k) ++ lines_told_from (k + 1) named tells

abbrev pub lines_told : List Named → List Tell → List Line
lines_told named tells = lines_told_from 0 named tells

-- ---- orders as runs

-- the script with these written turns in place of its own
abbrev pub with_turns : (order : List ℕ) → ScriptValue → ScriptValue
with_turns order script = record script { turns = order }

-- Where these are written turns, the script's core run takes them, and no others: it has the journal of the order, and each actor waits
-- at its end for what it waits for behind the order.
pub record IsRunInOrder (script : ScriptValue) (order : List ℕ) (end : RunState) : Type 0 where
  pub run : IsCoreRun (with_turns order script) (journal_in script order) end
  pub waits : (a : ℕ) → waiting_in (with_turns order script) end a ≡ waiting_in script (turned script (run_start script) order) a
