-- What the top call is asked, and what it may answer.
use Rattle.std.specs.Prelude.{◌≡◌, ℕ, ◌<◌, ◌^◌, ◌⊎◌, Bool, false, List, [], ◌∷◌, codes, decimal, length, Option, Some, None}
use Rattle.gup_plain.specs.Note.{NoteValue}
use Rattle.gup_spec_turns.specs.Cost.{operations}
use Rattle.gup_plain.specs.declared.note.Waiting.{Waiting}
use Rattle.gup_spec_turns.specs.Cause.{WaitsForBirthOrPin}
use Rattle.gup_spec_turns.specs.Run.{RunState, IsCoreRun, waiting_in}
use Rattle.gup_core.specs.Machine.{MachineValue, Shows}
use Rattle.gup_sched.specs.Ran.{SaysStuck}
use Rattle.gup_lines.specs.Text.{outcomes_of}
use Rattle.gup_io.specs.Transfers.{AppendsPart}
use Rattle.gup_spec_journal.specs.Plain.{IsPlain}
use Rattle.gup_spec_journal.specs.Thorough.{IsThorough}
use Rattle.gup_spec_accepted.specs.Accepted.{Accepted}
use Rattle.gup_spec_journal.specs.Follows.{Follows}
use Rattle.gup_spec_journal.specs.Order.{InOrder}
use Rattle.gup_spec_journal.specs.Place.{starts_born}
use Rattle.gup_law_owners.specs.Owners.{OwnsBytes, journal_events}
use Rattle.gup_top.specs.declared.command.Command.{Command}
use Rattle.gup_top.specs.declared.command.Command.TheVariants.{Run, Check, Make}
use Rattle.gup_top.specs.declared.command.Format.{Format}
use Rattle.gup_top.specs.declared.command.Format.TheVariants.{Answers, Trace}
use Rattle.gup_spec_trace.specs.Trace.{trace_text}
use Rattle.gup_top.specs.Cause.{HasCauses}
use Rattle.gup_spec_journal.specs.Stale.{AreStaleSeen}
use Rattle.gup_make.specs.Made.{made_text}
use Rattle.gup_top.specs.Stuck.{IsFinishedRun, IsStuckRun, AreWaiting, run_text, summary_text}
use Rattle.gup_spec_grammar.specs.Grammar.{Accepts}
use Rattle.gup_script.specs.Script.{ScriptValue}

-- The command `run`: that word alone.
abbrev pub IsRun : List (List ℕ) → Type 0
IsRun words = words ≡ codes "run" ∷ []

-- The command `trace`: that word alone.
abbrev pub IsTraced : List (List ℕ) → Type 0
IsTraced words = words ≡ codes "trace" ∷ []

-- the words ask for a run of the source's script, to be told so
abbrev pub IsToldIn : List (List ℕ) → Format → Type 0
IsToldIn words Answers = IsRun words
IsToldIn words Trace = IsTraced words

-- one of these two
abbrev pub RunsScript : List (List ℕ) → Type 0
RunsScript words = IsRun words ⊎ IsTraced words

-- The command `check`: that word alone.
abbrev pub IsChecked : List (List ℕ) → Type 0
IsChecked words = words ≡ codes "check" ∷ []

-- The command `make`: that word, and a number below 2^64, as it is spelled without a sign or a zero in front.
abbrev pub IsMake : List (List ℕ) → (n : ℕ) → Type 0
IsMake words n = (words ≡ codes "make" ∷ decimal n ∷ []) × (n < 2 ^ 64)

-- a command that needs no threads: one of the four
abbrev pub IsSerial : List (List ℕ) → Type 0
IsSerial words = RunsScript words ⊎ IsChecked words ⊎ ((n : ℕ) × IsMake words n)

-- The command `live`: that word alone, and with `trace` behind it where the run is to be told so.
abbrev pub IsLiveIn : List (List ℕ) → Format → Type 0
IsLiveIn words Answers = words ≡ codes "live" ∷ []
IsLiveIn words Trace = words ≡ codes "live" ∷ codes "trace" ∷ []

-- one of these two
abbrev pub RunsLive : List (List ℕ) → Type 0
RunsLive words = IsLiveIn words Answers ⊎ IsLiveIn words Trace

-- the words are a command
abbrev pub IsCommand : List (List ℕ) → Type 0
IsCommand words = IsSerial words ⊎ RunsLive words

-- the words are those of this command
abbrev pub IsAsked : List (List ℕ) → Command → Type 0
IsAsked words (Run format) = IsToldIn words format
IsAsked words Check = IsChecked words
IsAsked words (Make n) = IsMake words n

-- the statuses that `run` and `trace` have
abbrev pub IsStatus : ℕ → Type 0
IsStatus status =
    (status ≡ 0) ⊎ (status ≡ 2) ⊎ (status ≡ 3) ⊎ (status ≡ 4) ⊎ (status ≡ 5) ⊎ (status ≡ 6) ⊎ (status ≡ 7)

-- a script ran, to the end of all its actors or to where some are stuck, and its text was taken
abbrev pub HasRun : ℕ → Type 0
HasRun status = (status ≡ 0) ⊎ (status ≡ 4)

-- what is written where the words are no command
abbrev pub usage : List ℕ
usage = codes "usage: gup COMMAND\n"

-- What is said of a run of a script. At its end an actor has operations left and waits, or each has finished, and then each
-- operation has one answer.
pub record IsRunOf (script : ScriptValue) (stuck : Bool) (notes : List NoteValue) (end : RunState) : Type 0 where
  pub follows : Follows script notes
  pub in_order : InOrder script notes
  pub plain : IsPlain script notes
  pub thorough : IsThorough script notes
  pub accepted : Accepted script notes
  pub owned : OwnsBytes (starts_born script) (journal_events notes)
  pub causes : HasCauses script notes
  pub stale : AreStaleSeen script notes
  pub core : IsCoreRun script notes end
  pub ends : SaysStuck stuck script end
  pub waits : AreWaiting script end
  pub lines : stuck ≡ false → length (outcomes_of notes) ≡ operations script

-- the machine shows the end of the run, and how many turns it had, and who waits there waits for a process or for a pin
pub record IsEndOfRun (script : ScriptValue) (stuck : Bool) (notes : List NoteValue) (machine : MachineValue) (end : RunState) : Type 0 where
  pub run : IsRunOf script stuck notes end
  pub shown : Shows machine end
  pub turns : machine.turns ≡ end.turns
  pub named : (a : ℕ) (waiting : Waiting) → waiting_in script end a ≡ Some waiting → WaitsForBirthOrPin script waiting

-- The machine is there, and is as it stands at the end of the run: it has the script, shows that state, and has counted its turns.
abbrev pub HasMachine : Option MachineValue → ScriptValue → RunState → Type 0
HasMachine None script end = ⊥
HasMachine (Some machine) script end = (machine.script ≡ script) × Shows machine end × (machine.turns ≡ end.turns)

-- The text of a run of the script that has these bytes. A trace has no lines of stuck actors.
abbrev pub text_in : Format → (bytes : List ℕ) → ScriptValue → List NoteValue → RunState → List ℕ
text_in Answers bytes script notes end = run_text script notes end
text_in Trace bytes script notes end = trace_text bytes script notes

-- the script with these bytes has run to this journal and this machine, and this is the text of the run
abbrev pub IsToldRun : Format → (bytes : List ℕ) → ScriptValue → (stuck : Bool) → List NoteValue → Option MachineValue → (text : List ℕ) → Type 0
IsToldRun format bytes script stuck notes machine text =
    (end : RunState) × IsRunOf script stuck notes end × HasMachine machine script end × (text ≡ text_in format bytes script notes end)

-- the script has run to these, and a sink has taken a prefix of its text, and not all of it
abbrev pub IsPartlyTold : Format → (bytes : List ℕ) → ScriptValue → List NoteValue → Option MachineValue → (taken taken_after : Option (List ℕ)) → Type 0
IsPartlyTold format bytes script notes machine taken taken_after =
    (stuck : Bool) × (text : List ℕ) × IsToldRun format bytes script stuck notes machine text × AppendsPart taken taken_after text

-- the text that is made from n is that of a script, which has run, and this is the summary of the run
abbrev pub IsMadeRun : (n : ℕ) → (stuck : Bool) → (text : List ℕ) → Type 0
IsMadeRun n stuck text =
    (script : ScriptValue) × (notes : List NoteValue) × (end : RunState)
    × Accepts (made_text n) script × IsRunOf script stuck notes end × (text ≡ summary_text script notes end)

-- the statuses that `make` has: those of a script, which is not read from the source
abbrev pub IsMadeStatus : ℕ → Type 0
IsMadeStatus status = HasRun status ⊎ (status ≡ 6) ⊎ (status ≡ 7)

-- which of the statuses a script has that is run without a fault, and what is so then
abbrev pub IsEnd : ScriptValue → (status : ℕ) → List NoteValue → Type 0
IsEnd script status notes =
    ((status ≡ 0) × IsFinishedRun script notes × (length (outcomes_of notes) ≡ operations script))
    ⊎ ((status ≡ 4) × IsStuckRun script notes) ⊎ (status ≡ 7)
