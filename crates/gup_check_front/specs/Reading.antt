-- What is read of a source, where it tells its bytes, and the trace that they are.
use Rattle.std.specs.Prelude.{◌≡◌, ℕ, ◌≤◌, Bool, List, drop, length, Option, None, Some}
use Rattle.gup_io.specs.Faults.{EndsInFault}
use Rattle.gup_plain.specs.Note.{NoteValue}
use Rattle.gup_script.specs.Script.{ScriptValue}
use Rattle.gup_spec_grammar.specs.declared.fault.ScriptFault.{ScriptFault}
use Rattle.gup_spec_trace.specs.Trace.{IsTrace, HasTraceFault, most_bytes}
use Rattle.gup_front.specs.Reading.{AreBytes}
use Rattle.gup_front.specs.declared.reading.Unread.{Unread}
use Rattle.gup_front.specs.declared.reading.Unread.TheVariants.{Failed, Fault, NoMemory}

-- the bytes are a trace, and not too long
abbrev pub AreFitting : List ℕ → ScriptValue → List NoteValue → Type 0
AreFitting bytes script notes = IsTrace bytes script notes × (length bytes ≤ most_bytes)

-- Where the source tells its bytes, this holds of the trace that they are, if they are one that isn't too long.
abbrev pub OfTrace : Option (List ℕ) → (ScriptValue → List NoteValue → Type 0) → Type 0
OfTrace None P = Unit {0}
OfTrace (Some bytes) P = (script : ScriptValue) (notes : List NoteValue) → AreFitting bytes script notes → P script notes

-- Where the source tells its bytes, they are such a trace.
abbrev pub AreTrace : Option (List ℕ) → Type 0
AreTrace None = Unit {0}
AreTrace (Some bytes) = (script : ScriptValue) × (notes : List NoteValue) × AreFitting bytes script notes

-- this trace was read: where the source tells its bytes, of these
abbrev pub IsReadAs : Option (List ℕ) → ScriptValue → List NoteValue → Type 0
IsReadAs told script notes = (text : List ℕ) × AreBytes told text × AreFitting text script notes

-- Why a trace is refused: where the source tells its bytes, they have this first fault.
abbrev pub IsNoTraceFor : Option (List ℕ) → ScriptFault → Type 0
IsNoTraceFor None fault = Unit {0}
IsNoTraceFor (Some bytes) fault = HasTraceFault bytes fault

-- why there is no trace: a read failed, and none was made after it, the bytes are none, or memory ran out
abbrev pub IsTraceUnreadFor : Option (List ℕ) → (faults faults_after : ℕ) → (faulted_after : Bool) → Unread → Type 0
IsTraceUnreadFor told faults faults_after faulted_after Failed = EndsInFault faults faults_after faulted_after
IsTraceUnreadFor told faults faults_after faulted_after (Fault fault) = IsNoTraceFor told fault
IsTraceUnreadFor told faults faults_after faulted_after NoMemory = Unit {0}

-- told bytes are read to their end, or so far that no trace is that long
abbrev pub IsTraceReadThrough : Option (List ℕ) → Option (List ℕ) → Type 0
IsTraceReadThrough None after = Unit {0}
IsTraceReadThrough (Some bytes) after = after ≡ Some (drop 67108865 bytes)
