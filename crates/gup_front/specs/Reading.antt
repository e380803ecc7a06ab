-- What is read of a source, where it tells its bytes, and the script that they are.
use Rattle.std.specs.Prelude.{◌≡◌, ℕ, Bool, List, drop, Option, None, Some}
use Rattle.gup_io.specs.Faults.{EndsInFault}
use Rattle.gup_script.specs.Script.{ScriptValue}
use Rattle.gup_spec_grammar.specs.Fault.{HasFault}
use Rattle.gup_spec_grammar.specs.Grammar.{Accepts}
use Rattle.gup_spec_grammar.specs.declared.fault.ScriptFault.{ScriptFault}
use Rattle.gup_front.specs.declared.reading.Unread.{Unread}
use Rattle.gup_front.specs.declared.reading.Unread.TheVariants.{Failed, Fault, NoMemory}

-- Where the source tells its bytes, this holds of the script that they are, if they are one.
abbrev pub OfScript : Option (List ℕ) → (ScriptValue → Type 0) → Type 0
OfScript None P = Unit {0}
OfScript (Some bytes) P = (script : ScriptValue) → Accepts bytes script → P script

-- the same of the bytes and the script
abbrev pub OfText : Option (List ℕ) → (List ℕ → ScriptValue → Type 0) → Type 0
OfText None P = Unit {0}
OfText (Some bytes) P = (script : ScriptValue) → Accepts bytes script → P bytes script

-- where the source tells its bytes, they are these
abbrev pub AreBytes : Option (List ℕ) → List ℕ → Type 0
AreBytes None bytes = Unit {0}
AreBytes (Some told) bytes = bytes ≡ told

-- Where the source tells its bytes, they are a script.
abbrev pub AreScript : Option (List ℕ) → Type 0
AreScript None = Unit {0}
AreScript (Some bytes) = (script : ScriptValue) × Accepts bytes script

-- where the source tells its bytes, they are this script
abbrev pub IsScriptOf : Option (List ℕ) → ScriptValue → Type 0
IsScriptOf None script = Unit {0}
IsScriptOf (Some bytes) script = Accepts bytes script

-- Why a script is refused: where the source tells its bytes, they have this first fault.
abbrev pub IsRefusedFor : Option (List ℕ) → ScriptFault → Type 0
IsRefusedFor None fault = Unit {0}
IsRefusedFor (Some bytes) fault = HasFault bytes fault

-- why there is no script: a read failed, and none was made after it, the bytes are none, or memory ran out
abbrev pub IsUnreadFor : Option (List ℕ) → (faults faults_after : ℕ) → (faulted_after : Bool) → Unread → Type 0
IsUnreadFor told faults faults_after faulted_after Failed = EndsInFault faults faults_after faulted_after
IsUnreadFor told faults faults_after faulted_after (Fault fault) = IsRefusedFor told fault
IsUnreadFor told faults faults_after faulted_after NoMemory = Unit {0}

-- told bytes are read to their end, or so far that no script is that long
abbrev pub IsReadThrough : Option (List ℕ) → Option (List ℕ) → Type 0
IsReadThrough None after = Unit {0}
IsReadThrough (Some bytes) after = after ≡ Some (drop 1048577 bytes)

-- a fact for the case that the bytes are no script
abbrev pub IfFault : Unread → Type 0 → Type 0
IfFault (Fault fault) P = P
IfFault Failed P = Unit {0}
IfFault NoMemory P = Unit {0}
