-- The line of a script that is refused, and that of an actor that is stuck.
use Rattle.std.specs.Prelude.{ℕ, List, [], ◌++◌, codes, decimal, Option, None, Some}
use Rattle.gup_lines.specs.Text.{stuck_line}
use Rattle.gup_plain.specs.declared.note.Waiting.{Waiting}
use Rattle.gup_script.specs.Script.{ScriptValue}
use Rattle.gup_spec_grammar.specs.declared.fault.Reason.{Reason}
use Rattle.gup_spec_grammar.specs.declared.fault.Reason.TheVariants as reasons
use Rattle.gup_spec_grammar.specs.declared.fault.ScriptFault.{ScriptFault}

abbrev pub reason_text : Reason → List ℕ
reason_text reasons.Long = codes "long"
reason_text reasons.Byte = codes "byte"
reason_text reasons.End = codes "end"
reason_text reasons.Space = codes "space"
reason_text reasons.Head = codes "head"
reason_text reasons.Frames = codes "frames"
reason_text reasons.Word = codes "word"
reason_text reasons.Shape = codes "shape"
reason_text reasons.Number = codes "number"
reason_text reasons.Name = codes "name"
reason_text reasons.Twice = codes "twice"
reason_text reasons.Limit = codes "limit"
reason_text reasons.Later = codes "later"
reason_text reasons.Short = codes "short"
reason_text reasons.Note = codes "note"

-- what is written where the script is refused
abbrev pub refusal_text : ScriptFault → List ℕ
refusal_text fault = codes "line " ++ decimal fault.line ++ codes ": " ++ reason_text fault.reason ++ codes "\n"

-- the line of an actor that waits
abbrev pub stuck_of : ScriptValue → (a : ℕ) → Option Waiting → List ℕ
stuck_of script a None = []
stuck_of script a (Some waiting) = stuck_line script a waiting
