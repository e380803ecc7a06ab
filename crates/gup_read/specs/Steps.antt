-- What the functions of the reader answer, beside the functions on lists that they compute. Want of memory says
-- nothing of the text.
use Rattle.std.specs.Prelude.{◌≡◌, ℕ, ◌<◌, true, List, ◌∷◌, length, Result, Ok, Err}
use Rattle.gup_spec_grammar.specs.Names.{is_unused}
use Rattle.gup_script.specs.declared.op.Op.{Op}
use Rattle.gup_script.specs.declared.op.Op.TheVariants as ops
use Rattle.gup_script.specs.Limits.{most_handles, most_mirrors}
use Rattle.gup_spec_grammar.specs.declared.fault.Reason.{Reason}
use Rattle.gup_read.specs.declared.refusal.Trouble.{Trouble}
use Rattle.gup_read.specs.declared.refusal.Trouble.TheVariants as trouble
use Rattle.gup_spec_grammar.specs.declared.fault.ScriptFault.{ScriptFault}
use Rattle.gup_spec_grammar.specs.declared.fault.ReadRefusal.{ReadRefusal}
use Rattle.gup_spec_grammar.specs.declared.fault.ReadRefusal.TheVariants as refusals
use Rattle.gup_script.specs.Script.{ScriptValue}
use Rattle.gup_spec_grammar.specs.Outline.{Outline}

-- the trouble is the fault that was found, or that allocation failed
abbrev pub IsTrouble : {A : Type 0} → Result A Reason → Trouble → Type 0
IsTrouble found (trouble.Fault reason) = found ≡ Err reason
IsTrouble found trouble.NoMemory = Unit {0}

-- the line was right, and made this outline
abbrev pub Makes : Result Outline Reason → Outline → Result Unit Trouble → Type 0
Makes found next (Ok done) = found ≡ Ok next
Makes found next (Err e) = IsTrouble found e

-- there may be one more mirror slot where the name isn't declared yet
abbrev pub MayHaveSlot : (name : List ℕ) → Outline → Type 0
MayHaveSlot name st = is_unused st.names name ≡ true → length st.script.mirrors < most_mirrors

-- the handle of a pin or of a reference, or the slot of a mirror, named by the first of the words, may be declared
abbrev pub IsDeclarable : Op → List (List ℕ) → Outline → Type 0
IsDeclarable (ops.Pin handle page n want fast) (name ∷ fields) st =
    (is_unused st.names name ≡ true) × (length st.script.handles < most_handles)
IsDeclarable (ops.Get handle page) (name ∷ fields) st =
    (is_unused st.names name ≡ true) × (length st.script.handles < most_handles)
IsDeclarable (ops.Mirror mirror proc page) (name ∷ fields) st = MayHaveSlot name st
IsDeclarable op fields st = Unit {0}

-- the refusal for a line's trouble
abbrev pub refusal_at : (line : ℕ) → Trouble → ReadRefusal
refusal_at line (trouble.Fault reason) = refusals.Fault (record { line = line; reason = reason })
refusal_at line trouble.NoMemory = refusals.NoMemory

-- what is found in a text, from some line on
abbrev pub IsRefusal : Result Outline ScriptFault → ReadRefusal → Type 0
IsRefusal found (refusals.Fault fault) = found ≡ Err fault
IsRefusal found refusals.NoMemory = Unit {0}

abbrev pub IsReading : Result Outline ScriptFault → Result Outline ReadRefusal → Type 0
IsReading found (Ok st) = found ≡ Ok st
IsReading found (Err refusal) = IsRefusal found refusal

-- the script in a text, and whether it is one
abbrev pub IsRead : Result Outline ScriptFault → Result ScriptValue ReadRefusal → Type 0
IsRead found (Ok script) = (st : Outline) × (found ≡ Ok st) × (script ≡ st.script)
IsRead found (Err refusal) = IsRefusal found refusal
