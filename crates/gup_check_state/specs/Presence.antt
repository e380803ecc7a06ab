-- Which operation an actor is at, by how far it has come.
use Rattle.std.specs.Prelude.{ℕ, Option, Some, None, slice_get}
use Rattle.gup_plain.specs.declared.note.What.{What}
use Rattle.gup_plain.specs.declared.note.What.TheVariants.{Done}
use Rattle.gup_script.specs.Script.{ScriptValue, ops_of}
use Rattle.gup_script.specs.declared.op.Op.{Op}
use Rattle.gup_check_state.specs.declared.kept.Progress.{Progress}

abbrev pub op_at : ScriptValue → (a : ℕ) → Option Progress → Option Op
op_at script a None = None
op_at script a (Some progress) = slice_get (ops_of script a) progress.answered

-- what is answered, if something is, is there
abbrev pub AnswersOne : What → Option Op → Type 0
AnswersOne (Done answer) None = ⊥
AnswersOne what op = Unit {0}
