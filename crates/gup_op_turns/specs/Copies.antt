-- The turn of a fork that copies a word.
use Rattle.std.specs.Prelude.{◌≡◌, ℕ, ◌+◌, Bool, true, false, List, Option, Some, slice_get}
use Rattle.gup_script.specs.declared.op.Op.{Op}
use Rattle.gup_script.specs.declared.op.Op.TheVariants.{Fork}
use Rattle.gup_op_base.specs.declared.jobs.JobPlace.{JobPlace}
use Rattle.gup_op_base.specs.declared.jobs.JobPlace.TheVariants.{Copying}
use Rattle.gup_op_waits.specs.declared.births.Birth.{Birth}
use Rattle.gup_op_waits.specs.declared.births.Birth.TheVariants.{Born}
use Rattle.gup_op_turns.specs.declared.copies.WordCopy.{WordCopy}

-- where its job stands before it, and after it
abbrev pub copying : WordCopy → JobPlace
copying copy = Copying copy.word copy.to copy.page

abbrev pub copied : WordCopy → JobPlace
copied copy = Copying (copy.word + 1) copy.to copy.page

-- is it a fork that copies a page?
abbrev pub is_copying : JobPlace → Bool
is_copying (Copying word to page) = true
is_copying place = false

-- the next turn of the operation, a fork of a born process, whose job stands there, copies this word
pub record IsCopyAt (births : List Birth) (proc : Option ℕ) (job : JobPlace) (op : Op) (copy : WordCopy) : Type 0 where
  pub proc_is : proc ≡ Some copy.proc
  pub is_born : slice_get births copy.proc ≡ Some Born
  pub is_fork : op ≡ Fork copy.child
  pub stands : job ≡ copying copy
