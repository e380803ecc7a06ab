-- What an answer says of a pin.
use Rattle.std.specs.Prelude.{ℕ}
use Rattle.gup_plain.specs.declared.answer.Answer.{Answer}
use Rattle.gup_plain.specs.declared.answer.Answer.TheVariants as answers

-- how many pages a pin has got at an answer: those that a short one says, and else those that are pending
abbrev pub got_by : (pending : ℕ) → Answer → ℕ
got_by pending (answers.Short got wanted cause) = got
got_by pending answer = pending
