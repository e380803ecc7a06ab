-- What a note adds to the counts of its journal.
use Rattle.std.specs.Prelude.{ℕ, Bool, true, false, if◌then◌else◌}
use Rattle.gup_plain.specs.declared.answer.Answer.{Answer}
use Rattle.gup_plain.specs.declared.answer.Answer.TheVariants as answers
use Rattle.gup_plain.specs.declared.note.What.{What}
use Rattle.gup_plain.specs.declared.note.What.TheVariants.{Done}

-- which answers say `ok`
abbrev pub is_ok : Answer → Bool
is_ok answers.Plain = true
is_ok (answers.Value value) = true
is_ok (answers.Pinned pages) = true
is_ok (answers.Short got wanted cause) = true
is_ok answers.Words = true
is_ok answer = false

abbrev pub answers_in : What → ℕ
answers_in (Done answer) = 1
answers_in what = 0

abbrev pub oks_in : What → ℕ
oks_in (Done answer) = if is_ok answer then 1 else 0
oks_in what = 0
