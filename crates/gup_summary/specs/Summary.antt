-- The summary of a run: how many answers there were, how many of them say `ok`, how many turns, and the sum of all words that
-- were read or moved.
use Rattle.std.specs.Prelude.{ℕ, ◌^◌, ◌%◌, Bool, List, ◌++◌, codes, decimal, take, length, count_by, sum_by}
use Rattle.std.specs.Str.{bytes_eq}
use Rattle.gup_plain.specs.Note.{NoteValue}
use Rattle.gup_plain.specs.declared.event.PlainEvent.{PlainEvent}
use Rattle.gup_plain.specs.declared.event.PlainEvent.TheVariants.{Load, Look, MoveOut, MoveIn}
use Rattle.gup_plain.specs.declared.note.What.{What}
use Rattle.gup_plain.specs.declared.note.What.TheVariants.{Event}
use Rattle.gup_lines.specs.declared.outcome.Outcome.{Outcome}
use Rattle.gup_lines.specs.Text.{answer_text, outcomes_of}

-- the text of the answer begins with `ok`
abbrev pub says_ok : Outcome → Bool
says_ok outcome = bytes_eq (take 2 (answer_text outcome.answer outcome.words)) (codes "ok")

-- the word that an event reads or moves, and 0 of the others
abbrev pub word_of : PlainEvent → ℕ
word_of (Load actor proc page word value) = value
word_of (Look actor mirror word value) = value
word_of (MoveOut actor handle index slot value) = value
word_of (MoveIn actor handle index slot value) = value
word_of event = 0

abbrev pub word_in : What → ℕ
word_in (Event event) = word_of event
word_in what = 0

-- the sum of all of them, modulo 2^64
abbrev pub words_sum : List NoteValue → ℕ
words_sum notes = sum_by (λ (note : NoteValue). word_in note.what) notes % 2 ^ 64

abbrev pub counted : List ℕ → ℕ → List ℕ
counted what n = what ++ codes " " ++ decimal n ++ codes "\n"

-- the four lines
abbrev pub summary_lines : List NoteValue → (turns : ℕ) → List ℕ
summary_lines notes turns =
    counted (codes "answers") (length (outcomes_of notes))
    ++ counted (codes "ok") (count_by says_ok (outcomes_of notes))
    ++ counted (codes "turns") turns
    ++ counted (codes "words") (words_sum notes)
