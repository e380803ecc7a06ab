-- How words are spelled, and a line is written: its first word, and the others each behind a space.
use Rattle.std.specs.Prelude.{ℕ, List, [], ◌∷◌, ◌++◌, codes, decimal}
use Rattle.gup_spec_grammar.specs.Said as said
use Rattle.gup_spec_grammar.specs.Spelling.{address}
use Rattle.gup_make.specs.Made.{Made}
use Rattle.gup_make.specs.declared.word.Word.{Word}
use Rattle.gup_make.specs.declared.word.Word.TheVariants.{Text, Number, Name, Address}

abbrev pub spelled : Word → said.Word
spelled (Text text) = text.now
spelled (Number n) = decimal n
spelled (Name letter k) = letter.now ++ decimal k
spelled (Address page word) = address page word

-- text more
abbrev pub more : List ℕ → Made → Made
more piece made = record made { text = made.text ++ piece }

-- words more of a line that has begun
abbrev pub next_words : List Word → Made → Made
next_words [] made = made
next_words (word ∷ words) made = next_words words (more (spelled word) (more (codes " ") made))
