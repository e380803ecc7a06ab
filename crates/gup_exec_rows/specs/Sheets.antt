-- The words of frames.
use Rattle.std.specs.Prelude.{ℕ, List, Option, None, Some}
use Rattle.gup_exec_parts.specs.Words.{word_of}
use Rattle.gup_exec_rows.specs.declared.sheets.Sheets.{Sheets}
use Rattle.gup_exec_rows.specs.Row.{at}

-- a sheet that isn't there has zeros
abbrev pub sheet_words : Option (List ℕ) → ℕ → ℕ
sheet_words None = λ _. 0
sheet_words (Some words) = word_of words

-- frames and words
unfoldable pub words_in : Sheets → ℕ → ℕ → ℕ
words_in sheets f = sheet_words (at sheets.rows f)
