-- The words that the actors' operations have moved, as a function of the actor's number.
use Rattle.std.specs.Prelude.{ℕ, List, [], get_or}
use Rattle.gup_plain.specs.Note.{NoteValue}
use Rattle.gup_plain.specs.Put.{put}
use Rattle.gup_lines.specs.Text.{words_after}

-- where each actor has a place in a list; those past it have none
abbrev pub words_of : List (List ℕ) → ℕ → List ℕ
words_of kept actor = get_or kept actor []

-- after a note
abbrev pub moved_after : (moved : ℕ → List ℕ) → NoteValue → ℕ → List ℕ
moved_after moved note = put note.actor (words_after (moved note.actor) note.what) moved
