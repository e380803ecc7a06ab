-- When pages were mapped, and when actors last said something, by the numbers of the notes, from 1. So it is known which pages were
-- unnamed at some moment since: those that are unnamed now, and those that were mapped later.
use Rattle.std.specs.Prelude.{ℕ, ◌+◌, ◌&&◌, ◌||◌, nat_lt, is_none, Bool, true, false, List, [], ◌∷◌}
use Rattle.gup_plain.specs.Note.{NoteValue}
use Rattle.gup_plain.specs.Put.{put, spread}
use Rattle.gup_plain.specs.State.{PlainState, Birth, born}
use Rattle.gup_plain.specs.declared.event.PlainEvent.TheVariants as events
use Rattle.gup_plain.specs.declared.note.What.{What}
use Rattle.gup_plain.specs.declared.note.What.TheVariants.{Event}
use Rattle.gup_spec_accepted.specs.Said.{says}

pub record Times : Type 0 where
  -- how many notes there are
  pub count : ℕ
  -- processes and pages: the last note that mapped the page, and 0 where none has
  pub mapped : ℕ → ℕ → ℕ
  -- actors: the last note of an event or an answer of this one, and 0 where it has had none
  pub since : ℕ → ℕ

abbrev pub times_first : Times
times_first = record { count = 0; mapped = λ _ _. 0; since = λ _. 0 }

-- what note number `count` maps
abbrev pub mapped_after : (count : ℕ) → What → (ℕ → ℕ → ℕ) → ℕ → ℕ → ℕ
mapped_after count (Event (events.Map actor p page n rights)) mapped = put p (spread page n (λ _. count) (mapped p)) mapped
mapped_after count what mapped = mapped

abbrev pub since_by : (says : Bool) → (actor count : ℕ) → (ℕ → ℕ) → ℕ → ℕ
since_by true actor count since = put actor count since
since_by false actor count since = since

abbrev pub times_after : Times → NoteValue → Times
times_after times note =
    record {
      count = times.count + 1;
      mapped = mapped_after (times.count + 1) note.what times.mapped;
      since = since_by (says note.what) note.actor (times.count + 1) times.since;
    }

abbrev pub times_from : Times → List NoteValue → Times
times_from times [] = times
times_from times (note ∷ notes) = times_from (times_after times note) notes

abbrev pub times_of : List NoteValue → Times
times_of notes = times_from times_first notes

abbrev pub is_born : Birth → Bool
is_born born = true
is_born birth = false

-- Was the page unnamed at some moment since that note?
abbrev pub unnamed_since : PlainState → (mapped : ℕ → ℕ → ℕ) → (since p page : ℕ) → Bool
unnamed_since s mapped since p page =
    is_born (s.birth p) && (is_none (s.right p page) || nat_lt since (mapped p page))
