-- Operations that go page by page. An unmap and a discard pass a page without an event only where it wasn't named at some moment since
-- their actor's last event or answer. An exit takes down the lowest named page, and ends where there is none. A fork goes on to the next
-- page that its parent has.
use Rattle.std.specs.Prelude.{◌≡◌, ℕ, ◌+◌, ◌≤◌, ◌<◌, ◌||◌, Bool, true, false, List, [], ◌∷◌, Option, Some, None, is_none, zero}
use Rattle.gup_base.specs.declared.entry.Rights.{Rights}
use Rattle.gup_plain.specs.Note.{NoteValue}
use Rattle.gup_plain.specs.State.{PlainState, Birth, born}
use Rattle.gup_plain.specs.Put.{put}
use Rattle.gup_plain.specs.declared.answer.Answer.TheVariants.{Plain}
use Rattle.gup_plain.specs.declared.event.PlainEvent.{PlainEvent}
use Rattle.gup_plain.specs.declared.event.PlainEvent.TheVariants as events
use Rattle.gup_plain.specs.declared.note.What.{What}
use Rattle.gup_plain.specs.declared.note.What.TheVariants.{Event, Done}
use Rattle.gup_script.specs.declared.op.Op.{Op}
use Rattle.gup_script.specs.declared.op.Op.TheVariants.{Unmap, Discard, Fork, Exit}
use Rattle.gup_script.specs.Script.{ScriptValue}
use Rattle.gup_spec_journal.specs.Place.{process_of, present_op}
use Rattle.gup_spec_journal.specs.Plain.{Judged, judged_after, judged_first}

-- the process is born, and its page isn't named
abbrev pub lacks_name : Birth → Option Rights → Bool
lacks_name born right = is_none right
lacks_name birth right = false

abbrev pub is_unnamed : PlainState → (p page : ℕ) → Bool
is_unnamed s p page = lacks_name (s.birth p) (s.right p page)

-- How far an actor has come in its present operation: the first page that it hasn't come to yet, and the pages of its process that were
-- unnamed at some moment since its last event or answer.
pub record Going : Type 0 where
  pub next : ℕ
  pub unnamed : ℕ → Bool

-- the first page of an operation, and the one behind its last
abbrev pub first_page : Option Op → ℕ
first_page (Some (Unmap page n)) = page
first_page (Some (Discard page n)) = page
first_page op = 0

abbrev pub end_page : Op → ℕ
end_page (Unmap page n) = page + n
end_page (Discard page n) = page + n
end_page op = 0

-- the page that an event comes to; of a page that is copied, its first word does
abbrev pub page_at : PlainEvent → Option ℕ
page_at (events.Unmap a p page) = Some page
page_at (events.Discard a p page) = Some page
page_at (events.ForkPage p child page) = Some page
page_at (events.ForkWord p child page zero) = Some page
page_at e = None

-- pages are passed where each from the one on, below the other, passes the test
abbrev pub ArePassed : (test : ℕ → Bool) → (from below : ℕ) → Type 0
ArePassed test from below = (page : ℕ) → from ≤ page → page < below → test page ≡ true

-- how a page may be passed: by what was unnamed since, or by what is now
abbrev pub Comes : PlainState → Going → (p : ℕ) → Op → Option ℕ → Type 0
Comes s going p (Unmap first n) (Some page) = ArePassed going.unnamed going.next page
Comes s going p (Discard first n) (Some page) = ArePassed going.unnamed going.next page
Comes s going p (Fork child) (Some page) = ArePassed (λ g. is_none (s.right p g)) going.next page
Comes s going p Exit (Some page) = ArePassed (λ g. is_none (s.right p g)) 0 page
Comes s going p op page = Unit {0}

abbrev pub Ends : PlainState → Going → (p : ℕ) → Op → Type 0
Ends s going p (Unmap first n) = ArePassed going.unnamed going.next (first + n)
Ends s going p (Discard first n) = ArePassed going.unnamed going.next (first + n)
Ends s going p Exit = (page : ℕ) → is_none (s.right p page) ≡ true
Ends s going p op = Unit {0}

abbrev pub PassesRight : PlainState → Going → (p : ℕ) → Option Op → What → Type 0
PassesRight s going p (Some op) (Event e) = Comes s going p op (page_at e)
PassesRight s going p (Some op) (Done Plain) = Ends s going p op
PassesRight s going p op what = Unit {0}

-- after a note: whoever's event or answer it was begins anew, and for all others the pages that are unnamed now are added
abbrev pub anew : PlainState → (p next : ℕ) → Going
anew s p next = record { next = next; unnamed = is_unnamed s p }

abbrev pub added : PlainState → (p : ℕ) → Going → Going
added s p going = record going { unnamed = λ page. going.unnamed page || is_unnamed s p page }

abbrev pub next_behind : Option ℕ → (next : ℕ) → ℕ
next_behind None next = next
next_behind (Some page) next = page + 1

-- of its own actor: `op` is the operation that is present behind the note
abbrev pub own_after : PlainState → (p : ℕ) → Going → Option Op → What → Going
own_after s p going op (Event e) = anew s p (next_behind (page_at e) going.next)
own_after s p going op (Done answer) = anew s p (first_page op)
own_after s p going op what = added s p going

abbrev pub goings_first : ScriptValue → ℕ → Going
goings_first script a =
    let j = judged_first script in
    anew j.plain (process_of script a) (first_page (present_op script a (j.places a)))

-- `j` is what the notes have led to with this one
abbrev pub goings_after : ScriptValue → (j : Judged) → (ℕ → Going) → NoteValue → ℕ → Going
goings_after script j goings note =
    let a = note.actor in
    put a (own_after j.plain (process_of script a) (goings a) (present_op script a (j.places a)) note.what)
    (λ b. added j.plain (process_of script b) (goings b))

abbrev pub ArePassedFrom : ScriptValue → Judged → (ℕ → Going) → List NoteValue → Type 0
ArePassedFrom script j goings [] = Unit {0}
ArePassedFrom script j goings (note ∷ notes) =
    PassesRight j.plain (goings note.actor) (process_of script note.actor) (present_op script note.actor (j.places note.actor)) note.what
    × ArePassedFrom script (judged_after script j note) (goings_after script (judged_after script j note) goings note) notes

abbrev pub PassPages : ScriptValue → List NoteValue → Type 0
PassPages script notes = ArePassedFrom script (judged_first script) (goings_first script) notes
