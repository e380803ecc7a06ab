-- When a look may be stale, as it is seen in a journal: a slot that was filled stays filled until its process forks or exits, or has
-- an unmap, discard, protect, store, pin or move of the page.
use Rattle.std.specs.Prelude.{◌≡◌, ℕ, ◌+◌, ◌==◌, ◌&&◌, nat_le, nat_lt, Bool, true, false, if◌then◌else◌, List, [], ◌∷◌, Option, Some, None}
use Rattle.gup_plain.specs.Note.{NoteValue}
use Rattle.gup_plain.specs.Put.{put}
use Rattle.gup_plain.specs.declared.answer.Answer.TheVariants as answers
use Rattle.gup_plain.specs.declared.event.PlainEvent.TheVariants as events
use Rattle.gup_plain.specs.declared.note.What.{What}
use Rattle.gup_plain.specs.declared.note.What.TheVariants.{Silent, Idle, Wait, Event, Done}
use Rattle.gup_script.specs.declared.op.Op.{Op}
use Rattle.gup_script.specs.declared.op.Op.TheVariants.{Unmap, Protect, Discard, Store, Pin, Look, Move, Fork, Exit}
use Rattle.gup_script.specs.Script.{ScriptValue}
use Rattle.gup_spec_journal.specs.Place.{Place, first_place, place_after, doer_of, present_op}

-- a page of a process
pub record PageOf : Type 0 where
  pub proc : ℕ
  pub page : ℕ

-- is it one of the n pages from the first on?
abbrev pub is_among : (first n page : ℕ) → Bool
is_among first n page = nat_le first page && nat_lt page (first + n)

-- may the operation empty a slot that is filled with this page of its process?
abbrev pub may_empty : Op → (page : ℕ) → Bool
may_empty (Unmap first n) page = is_among first n page
may_empty (Discard first n) page = is_among first n page
may_empty (Protect first n rights) page = is_among first n page
may_empty (Store here word value) page = here == page
may_empty (Pin handle first n want fast) page = is_among first n page
may_empty (Move proc here zone) page = here == page
may_empty (Fork child) page = true
may_empty Exit page = true
may_empty op page = false

-- What each slot is filled with by what the notes so far say: None where they don't tell.
abbrev pub Slots : Type 0
Slots = ℕ → Option PageOf

-- what an operation of process p leaves in a slot
abbrev pub left_by : (p : ℕ) → Op → Option PageOf → Option PageOf
left_by p op None = None
left_by p op (Some filled) = if (filled.proc == p) && may_empty op filled.page then None else Some filled

-- and what a note of it leaves in them
abbrev pub slots_after : (p : ℕ) → Op → What → Slots → Slots
slots_after p op (Event (events.MirrorFill a m q page)) slots = put m (Some (record { proc = q; page = page })) slots
slots_after p op Idle slots = slots
slots_after p op (Wait waiting) slots = slots
slots_after p op what slots = λ m. left_by p op (slots m)

abbrev pub slots_behind : (p : ℕ) → Option Op → What → Slots → Slots
slots_behind p None what slots = slots
slots_behind p (Some op) what slots = slots_after p op what slots

-- no look is stale whose slot is filled
abbrev pub IsStaleAt : Slots → Option Op → What → Type 0
IsStaleAt slots (Some (Look m word)) (Done answers.Stale) = slots m ≡ None
IsStaleAt slots op what = Unit {0}

abbrev pub AreStaleIn : ScriptValue → (ℕ → Place) → Slots → List NoteValue → Type 0
AreStaleIn script places slots [] = Unit {0}
AreStaleIn script places slots (note ∷ notes) =
    let place = places note.actor in
    let op = present_op script note.actor place in
    IsStaleAt slots op note.what
    × AreStaleIn script (put note.actor (place_after place note.what) places)
    (slots_behind (doer_of script note.actor op).proc op note.what slots) notes

-- the journal from the script's start on, where no slot is filled
abbrev pub AreStaleSeen : ScriptValue → List NoteValue → Type 0
AreStaleSeen script notes = AreStaleIn script (λ _. first_place) (λ _. None) notes
