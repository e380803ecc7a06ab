-- The turns of operations on pins and references: pin, unpin, give, take, get, put.
use Rattle.std.specs.Prelude.{if◌then◌else◌, ℕ, ◌+◌, ◌-◌, ◌==◌, ◌&&◌, nat_lt, Bool, true, false, List, [], ◌∷◌, ◌++◌, length, take, slice_index, Option, Some, None, Ok, Err, zero, suc}
use Rattle.std.specs.Option.{option_map}
use Rattle.gup_base.specs.declared.entry.Entry.{Entry}
use Rattle.gup_base.specs.declared.entry.Want.{Want}
use Rattle.gup_plain.specs.declared.answer.Answer.{Answer}
use Rattle.gup_plain.specs.declared.answer.Answer.TheVariants as answers
use Rattle.gup_plain.specs.declared.answer.Cause.{Cause}
use Rattle.gup_plain.specs.declared.answer.Cause.TheVariants as causes
use Rattle.gup_plain.specs.declared.event.PlainEvent.TheVariants as events
use Rattle.gup_plain.specs.declared.note.What.{What}
use Rattle.gup_plain.specs.declared.note.What.TheVariants.{Silent, Event, Done}
use Rattle.gup_spec_events.specs.State.{CoreState, Job, moving, walking, Counted, unread, one, more}
use Rattle.gup_spec_events.specs.Event.{CoreEvent, raise_flag, pin_page, make_handle, unpin_page, give_handle, take_handle, get_reference, put_reference, run, entry_of, take_frame, put_entry, clear_entry, place_frame, restore_entry}
use Rattle.gup_spec_events.specs.Fault.{Fault, write_fault, unshare_fault}
use Rattle.gup_plain.specs.Denial.{is_held_by, holder_denial}
use Rattle.gup_spec_journal.specs.Denial.{has_reference}
use Rattle.gup_spec_turns.specs.CoreTurn.{CoreTurn, free_in, frame_for, zones_of, entry_in, ends_with, denied_or, after_fault}
use Rattle.gup_spec_turns.specs.PageTurns.{load_fault}
use Rattle.gup_spec_turns.specs.MoveTurns.{count_turn}
use Rattle.gup_spec_turns.specs.WalkTurns.{begin_turn, walk_turn}

-- pin: one page a turn, but one that a long pin moves first in three; of one that walks, first the turns of that

-- has-pinned is set before the first page is tried; one that walks has set it before its walk
abbrev pub raises : (a p got : ℕ) → (fast : Bool) → List CoreEvent
raises a p zero false = raise_flag a p ∷ []
raises a p got fast = []

-- a page of a write pin needs a writable entry, one of a read pin an exclusive frame
abbrev pub pin_fault : CoreState → (a p page : ℕ) → (write : Bool) → (free : Option ℕ) → Fault
pin_fault s a p page true free = write_fault a p page (s.right p page) (s.entry p page) s.mark s.count free
pin_fault s a p page false free = unshare_fault a p page (s.right p page) (s.entry p page) s.mark s.count free

-- the last page's turn makes the handle, and has the answer
abbrev pub makes_if : (last : Bool) → (a handle : ℕ) → List CoreEvent
makes_if last a handle = if last then make_handle a handle ∷ [] else []

abbrev pub pinned_if : (last : Bool) → (a handle n : ℕ) → List What
pinned_if last a handle n = if last then Event (events.PinOk a handle) ∷ Done (answers.Pinned n) ∷ [] else []

-- after these events the page is pinned by its entry
abbrev pub pins_behind : List CoreEvent → (a p handle page n : ℕ) → Want → (last : Bool) → Entry → CoreTurn
pins_behind before a p handle page n want last e =
    record {
      events = before ++ pin_page a p page e want.write want.long ∷ makes_if last a handle;
      whats = Event (events.PinTry a p page want.write) ∷ pinned_if last a handle n;
    }

-- what is pinned for long is first moved out of the movable zone
abbrev pub moves_first : CoreState → Want → Entry → Bool
moves_first s want e = want.long && nat_lt e.frame s.movable

-- after these events the page's entry is cleared
abbrev pub clears_behind : List CoreEvent → (a p page : ℕ) → Want → Entry → CoreTurn
clears_behind before a p page want e =
    record { events = before ++ clear_entry a p page e (zones_of want) ∷ []; whats = Silent ∷ [] }

abbrev pub clears_or_pins : (moves : Bool) → List CoreEvent → (a p handle page n : ℕ) → Want → (last : Bool) → Entry → CoreTurn
clears_or_pins true before a p handle page n want last e = clears_behind before a p page want e
clears_or_pins false before a p handle page n want last e = pins_behind before a p handle page n want last e

-- by the entry that the page has after these events
abbrev pub pins_in : (after : CoreState) → List CoreEvent → (a p handle page n : ℕ) → Want → (last : Bool) → Entry → CoreTurn
pins_in after before a p handle page n want last e =
    clears_or_pins (moves_first after want e) before a p handle page n want last e

abbrev pub pins : CoreState → List CoreEvent → (a p handle page n : ℕ) → Want → (last : Bool) → CoreTurn
pins s before a p handle page n want last =
    pins_in (run s before) before a p handle page n want last (entry_in ((run s before).entry p page))

-- the answer that refuses a page, as the cause of a short pin
abbrev pub cause_of : Answer → Cause
cause_of answers.Forbidden = causes.Forbidden
cause_of answers.NoFrame = causes.NoFrame
cause_of (answers.Unmovable count) = causes.Unmovable count
cause_of answer = causes.Missing

-- after these events a page is refused: a pin that has pages has those, and one without any is refused
abbrev pub ends_pin : List CoreEvent → (a handle n got : ℕ) → Answer → CoreTurn
ends_pin before a handle n zero answer = record { events = before; whats = Done answer ∷ [] }
ends_pin before a handle n (suc got) answer =
    ends_with (before ++ make_handle a handle ∷ []) (events.PinOk a handle) (answers.Short (suc got) n (cause_of answer))

abbrev pub pin_turn_by : Fault → CoreState → (a p handle page n got : ℕ) → Want → (fast : Bool) → CoreTurn
pin_turn_by (Err answer) s a p handle page n got want fast = ends_pin (raises a p got fast) a handle n got answer
pin_turn_by (Ok before) s a p handle page n got want fast =
    pins s (raises a p got fast ++ before) a p handle page n want (got + 1 == n)

-- the slow turn of a pin that has got so many pages, and is in the middle of none
abbrev pub pin_turn_at : CoreState → (a p handle page n got : ℕ) → Want → (fast : Bool) → CoreTurn
pin_turn_at s a p handle page n got want fast =
    pin_turn_by (pin_fault s a p (page + got) want.write (frame_for s p (page + got) (zones_of want))) s a p handle (page + got) n got want
    fast

-- one that walks begins with that
abbrev pub begins_or_pins : (begins : Bool) → CoreState → (a p handle page n got : ℕ) → Want → (fast : Bool) → CoreTurn
begins_or_pins true s a p handle page n got want fast = begin_turn a p want
begins_or_pins false s a p handle page n got want fast = pin_turn_at s a p handle page n got want fast

-- the entry is put back, and the page refused
abbrev pub ends_moved : (a p handle page n got : ℕ) → Want → Entry → Counted → Answer → CoreTurn
ends_moved a p handle page n got want e count answer =
    ends_pin (restore_entry a p page e (zones_of want) count ∷ []) a handle n got answer

-- after a count of 1 the page is moved to a frame, if one is free, and pinned there
abbrev pub pins_moved : (a p handle page n got : ℕ) → Want → Entry → (free : Option ℕ) → CoreTurn
pins_moved a p handle page n got want e None = ends_moved a p handle page n got want e one answers.NoFrame
pins_moved a p handle page n got want e (Some f) =
    pins_behind (take_frame a f ∷ place_frame a p page f e (zones_of want) ∷ put_entry a e.frame ∷ []) a p handle page n want
    (got + 1 == n) (entry_of f e.writable)

-- of a page that it has cleared, by what was read of the count
abbrev pub moved_turn : CoreState → (a p handle page n got : ℕ) → Want → Entry → Counted → CoreTurn
moved_turn s a p handle page n got want e unread = count_turn a p page e (zones_of want) (s.count e.frame)
moved_turn s a p handle page n got want e one = pins_moved a p handle page n got want e (free_in s (zones_of want))
moved_turn s a p handle page n got want e (more count) =
    ends_moved a p handle page n got want e (more count) (answers.Unmovable count)

abbrev pub pin_turn_in : CoreState → (a p handle page n got : ℕ) → Want → (fast : Bool) → (far : ℕ) → Job → CoreTurn
pin_turn_in s a p handle page n got want fast far (moving q g e allowed count) =
    moved_turn s a p handle (page + got) n got want e count
pin_turn_in s a p handle page n got want fast far (walking q write long sequence step) =
    walk_turn s a p handle page n want sequence step
pin_turn_in s a p handle page n got want fast far job =
    begins_or_pins (fast && far == 0) s a p handle page n got want fast

-- it has got those that it has taken
abbrev pub pin_turn : CoreState → (a p handle page n : ℕ) → Want → (fast : Bool) → (far : ℕ) → CoreTurn
pin_turn s a p handle page n want fast far =
    pin_turn_in s a p handle page n (length (s.taken a)) want fast far (s.job a)

-- unpin: the last page that the pin still has, one a turn

abbrev pub last_of : List ℕ → ℕ
last_of frames = slice_index frames (length frames - 1)

abbrev pub but_last : List ℕ → List ℕ
but_last frames = take (length frames - 1) frames

-- with the last of all the pin is gone
abbrev pub unpinned : (left : List ℕ) → (a handle : ℕ) → List What
unpinned [] a handle = Event (events.Unpin a handle) ∷ Done answers.Plain ∷ []
unpinned (f ∷ left) a handle = Silent ∷ []

abbrev pub unpin_turn : CoreState → (a handle : ℕ) → CoreTurn
unpin_turn s a handle =
    denied_or (holder_denial (is_held_by (s.handle handle) a))
    (record {
      events = unpin_page a handle (last_of (s.pinned handle)) (but_last (s.pinned handle)) ∷ [];
      whats = unpinned (but_last (s.pinned handle)) a handle;
    })

-- give and take

abbrev pub give_turn : CoreState → (a handle to : ℕ) → CoreTurn
give_turn s a handle to =
    denied_or (holder_denial (is_held_by (s.handle handle) a))
    (ends_with (give_handle a handle to ∷ []) (events.Give a handle to) answers.Plain)

abbrev pub take_turn : (a handle : ℕ) → CoreTurn
take_turn a handle = ends_with (take_handle a handle ∷ []) (events.Take a handle) answers.Plain

-- get and put

-- a reference of the page's frame is got after these events, of the entry that the page has then
abbrev pub gets_by : List CoreEvent → (a p handle page : ℕ) → Entry → CoreTurn
gets_by before a p handle page e =
    record {
      events = before ++ get_reference a p page e.frame handle e.writable ∷ [];
      whats = Done answers.Plain ∷ [];
    }

abbrev pub gets : CoreState → List CoreEvent → (a p handle page : ℕ) → CoreTurn
gets s before a p handle page = gets_by before a p handle page (entry_in ((run s before).entry p page))

-- the page is made present as a load does it
abbrev pub get_turn : CoreState → (a p handle page : ℕ) → Option Entry → CoreTurn
get_turn s a p handle page entry = after_fault (load_fault s a p page entry) (λ before. gets s before a p handle page)

-- the frame of a reference, and who got it
abbrev pub got_frame : Option (ℕ × ℕ) → ℕ
got_frame None = 0
got_frame (Some got) = got.1

abbrev pub got_by : Option (ℕ × ℕ) → Option ℕ
got_by got = option_map (λ (reference : ℕ × ℕ). reference.0) got

abbrev pub put_turn : CoreState → (a handle : ℕ) → CoreTurn
put_turn s a handle =
    denied_or (holder_denial (has_reference (got_by (s.got handle)) a))
    (record {
      events = put_reference a (got_frame (s.got handle)) handle ∷ [];
      whats = Done answers.Plain ∷ [];
    })
