-- Turns by what they find: what a fault comes to, what denies, whether the page is mapped. Each is the turn table's own turn, once
-- that is put in.
use Rattle.std.specs.Prelude.{ℕ, Bool, if◌then◌else◌, List, [], ◌∷◌, ◌++◌, Option, Ok}
use Rattle.gup_base.specs.declared.entry.Allowed.TheVariants.{Any}
use Rattle.gup_base.specs.declared.entry.Entry.{Entry}
use Rattle.gup_base.specs.declared.entry.Rights.{Rights}
use Rattle.gup_base.specs.declared.entry.Zone.{Zone}
use Rattle.gup_plain.specs.Denial.{holder_denial, load_denial}
use Rattle.gup_plain.specs.declared.answer.Answer.{Answer}
use Rattle.gup_plain.specs.declared.answer.Answer.TheVariants as answers
use Rattle.gup_plain.specs.declared.event.PlainEvent.TheVariants as events
use Rattle.gup_plain.specs.State.{Birth}
use Rattle.gup_plain.specs.declared.note.What.TheVariants.{Done}
use Rattle.gup_plain.specs.declared.note.Waiting.{Waiting}
use Rattle.gup_spec_events.specs.State.{CoreState}
use Rattle.gup_spec_journal.specs.Order.{waiting_at}
use Rattle.gup_spec_events.specs.Event.{map_pages, protect_pages, drop_entry, discard_entry, unpin_page, give_handle, put_reference}
use Rattle.gup_spec_events.specs.Fault.{Fault, write_fault, gives_back}
use Rattle.gup_spec_turns.specs.CoreTurn.{CoreTurn, ends_with, denied_or, after_fault, frame_for}
use Rattle.gup_spec_turns.specs.PageTurns.{loads, stores, mapped_turn, lowers_for}
use Rattle.gup_spec_turns.specs.PinTurns.{last_of, but_last, unpinned, gets}
use Rattle.gup_spec_turns.specs.DeviceTurns.{moves_at}
use Rattle.gup_spec_turns.specs.MoveTurns.{clear_turn}

abbrev pub loads_after : CoreState → Fault → (a p page word : ℕ) → CoreTurn
loads_after s fault a p page word = after_fault fault (λ before. loads s before a p page word)

abbrev pub stores_after : CoreState → Fault → (a p page word value : ℕ) → CoreTurn
stores_after s fault a p page word value = after_fault fault (λ before. stores s before a p page word value)

abbrev pub store_fault_by : (allowed : Bool) → CoreState → (a p page : ℕ) → Option Entry → Fault
store_fault_by allowed s a p page entry =
    if allowed then Ok [] else write_fault a p page (s.right p page) entry s.mark s.count (frame_for s p page Any)

abbrev pub map_turn_by : (denied : Option Answer) → (a p page n : ℕ) → Rights → CoreTurn
map_turn_by denied a p page n rights =
    denied_or denied (ends_with (map_pages a p page n rights ∷ []) (events.Map a p page n rights) answers.Plain)

abbrev pub unmap_turn_by : Option Rights → (a p page : ℕ) → Option Entry → (last : Bool) → CoreTurn
unmap_turn_by right a p page entry last =
    mapped_turn right last (drop_entry a p page entry ∷ gives_back a entry) (events.Unmap a p page)

abbrev pub protect_turn_by : (denied : Option Answer) → CoreState → (a p page n : ℕ) → Rights → CoreTurn
protect_turn_by denied s a p page n rights =
    denied_or denied
    (ends_with (lowers_for rights (s.entry p) a p page n ++ protect_pages a p page n rights ∷ [])
    (events.Protect a p page n rights) answers.Plain)

abbrev pub discard_turn_by : Option Rights → (a p page : ℕ) → Option Entry → (last : Bool) → CoreTurn
discard_turn_by right a p page entry last =
    mapped_turn right last (discard_entry a p page entry ∷ gives_back a entry) (events.Discard a p page)

abbrev pub unpin_turn_by : (held : Bool) → (a handle : ℕ) → (pinned : List ℕ) → CoreTurn
unpin_turn_by held a handle pinned =
    denied_or (holder_denial held)
    (record { events = unpin_page a handle (last_of pinned) (but_last pinned) ∷ []; whats = unpinned (but_last pinned) a handle })

abbrev pub give_turn_by : (held : Bool) → (a handle to : ℕ) → CoreTurn
give_turn_by held a handle to =
    denied_or (holder_denial held) (ends_with (give_handle a handle to ∷ []) (events.Give a handle to) answers.Plain)

abbrev pub gets_after : CoreState → Fault → (a p handle page : ℕ) → CoreTurn
gets_after s fault a p handle page = after_fault fault (λ before. gets s before a p handle page)

abbrev pub put_turn_by : (held : Bool) → (a handle f : ℕ) → CoreTurn
put_turn_by held a handle f =
    denied_or (holder_denial held) (record { events = put_reference a f handle ∷ []; whats = Done answers.Plain ∷ [] })

abbrev pub clear_turn_by : Option Rights → (a p page : ℕ) → Zone → Option Entry → CoreTurn
clear_turn_by right a p page zone entry = denied_or (load_denial right) (clear_turn a p page zone entry)

abbrev pub transfer_turn_by : Option Answer → CoreState → (a handle : ℕ) → (outward last : Bool) → (index slot : ℕ) → CoreTurn
transfer_turn_by denied s a handle outward last index slot = denied_or denied (moves_at s a handle outward last index slot)

abbrev pub waits_at : Birth → (p : ℕ) → Option Waiting → Option Waiting
waits_at birth p others = waiting_at p birth others
