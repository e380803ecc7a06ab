-- Which mirror slots a turn empties. Before an event that shares, breaks, clears, lowers, drops or discards a page's entry, or sets
-- its rights, the filled slots of that page are emptied: all at the front of the turn, in rising order. An entry that comes, or
-- comes to allow a store, leaves them filled.
use Rattle.std.specs.Prelude.{ℕ, ◌+◌, ◌==◌, ◌&&◌, ◌||◌, nat_le, nat_lt, Bool, false, if◌then◌else◌, List, [], ◌∷◌, ◌++◌, Option, Some, None, zero, suc}
use Rattle.gup_plain.specs.State.{Noted}
use Rattle.gup_script.specs.Limits.{most_mirrors}
use Rattle.gup_spec_events.specs.State.{CoreState}
use Rattle.gup_spec_events.specs.Event.{CoreEvent, break_entry, clear_entry, share_entry, lower_entry, protect_pages, drop_entry, discard_entry, empty_mirror}
use Rattle.gup_spec_turns.specs.CoreTurn.{CoreTurn}

-- n pages of a process, from this one on
pub record PageRange : Type 0 where
  pub proc : ℕ
  pub page : ℕ
  pub n : ℕ

abbrev pub one_page : (p page : ℕ) → Option PageRange
one_page p page = Some (record { proc = p; page = page; n = 1 })

abbrev pub has_page : Option PageRange → (p page : ℕ) → Bool
has_page None p page = false
has_page (Some range) p page = (range.proc == p) && nat_le range.page page && nat_lt page (range.page + range.n)

-- the pages that may have no filled slot when an event happens
abbrev pub invalidated_by : CoreEvent → Option PageRange
invalidated_by (break_entry a p page old new was writable) = one_page p page
invalidated_by (clear_entry a p page e allowed) = one_page p page
invalidated_by (share_entry a p c done page f writable) = one_page p page
invalidated_by (lower_entry a p page f) = one_page p page
invalidated_by (protect_pages a p page n rights) = Some (record { proc = p; page = page; n = n })
invalidated_by (drop_entry a p page was) = one_page p page
invalidated_by (discard_entry a p page was) = one_page p page
invalidated_by event = None

-- whether one of the events invalidates the page
abbrev pub invalidate : List CoreEvent → (p page : ℕ) → Bool
invalidate [] p page = false
invalidate (e ∷ es) p page = has_page (invalidated_by e) p page || invalidate es p page

-- whether a slot is filled with such a page
abbrev pub is_stale : List CoreEvent → (frame : Option ℕ) → Option Noted → Bool
is_stale es (Some f) (Some noted) = invalidate es noted.proc noted.page
is_stale es frame noted = false

-- what is left in a slot by a turn of these events
abbrev pub left_in : List CoreEvent → (frame : Option ℕ) → Option Noted → Option ℕ
left_in es frame noted = if is_stale es frame noted then None else frame

-- those of n slots from this one on are emptied
abbrev pub empties : CoreState → (a : ℕ) → List CoreEvent → (m n : ℕ) → List CoreEvent
empties s a es m zero = []
empties s a es m (suc n) =
    (if is_stale es (s.mirrored m) (s.slot m) then empty_mirror a m ∷ [] else []) ++ empties s a es (m + 1) n

-- the turn with that before its events, in this one place for all turns
abbrev pub emptying : CoreState → (a : ℕ) → CoreTurn → CoreTurn
emptying s a turn =
    record { events = empties s a turn.events 0 most_mirrors ++ turn.events; whats = turn.whats }
