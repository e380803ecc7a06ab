-- The turns of operations on pages: load, store, map, unmap, protect, discard, exit.
use Rattle.std.specs.Prelude.{ℕ, ◌+◌, Bool, if◌then◌else◌, List, [], ◌∷◌, ◌++◌, Option, Some, None, is_some, Ok, zero, suc}
use Rattle.gup_base.specs.declared.entry.Allowed.TheVariants.{Any}
use Rattle.gup_base.specs.declared.entry.Entry.{Entry}
use Rattle.gup_base.specs.declared.entry.Rights.{Rights}
use Rattle.gup_base.specs.declared.entry.Rights.TheVariants.{R, RW}
use Rattle.gup_plain.specs.Event.{page_numbers}
use Rattle.gup_plain.specs.Put.{lowest}
use Rattle.gup_plain.specs.declared.answer.Answer.TheVariants as answers
use Rattle.gup_plain.specs.declared.event.PlainEvent.TheVariants as events
use Rattle.gup_plain.specs.declared.note.What.TheVariants.{Event}
use Rattle.gup_spec_events.specs.State.{CoreState}
use Rattle.gup_spec_events.specs.Event.{CoreEvent, map_pages, lower_entry, protect_pages, drop_entry, discard_entry, load, store, run}
use Rattle.gup_spec_events.specs.Fault.{Fault, read_fault, write_fault, gives_back}
use Rattle.gup_plain.specs.Denial.{any_mapped, any_unmapped, map_denial, protect_denial}
use Rattle.gup_spec_turns.specs.CoreTurn.{CoreTurn, answers_with, frame_for, frame_in, allows_store, done_if, silent_or_done, ends_with, denied_or, after_fault}
use Rattle.gup_plain.specs.declared.event.PlainEvent.{PlainEvent}

-- load

-- a word is read after these events, through the entry that the page has then
abbrev pub loads_in : CoreState → List CoreEvent → (a p page word f : ℕ) → CoreTurn
loads_in after before a p page word f =
    ends_with (before ++ load a p page word f (after.word f word) ∷ []) (events.Load a p page word (after.word f word))
    (answers.Value (after.word f word))

abbrev pub loads : CoreState → List CoreEvent → (a p page word : ℕ) → CoreTurn
loads s before a p page word = loads_in (run s before) before a p page word (frame_in ((run s before).entry p page))

-- a page with an entry needs no fault
abbrev pub load_fault : CoreState → (a p page : ℕ) → Option Entry → Fault
load_fault s a p page (Some e) = Ok []
load_fault s a p page None = read_fault a p page (s.right p page) None (frame_for s p page Any)

abbrev pub load_turn : CoreState → (a p page word : ℕ) → Option Entry → CoreTurn
load_turn s a p page word entry = after_fault (load_fault s a p page entry) (λ before. loads s before a p page word)

-- store

abbrev pub stores_to : List CoreEvent → (a p page word value f : ℕ) → CoreTurn
stores_to before a p page word value f =
    ends_with (before ++ store a p page word f value ∷ []) (events.Store a p page word value) answers.Plain

abbrev pub stores : CoreState → List CoreEvent → (a p page word value : ℕ) → CoreTurn
stores s before a p page word value = stores_to before a p page word value (frame_in ((run s before).entry p page))

-- a page with an entry that allows the store needs no fault
abbrev pub store_fault : CoreState → (a p page : ℕ) → Option Entry → Fault
store_fault s a p page entry =
    if allows_store entry
    then Ok []
    else write_fault a p page (s.right p page) entry s.mark s.count (frame_for s p page Any)

abbrev pub store_turn : CoreState → (a p page word value : ℕ) → Option Entry → CoreTurn
store_turn s a p page word value entry =
    after_fault (store_fault s a p page entry) (λ before. stores s before a p page word value)

-- map

abbrev pub map_turn : CoreState → (a p page n : ℕ) → Rights → CoreTurn
map_turn s a p page n rights =
    denied_or (map_denial (any_mapped (s.right p) page n) (s.pages p) n)
    (ends_with (map_pages a p page n rights ∷ []) (events.Map a p page n rights) answers.Plain)

-- unmap and discard: one page a turn

-- a page that is not mapped is passed in silence
abbrev pub mapped_turn : Option Rights → (last : Bool) → List CoreEvent → PlainEvent → CoreTurn
mapped_turn None last events event = record { events = []; whats = silent_or_done last }
mapped_turn (Some rights) last events event = record { events = events; whats = Event event ∷ done_if last }

abbrev pub unmap_turn : CoreState → (a p page : ℕ) → (last : Bool) → CoreTurn
unmap_turn s a p page last =
    mapped_turn (s.right p page) last (drop_entry a p page (s.entry p page) ∷ gives_back a (s.entry p page))
    (events.Unmap a p page)

abbrev pub discard_turn : CoreState → (a p page : ℕ) → (last : Bool) → CoreTurn
discard_turn s a p page last =
    mapped_turn (s.right p page) last (discard_entry a p page (s.entry p page) ∷ gives_back a (s.entry p page))
    (events.Discard a p page)

-- protect

-- an entry that is writable becomes read-only
abbrev pub lowers_entry : (a p page : ℕ) → Option Entry → List CoreEvent
lowers_entry a p page None = []
lowers_entry a p page (Some e) = if e.writable then lower_entry a p page e.frame ∷ [] else []

-- those of n pages from this one on, in rising order
abbrev pub lowers : (ℕ → Option Entry) → (a p page n : ℕ) → List CoreEvent
lowers entry a p page zero = []
lowers entry a p page (suc n) = lowers_entry a p page (entry page) ++ lowers entry a p (page + 1) n

-- before the right to write goes, no entry has it; a right that comes leaves entries to the faults
abbrev pub lowers_for : Rights → (ℕ → Option Entry) → (a p page n : ℕ) → List CoreEvent
lowers_for R entry a p page n = lowers entry a p page n
lowers_for RW entry a p page n = []

abbrev pub protect_turn : CoreState → (a p page n : ℕ) → Rights → CoreTurn
protect_turn s a p page n rights =
    denied_or (protect_denial (any_unmapped (s.right p) page n))
    (ends_with (lowers_for rights (s.entry p) a p page n ++ protect_pages a p page n rights ∷ [])
    (events.Protect a p page n rights) answers.Plain)

-- exit: the lowest mapped page, one a turn, and an answer where there is none

abbrev pub lowest_page : (ℕ → Option Rights) → Option ℕ
lowest_page right = lowest 0 page_numbers (λ page. is_some (right page))

abbrev pub exit_turn_by : CoreState → (a p : ℕ) → Option ℕ → CoreTurn
exit_turn_by s a p None = answers_with answers.Plain
exit_turn_by s a p (Some page) =
    record {
      events = drop_entry a p page (s.entry p page) ∷ gives_back a (s.entry p page);
      whats = Event (events.Unmap a p page) ∷ [];
    }

abbrev pub exit_turn : CoreState → (a p : ℕ) → CoreTurn
exit_turn s a p = exit_turn_by s a p (lowest_page (s.right p))
