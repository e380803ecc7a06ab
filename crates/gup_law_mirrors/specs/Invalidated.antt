-- Of which pages a turn empties the mirror slots. What this says of pages without an entry doesn't matter: no slot is filled with
-- one of them.
use Rattle.std.specs.Prelude.{ℕ, ◌+◌, ◌==◌, ◌&&◌, not, Bool, true, false, if◌then◌else◌, length, is_some, Option, Some, None}
use Rattle.gup_base.specs.declared.entry.Entry.{Entry}
use Rattle.gup_base.specs.declared.entry.Want.{Want}
use Rattle.gup_plain.specs.Denial.{any_unmapped, pin_denial}
use Rattle.gup_plain.specs.declared.answer.Answer.{Answer}
use Rattle.gup_script.specs.declared.op.Op.{Op}
use Rattle.gup_script.specs.declared.op.Op.TheVariants.{Unmap, Protect, Discard, Store, Pin, Move, Fork, Exit}
use Rattle.gup_spec_events.specs.State.{CoreState, Job, idle, moving, forking, walking, counted}
use Rattle.gup_spec_events.specs.Event.{has_tables}
use Rattle.gup_spec_turns.specs.CoreTurn.{frame_for, zones_of}
use Rattle.gup_spec_turns.specs.Emptying.{PageRange}
use Rattle.gup_spec_turns.specs.PageTurns.{lowest_page}
use Rattle.gup_spec_turns.specs.PinTurns.{moves_first}

-- the page, where it is so
abbrev pub page_if : (is_so : Bool) → (page : ℕ) → Option ℕ
page_if true page = Some page
page_if false page = None

-- Does a fault copy the frame of this entry, by its mark and count? A store and a write pin need a writable entry, which a
-- marked frame gets without a copy, and a read pin needs a marked frame. A frame of count 1 is marked without a copy.
abbrev pub copies : (write : Bool) → Entry → (mark : Bool) → (count : ℕ) → Bool
copies write e mark count = not (write && e.writable) && (not mark && not (count == 1))

-- Is this entry of a page that is made ready broken or cleared? It is broken where the page is copied, and a frame is found for
-- that. It is cleared where the page isn't copied, and is to be moved first.
abbrev pub changes_entry : CoreState → (p page : ℕ) → Want → Entry → Bool
changes_entry s p page want e =
    if copies want.write e (s.mark e.frame) (s.count e.frame) then is_some (frame_for s p page (zones_of want)) else moves_first s want e

-- has a page that may be made ready an entry that changes so?
abbrev pub changes_in : (denied : Option Answer) → Option Entry → (changes : Entry → Bool) → Bool
changes_in None (Some e) changes = changes e
changes_in denied entry changes = false

abbrev pub changes_page : CoreState → (p page : ℕ) → Want → Bool
changes_page s p page want = changes_in (pin_denial want.write (s.right p page)) (s.entry p page) (changes_entry s p page want)

-- a store makes its page ready as a write pin that isn't for long does
abbrev pub for_store : Want
for_store = record { write = true; long = false }

-- A pin makes a page ready in a turn that is in the middle of nothing, and doesn't begin a walk.
abbrev pub pinned_in : CoreState → (p page : ℕ) → Want → (begins : Bool) → Job → Option ℕ
pinned_in s p page want begins (moving q g e allowed count) = None
pinned_in s p page want begins (walking q write long sequence step) = None
pinned_in s p page want begins job = page_if (not begins && changes_page s p page want) page

-- a move clears the entry in its first turn
abbrev pub moved_in : (page : ℕ) → Job → Option ℕ
moved_in page idle = Some page
moved_in page job = None

-- a fork shares the page that it has counted, unless the child lacks a table for it
abbrev pub shared_in : CoreState → (child : ℕ) → Job → Option ℕ
shared_in s child (forking q c done (counted page)) = page_if (has_tables s child page) page
shared_in s child job = None

-- the first page of which a turn of this operation of process p empties the slots, of which so many turns are over
abbrev pub page_in : CoreState → (a p far : ℕ) → Op → Option ℕ
page_in s a p far (Unmap page n) = Some (page + far)
page_in s a p far (Protect page n rights) = page_if (not (any_unmapped (s.right p) page n)) page
page_in s a p far (Discard page n) = Some (page + far)
page_in s a p far (Store page word value) = page_if (changes_page s p page for_store) page
page_in s a p far (Pin handle page n want fast) =
    pinned_in s p (page + length (s.taken a)) want (fast && far == 0) (s.job a)
page_in s a p far (Move proc page zone) = moved_in page (s.job a)
page_in s a p far (Fork child) = shared_in s child (s.job a)
page_in s a p far Exit = lowest_page (s.right p)
page_in s a p far op = None

-- how many pages they are
abbrev pub pages_in : Op → ℕ
pages_in (Protect page n rights) = n
pages_in op = 1

abbrev pub range_from : (p n : ℕ) → (page : Option ℕ) → Option PageRange
range_from p n None = None
range_from p n (Some page) = Some (record { proc = p; page = page; n = n })

-- the pages of which the turn empties the slots
abbrev pub invalidated_in : CoreState → (a p far : ℕ) → Op → Option PageRange
invalidated_in s a p far op = range_from p (pages_in op) (page_in s a p far op)
