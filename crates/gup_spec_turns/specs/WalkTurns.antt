-- The turns of a pin's lockless walk.
use Rattle.std.specs.Prelude.{ℕ, ◌+◌, ◌==◌, ◌&&◌, ◌||◌, not, nat_lt, Bool, true, false, if◌then◌else◌, List, [], ◌∷◌, length, Option, Some, None, zero, suc}
use Rattle.gup_base.specs.declared.entry.Entry.{Entry}
use Rattle.gup_base.specs.declared.entry.Want.{Want}
use Rattle.gup_plain.specs.declared.answer.Answer.TheVariants as answers
use Rattle.gup_plain.specs.declared.event.PlainEvent.TheVariants as events
use Rattle.gup_plain.specs.declared.note.What.TheVariants.{Silent, Event}
use Rattle.gup_spec_tables.specs.Paths.{entry_at, leads_still}
use Rattle.gup_spec_events.specs.State.{CoreState, Taken, WalkStep, entered, ready, reading, read, grabbed, rechecked, differed, refused, stopped, dropping, over}
use Rattle.gup_spec_events.specs.Event.{CoreEvent, is_odd, raise_flag, make_handle, enter_walk, read_sequence, grab_frame, miss_frame, recheck_above, recheck_same, recheck_other, read_mark, read_again, drop_grab, drop_last, drop_first, leave_walk, tree_in}
use Rattle.gup_spec_events.specs.Descent.{reads_down}
use Rattle.gup_spec_turns.specs.CoreTurn.{CoreTurn, ends_with}

-- a turn that says nothing of its events
abbrev pub silent_turn : List CoreEvent → CoreTurn
silent_turn events = record { events = events; whats = Silent ∷ [] }

-- the first one: the process has pinned from now on, and the walk runs
abbrev pub begin_turn : (a p : ℕ) → Want → CoreTurn
begin_turn a p want = silent_turn (raise_flag a p ∷ enter_walk a p want.write want.long ∷ [])

abbrev pub leaves_if : (over : Bool) → (a p : ℕ) → Want → (sequence : ℕ) → List CoreEvent
leaves_if true a p want sequence = leave_walk a p want.write want.long sequence ∷ []
leaves_if false a p want sequence = []

-- where the sequence is odd a fork runs, and the walk is over
abbrev pub sequence_turn : (a p : ℕ) → Want → (now : ℕ) → CoreTurn
sequence_turn a p want now =
    silent_turn (read_sequence a p want.write want.long now ∷ leaves_if (is_odd now) a p want now)

-- a frame whose count is 0 isn't grabbed
abbrev pub grab_turn : (a p : ℕ) → Want → (sequence page : ℕ) → (path : List ℕ) → Entry → (count : ℕ) → CoreTurn
grab_turn a p want sequence page path e zero =
    silent_turn (miss_frame a p want.write want.long sequence page path e ∷ [])
grab_turn a p want sequence page path e (suc count) =
    silent_turn (grab_frame a p want.write want.long sequence page path e ∷ [])

-- is this the same entry?
abbrev pub is_same : Entry → Option Entry → Bool
is_same e None = false
is_same e (Some d) = (e.frame == d.frame) && (if e.writable then d.writable else not d.writable)

-- The word above is read again, and where it leads on as it did the entry: where that is the same the page is taken, and named
-- from now on.
abbrev pub recheck_turn : (a p : ℕ) → Want → (sequence page : ℕ) → (path : List ℕ) → Entry → (leads same : Bool) → CoreTurn
recheck_turn a p want sequence page path e true true =
    record {
      events =
          recheck_above a p want.write want.long sequence page path e true
          ∷ recheck_same a p want.write want.long sequence page path e
          ∷ [];
      whats = Event (events.PinTry a p page want.write) ∷ [];
    }
recheck_turn a p want sequence page path e true false =
    silent_turn
    (recheck_above a p want.write want.long sequence page path e true
    ∷ recheck_other a p want.write want.long sequence page path e
    ∷ [])
recheck_turn a p want sequence page path e false same =
    silent_turn (recheck_above a p want.write want.long sequence page path e false ∷ [])

-- nothing is left to drop
abbrev pub is_none_left : List Taken → Bool
is_none_left [] = true
is_none_left (t ∷ taken) = false

abbrev pub reads_again : (a p : ℕ) → Want → (sequence : ℕ) → WalkStep → (now : ℕ) → CoreEvent
reads_again a p want sequence step now = read_again a p want.write want.long sequence step now

-- A walk that has kept all pages and finds the sequence as it was makes the handle; else it drops them.
abbrev pub all_turn : (a p handle n : ℕ) → Want → (sequence now : ℕ) → (same : Bool) → CoreTurn
all_turn a p handle n want sequence now true =
    ends_with
    (reads_again a p want sequence ready now ∷ leave_walk a p want.write want.long sequence ∷ make_handle a handle ∷ [])
    (events.PinOk a handle) (answers.Pinned n)
all_turn a p handle n want sequence now false = silent_turn (reads_again a p want sequence ready now ∷ [])

-- one that stopped keeps its pages so, or drops them; where it has none it is over
abbrev pub again_turn : (a p : ℕ) → Want → (sequence now : ℕ) → (taken : List Taken) → CoreTurn
again_turn a p want sequence now taken =
    silent_turn
    (reads_again a p want sequence stopped now ∷ leaves_if ((now == sequence) || is_none_left taken) a p want sequence)

-- while pages are left it reads down the next one's path, to its entry
abbrev pub ready_turn : CoreState → (a p handle page n : ℕ) → Want → (sequence : ℕ) → (more : Bool) → CoreTurn
ready_turn s a p handle page n want sequence true =
    silent_turn (reads_down s a p want.write want.long sequence page)
ready_turn s a p handle page n want sequence false =
    all_turn a p handle n want sequence (s.sequence p) (s.sequence p == sequence)

-- the same pages with one more at the front
abbrev pub one_before : Taken → Option (List Taken × Taken) → Option (List Taken × Taken)
one_before t None = None
one_before t (Some (rest, last)) = Some (t ∷ rest, last)

-- the pages but the last, and the last
abbrev pub split_last : List Taken → Option (List Taken × Taken)
split_last [] = None
split_last (t ∷ []) = Some ([], t)
split_last (t ∷ u ∷ taken) = one_before t (split_last (u ∷ taken))

-- the page whose mark was missing is dropped
abbrev pub last_turn : (a p : ℕ) → Want → (sequence : ℕ) → Option (List Taken × Taken) → CoreTurn
last_turn a p want sequence None = silent_turn []
last_turn a p want sequence (Some (rest, last)) =
    record {
      events = drop_last a p want.write want.long sequence rest last ∷ [];
      whats = Event (events.PinDrop a last.page) ∷ [];
    }

-- the first of all pages that are left is dropped; with the last the walk is over
abbrev pub first_turn : (a p : ℕ) → Want → (sequence : ℕ) → List Taken → CoreTurn
first_turn a p want sequence [] = silent_turn []
first_turn a p want sequence (t ∷ rest) =
    record {
      events = drop_first a p want.write want.long sequence t rest ∷ leaves_if (is_none_left rest) a p want sequence;
      whats = Event (events.PinDrop a t.page) ∷ [];
    }

-- The turn of a walk at this step. No turn ends inside of page tables, or where the walk is over.
abbrev pub walk_turn : CoreState → (a p handle page n : ℕ) → Want → (sequence : ℕ) → WalkStep → CoreTurn
walk_turn s a p handle page n want sequence entered = sequence_turn a p want (s.sequence p)
walk_turn s a p handle page n want sequence ready =
    ready_turn s a p handle (page + length (s.taken a)) n want sequence (nat_lt (length (s.taken a)) n)
walk_turn s a p handle page n want sequence (reading g path) = silent_turn []
walk_turn s a p handle page n want sequence (read g path e) = grab_turn a p want sequence g path e (s.count e.frame)
walk_turn s a p handle page n want sequence (grabbed g path e) =
    recheck_turn a p want sequence g path e (leads_still (tree_in s p) path g) (is_same e (entry_at (tree_in s p) path g))
walk_turn s a p handle page n want sequence (rechecked g e) =
    silent_turn (read_mark a p want.write want.long sequence g e (s.mark e.frame) ∷ [])
walk_turn s a p handle page n want sequence (differed f) =
    silent_turn (drop_grab a p want.write want.long sequence f ∷ [])
walk_turn s a p handle page n want sequence refused = last_turn a p want sequence (split_last (s.taken a))
walk_turn s a p handle page n want sequence stopped = again_turn a p want sequence (s.sequence p) (s.taken a)
walk_turn s a p handle page n want sequence dropping = first_turn a p want sequence (s.taken a)
walk_turn s a p handle page n want sequence over = silent_turn []
