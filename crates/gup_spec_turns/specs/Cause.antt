-- Why an operation of a core run is refused, where the plain state doesn't say it, and what an actor waits for.
use Rattle.std.specs.Prelude.{◌≡◌, ℕ, ◌+◌, ◌<◌, ◌==◌, ◌&&◌, ◌⊎◌, Bool, true, false, Option, Some, None, IsSome, List, [], ◌∷◌, length, map, Contains}
use Rattle.gup_base.specs.declared.entry.Allowed.{Allowed}
use Rattle.gup_base.specs.declared.entry.Allowed.TheVariants.{Any, Only}
use Rattle.gup_base.specs.declared.entry.Entry.{Entry}
use Rattle.gup_base.specs.declared.entry.Rights.TheVariants.{RW}
use Rattle.gup_base.specs.declared.entry.Want.{Want}
use Rattle.gup_base.specs.declared.entry.Zone.{Zone}
use Rattle.gup_plain.specs.Note.{NoteValue}
use Rattle.gup_plain.specs.State.{born}
use Rattle.gup_plain.specs.declared.answer.Answer.{Answer}
use Rattle.gup_plain.specs.declared.answer.Answer.TheVariants as answers
use Rattle.gup_plain.specs.declared.answer.Cause.TheVariants as causes
use Rattle.gup_plain.specs.declared.note.What.{What}
use Rattle.gup_plain.specs.declared.note.What.TheVariants.{Done}
use Rattle.gup_plain.specs.declared.note.Waiting.{Waiting}
use Rattle.gup_plain.specs.declared.note.Waiting.TheVariants as waitings
use Rattle.gup_script.specs.declared.op.Op.{Op}
use Rattle.gup_script.specs.declared.op.Op.TheVariants.{Load, Store, Pin, Get, Mirror, Look, Fork, Move}
use Rattle.gup_script.specs.Script.{ScriptValue}
use Rattle.gup_spec_events.specs.State.{CoreState, idle, one, more}
use Rattle.gup_spec_events.specs.Event.{IsAllowed, has_tables, run}
use Rattle.gup_spec_events.specs.Growth.{grows}
use Rattle.gup_spec_journal.specs.Order.{Turn}
use Rattle.gup_spec_journal.specs.Place.{doer_of, birth_for, has_finished}
use Rattle.gup_spec_turns.specs.CoreTurn.{zones_of}
use Rattle.gup_spec_turns.specs.JobPlace.{JobPlace, wants_frame, moving_page, in_walk, place_in}
use Rattle.gup_spec_turns.specs.Run.{RunState, op_in, waiting_in}
use Rattle.gup_spec_turns.specs.TableTurns.{Spot, grown_by}

-- each frame of these zones has a reference
abbrev pub AreHeld : CoreState → Allowed → Type 0
AreHeld s allowed = (f : ℕ) → f < s.movable + s.normal → IsAllowed s allowed f → s.count f ≡ 0 → ⊥

-- the zones from which the turns of an operation take frames
abbrev pub allowed_of : Op → Allowed
allowed_of (Pin handle page n want fast) = zones_of want
allowed_of (Move proc page zone) = Only zone
allowed_of op = Any

-- others may have the frame of a page's entry too: it is unmarked, and its count isn't 1
abbrev pub MayBeShared : CoreState → ℕ → Type 0
MayBeShared s f = (s.mark f ≡ false) × (s.count f ≡ 1 → ⊥)

-- By its entry, a page needs a frame to be the only one that has it, and to be written.
abbrev pub NeedsOwn : CoreState → Option Entry → Type 0
NeedsOwn s None = Unit {0}
NeedsOwn s (Some e) = MayBeShared s e.frame

abbrev pub NeedsWritable : CoreState → Option Entry → Type 0
NeedsWritable s None = Unit {0}
NeedsWritable s (Some e) = (e.writable ≡ false) × MayBeShared s e.frame

-- A page needs a frame for a load, a store, a pin or a reference, if its rights allow that: a load of a page needs one where
-- it has no entry, and so do a reference and a mirror; and a pin to read also where others may have its frame.
abbrev pub NeedsForLoad : CoreState → (p page : ℕ) → Type 0
NeedsForLoad s p page = IsSome (s.right p page) × (s.entry p page ≡ None)

abbrev pub NeedsForStore : CoreState → (p page : ℕ) → Type 0
NeedsForStore s p page = (s.right p page ≡ Some RW) × NeedsWritable s (s.entry p page)

abbrev pub NeedsForPin : CoreState → (p page : ℕ) → (write : Bool) → Type 0
NeedsForPin s p page true = NeedsForStore s p page
NeedsForPin s p page false = IsSome (s.right p page) × NeedsOwn s (s.entry p page)

-- the same of a page of a pin by where that stands: of one that it has cleared, to move it first, after a count of 1
abbrev pub NeedsAtPage : CoreState → (p page : ℕ) → (write : Bool) → JobPlace → Type 0
NeedsAtPage s p page write (moving_page g e one) = Unit {0}
NeedsAtPage s p page write (moving_page g e count) = ⊥
NeedsAtPage s p page write (in_walk sequence step) = ⊥
NeedsAtPage s p page write place = NeedsForPin s p page write

-- and of a pin, which needs none where its walk begins with this turn: it is at no page that it has cleared then
abbrev pub NeedsIfSlow : (begins : Bool) → CoreState → (p page : ℕ) → (write : Bool) → JobPlace → Type 0
NeedsIfSlow true s p page write (moving_page g e count) = NeedsAtPage s p page write (moving_page g e count)
NeedsIfSlow true s p page write place = ⊥
NeedsIfSlow false s p page write place = NeedsAtPage s p page write place

-- An operation needs a frame at its next turn: a load, a store, a get, a mirror and a pin for their page, a pin's being the one after
-- those that it has taken, and none while it walks, a fork for the page that it copies, where it has none for it yet, and a move after a count of 1.
abbrev pub NeedsFor : CoreState → (a p far : ℕ) → Op → Type 0
NeedsFor s a p far (Load page word) = NeedsForLoad s p page
NeedsFor s a p far (Store page word value) = NeedsForStore s p page
NeedsFor s a p far (Pin handle page n want fast) =
    NeedsIfSlow (fast && far == 0) s p (page + length (s.taken a)) want.write (place_in s a)
NeedsFor s a p far (Get handle page) = NeedsForLoad s p page
NeedsFor s a p far (Mirror mirror proc page) = NeedsForLoad s p page
NeedsFor s a p far (Move proc page zone) = (g : ℕ) × (e : Entry) × (place_in s a ≡ moving_page g e one)
NeedsFor s a p far (Fork child) = (page : ℕ) × (place_in s a ≡ wants_frame page)
NeedsFor s a p far op = ⊥

-- It puts an entry into the tables of the page that it makes ready: a fork does that for each page that it shares or copies, and
-- any other where it needs a frame.
abbrev pub NeedsEntry : CoreState → (a p far : ℕ) → Op → Type 0
NeedsEntry s a p far (Fork child) = Unit {0}
NeedsEntry s a p far op = NeedsFor s a p far op

-- that page lacks a table still after it has got those that there were
abbrev pub LacksTables : CoreState → (a : ℕ) → Option Spot → Type 0
LacksTables s a None = ⊥
LacksTables s a (Some at) = has_tables (run s (grows s a at.proc at.page)) at.proc at.page ≡ false

-- a frame that it needs isn't free in the zones that it may take one from, or a table that it needs isn't
abbrev pub FindsNone : CoreState → (a p far : ℕ) → Op → Type 0
FindsNone s a p far op =
    (NeedsFor s a p far op × AreHeld s (allowed_of op)) ⊎ (NeedsEntry s a p far op × LacksTables s a (grown_by s a p far op))

-- the actor's next turn is one of this operation, which it waits for nothing to do, in a process that is born
abbrev pub IsNext : ScriptValue → RunState → (a : ℕ) → Op → Type 0
IsNext script r a op =
    (op_in script r a ≡ Some op) × (waiting_in script r a ≡ None)
    × (birth_for r.core.birth (doer_of script a (Some op)) ≡ born)

-- it is, and finds no frame, or no table
abbrev pub FindsNoFrame : ScriptValue → RunState → (a : ℕ) → Type 0
FindsNoFrame script r a =
    (op : Op) × IsNext script r a op × FindsNone r.core a (doer_of script a (Some op)).proc (r.places a).far op

-- the actor's next turn is the first of a move, which it waits for nothing to do, of a page that is mapped and has no entry
abbrev pub FindsUntouched : ScriptValue → RunState → (a : ℕ) → Type 0
FindsUntouched script r a =
    (p page : ℕ) × (zone : Zone) × (op_in script r a ≡ Some (Move p page zone)) × (waiting_in script r a ≡ None)
    × (r.core.birth p ≡ born) × (r.core.job a ≡ idle) × IsSome (r.core.right p page) × (r.core.entry p page ≡ None)

-- the actor's next turn is one of a move that has read this count of its page's frame after it cleared the entry, and it isn't 1
abbrev pub HasCountedMore : ScriptValue → RunState → (a count : ℕ) → Type 0
HasCountedMore script r a count =
    (p page g : ℕ) × (zone : Zone) × (e : Entry) × (op_in script r a ≡ Some (Move p page zone))
    × (place_in r.core a ≡ moving_page g e (more count)) × (count ≡ 1 → ⊥)

-- the same of the next page of a long pin, which is to be moved first
abbrev pub HasPinnedMore : ScriptValue → RunState → (a count : ℕ) → Type 0
HasPinnedMore script r a count =
    (handle page n g : ℕ) × (want : Want) × (fast : Bool) × (e : Entry) × (op_in script r a ≡ Some (Pin handle page n want fast))
    × (want.long ≡ true) × (place_in r.core a ≡ moving_page g e (more count)) × (count ≡ 1 → ⊥)

-- the actor's next turn is one of a look, which it waits for nothing to do, through a slot that is empty
abbrev pub FindsStale : ScriptValue → RunState → (a : ℕ) → Type 0
FindsStale script r a =
    (m word : ℕ) × (op_in script r a ≡ Some (Look m word)) × (waiting_in script r a ≡ None) × (r.core.mirrored m ≡ None)

-- what there must be in the state before an actor's turn that refuses its operation so, or a page of its pin, where it isn't
-- the plain state that denies it: no other refusal of this kind comes
abbrev pub CoreCause : ScriptValue → RunState → (a : ℕ) → Answer → Type 0
CoreCause script r a answers.NoFrame = FindsNoFrame script r a
CoreCause script r a answers.Untouched = FindsUntouched script r a
CoreCause script r a (answers.Busy count) = HasCountedMore script r a count
CoreCause script r a (answers.Unmovable count) = HasPinnedMore script r a count
CoreCause script r a answers.Stale = FindsStale script r a
CoreCause script r a answer = ⊥

-- the turn answers for want of a frame, a page table's too, or that is the cause of its short pin
abbrev pub LacksFrame : List What → Type 0
LacksFrame whats =
    Contains whats (Done answers.NoFrame)
    ⊎ ((got wanted : ℕ) × Contains whats (Done (answers.Short got wanted causes.NoFrame)))

-- a turn from this state answers so exactly where it lacks a frame
abbrev pub LacksExactly : ScriptValue → RunState → Turn → Type 0
LacksExactly script r turn =
    (LacksFrame turn.whats → FindsNoFrame script r turn.actor)
    × (FindsNoFrame script r turn.actor → LacksFrame turn.whats)

-- the turn answers that a page can't be moved, whose frame has this count, or that is the cause of its short pin
abbrev pub RefusesUnmovable : List What → (count : ℕ) → Type 0
RefusesUnmovable whats count =
    Contains whats (Done (answers.Unmovable count))
    ⊎ ((got wanted : ℕ) × Contains whats (Done (answers.Short got wanted (causes.Unmovable count))))

-- and it answers that a page is untouched exactly where it finds it so
abbrev pub UntouchedExactly : ScriptValue → RunState → Turn → Type 0
UntouchedExactly script r turn =
    (Contains turn.whats (Done answers.Untouched) → FindsUntouched script r turn.actor)
    × (FindsUntouched script r turn.actor → Contains turn.whats (Done answers.Untouched))

-- and that a slot is empty exactly where it finds that
abbrev pub StaleExactly : ScriptValue → RunState → Turn → Type 0
StaleExactly script r turn =
    (Contains turn.whats (Done answers.Stale) → FindsStale script r turn.actor)
    × (FindsStale script r turn.actor → Contains turn.whats (Done answers.Stale))

-- it answers that a page is busy, or that it can't be moved, exactly where its operation has counted so many references
abbrev pub BusyExactly : ScriptValue → RunState → Turn → Type 0
BusyExactly script r turn =
    (count : ℕ)
    → (Contains turn.whats (Done (answers.Busy count)) → HasCountedMore script r turn.actor count)
    × (HasCountedMore script r turn.actor count → Contains turn.whats (Done (answers.Busy count)))

abbrev pub UnmovableExactly : ScriptValue → RunState → Turn → Type 0
UnmovableExactly script r turn =
    (count : ℕ)
    → (RefusesUnmovable turn.whats count → HasPinnedMore script r turn.actor count)
    × (HasPinnedMore script r turn.actor count → RefusesUnmovable turn.whats count)

-- how many operations notes answer
abbrev pub answers_in : List What → ℕ
answers_in [] = 0
answers_in (Done answer ∷ whats) = answers_in whats + 1
answers_in (what ∷ whats) = answers_in whats

abbrev pub answered_in : List NoteValue → ℕ
answered_in notes = answers_in (map (λ (note : NoteValue). note.what) notes)

-- every actor has answered all its operations
abbrev pub HaveFinished : ScriptValue → RunState → Type 0
HaveFinished script end = (a : ℕ) → a < length script.actors → has_finished script a (end.places a) ≡ true

-- an actor waits for a process of the script to be born, or for a pin of the script to be given to it
abbrev pub WaitsForBirthOrPin : ScriptValue → Waiting → Type 0
WaitsForBirthOrPin script waiting =
    ((p : ℕ) × (p < length script.processes) × (waiting ≡ waitings.Process p))
    ⊎ ((h : ℕ) × (h < length script.handles) × (waiting ≡ waitings.Handle h))
