-- What is known of each state that turns lead to, whoever takes them.
use Rattle.std.specs.Prelude.{◌≡◌, ℕ, ◌+◌, ◌*◌, ◌≤◌, ◌<◌, ◌==◌, Bool, true, if◌then◌else◌, List, [], length, slice_get, Option, Some, None, IsSome}
use Rattle.gup_base.specs.Parts.{Part, words_of}
use Rattle.gup_base.specs.declared.entry.Entry.{Entry}
use Rattle.gup_base.specs.declared.entry.Want.{Want}
use Rattle.gup_base.specs.declared.entry.Zone.{Zone}
use Rattle.gup_plain.specs.Event.{page_numbers}
use Rattle.gup_plain.specs.State.{unborn, Handle, unmade, held, given, gone}
use Rattle.gup_script.specs.declared.op.Op.{Op}
use Rattle.gup_script.specs.declared.op.Op.TheVariants.{Unmap, Discard, Pin, Unpin, Transfer, Fork, Move}
use Rattle.gup_script.specs.Limits.{most_pinned, most_handles}
use Rattle.gup_script.specs.Script.{ScriptValue}
use Rattle.gup_script.specs.Valid.{made_by}
use Rattle.gup_spec_events.specs.State.{CoreState, Taken, WalkStep, idle, forking, copying, walking}
use Rattle.gup_spec_events.specs.Event.{bias, has_tables}
use Rattle.gup_spec_events.specs.Invariant.{Holds, grabbed_frame}
use Rattle.gup_law_base.specs.Sound.{IsSound}
use Rattle.gup_law_tables.specs.Standing.{TablesStand, EntriesStand, IsSomewhere}
use Rattle.gup_law_tables.specs.Inside.{WalksStand}
use Rattle.gup_spec_journal.specs.Place.{ops_of, present_op, process_of}
use Rattle.gup_plain.specs.Pages.{mapped_pages}
use Rattle.gup_spec_turns.specs.Run.{RunState}
use Rattle.gup_spec_turns.specs.JobPlace.{StandsFork, StandsMove, KeepsFrame, IsPrepared, KeepsNoJob}
use Rattle.gup_spec_turns.specs.PinPlace.{IsNoPin, StandsPin, most_over}

-- how many pages of a pin its holder has given back: those of the unpin that it is in the middle of
abbrev pub given_back : Option Op → (handle far : ℕ) → ℕ
given_back (Some (Unpin h)) handle far = if h == handle then far else 0
given_back op handle far = 0

-- A pin that is made has at most 16 pages, and all of them but those that its holder has given back; at least one is left.
abbrev pub StandsHandle : (back : ℕ → ℕ) → (pinned : List ℕ) → Handle → Type 0
StandsHandle back pinned unmade = pinned ≡ []
StandsHandle back pinned gone = pinned ≡ []
StandsHandle back pinned (held by objects write) =
    (0 < length pinned) × (length objects ≤ most_pinned) × (length pinned + back by ≡ length objects)
StandsHandle back pinned (given to objects write) =
    (0 < length pinned) × (length objects ≤ most_pinned) × (length pinned ≡ length objects)

abbrev pub back_in : ScriptValue → RunState → (handle a : ℕ) → ℕ
back_in script r handle a = given_back (present_op script a (r.places a)) handle (r.places a).far

-- a handle of which neither a pin is made nor a reference is got
abbrev pub IsUnmade : CoreState → (handle : ℕ) → Type 0
IsUnmade s handle = (s.handle handle ≡ unmade) × (s.got handle ≡ None)

-- While an actor copies a page into a frame, the child of its fork lacks no table for the page.
abbrev pub CopyStands : CoreState → (a : ℕ) → Type 0
CopyStands s a =
    (p c page word to : ℕ) (done : List ℕ) → s.job a ≡ forking p c done (copying page word) → s.prepared a ≡ Some to
    → has_tables s c page ≡ true

-- The core state is sound, and all that is published of core states holds of it; each page table is free or of one process.
-- Entries need tables: each page with an entry lacks none, and neither does one whose entry is cleared to be moved. A walk stands
-- in page tables that its process has kept. A table that is free, or that a process has, is one of those that the script says
-- there are. A page that is copied has its tables.
-- Processes that are not unborn are declared. Each entry is of a mapped page, and its frame has a reference. No actor but one
-- that forks, moves, walks or pins for long is in the middle of anything, and none at the first turn of its operation; none but
-- one that pins has taken pages, and none but one that copies a page has prepared a frame. A pin has had no more turns than its
-- walk and its pages take. An operation that goes over pages or words stands at one of them, an unpin has given back fewer than
-- the most pages of a pin, and no actor has answered more operations than it has. Pins and references are of declared handles.
-- The weight of each page of a pin is in the count of its frame, also of one that is taken or that a walk has grabbed, and so
-- is that of a reference; the handle of a pin or a reference that isn't answered is unmade. Counts and sequences stay small,
-- and so do the walks that run in a process: an actor that walks is one of them.
pub record IsStanding (script : ScriptValue) (r : RunState) : Type 0 where
  pub sound : IsSound r.core
  pub holds : Holds r.core
  pub tables : TablesStand r.core
  pub entries : EntriesStand r.core
  pub inside : WalksStand r.core
  pub needs : r.core.needs_tables ≡ true
  pub few_tables : (table : ℕ) → IsSomewhere r.core table → table < script.frames.tables
  pub copies : (a : ℕ) → CopyStands r.core a
  pub declared : (p : ℕ) → (r.core.birth p ≡ unborn → ⊥) → p < length script.processes
  pub mapped : (p page : ℕ) (e : Entry) → r.core.entry p page ≡ Some e → IsSome (r.core.right p page)
  pub counted : (p page : ℕ) (e : Entry) → r.core.entry p page ≡ Some e → r.core.count e.frame ≡ 0 → ⊥
  pub few_pages : (p : ℕ) → mapped_pages (r.core.right p) ≤ 1024
  pub few_counts : (f : ℕ) → r.core.count f ≤ 16 * page_numbers + most_handles + 81 + bias * 17761
  pub few_forks : (p : ℕ) → r.core.sequence p ≤ 32
  pub few_walks : (p : ℕ) → r.core.walks p ≤ 81
  pub walks : (a p sequence : ℕ) (write long : Bool) (step : WalkStep) → r.core.job a ≡ walking p write long sequence step → 0 < r.core.walks p
  pub idle_jobs : (a : ℕ) → KeepsNoJob (present_op script a (r.places a)) → r.core.job a ≡ idle
  pub fresh : (a : ℕ) → (r.places a).far ≡ 0 → r.core.job a ≡ idle
  pub forks : (a child : ℕ) → present_op script a (r.places a) ≡ Some (Fork child) → StandsFork r.core a (process_of script a) child (r.core.job a) (r.core.prepared a)
  pub moves : (a proc page : ℕ) (zone : Zone) → present_op script a (r.places a) ≡ Some (Move proc page zone) → StandsMove r.core a proc page zone (r.core.job a)
  pub keeps : (a : ℕ) → KeepsFrame (r.core.job a) (r.core.prepared a)
  pub prepared : (a f : ℕ) → r.core.prepared a ≡ Some f → IsPrepared r.core f
  pub untaken : (a : ℕ) → IsNoPin (present_op script a (r.places a)) → r.core.taken a ≡ []
  pub pins : (a handle page n : ℕ) (want : Want) (fast : Bool) → present_op script a (r.places a) ≡ Some (Pin handle page n want fast) → StandsPin r.core a (process_of script a) handle page n want fast (length (r.core.taken a))
  pub paced : (a handle page n : ℕ) (want : Want) (fast : Bool) → present_op script a (r.places a) ≡ Some (Pin handle page n want fast) → (r.places a).far ≤ most_over fast want.long n (length (r.core.taken a)) (r.core.job a)
  pub flagged : (a handle page n : ℕ) (want : Want) (fast : Bool) → present_op script a (r.places a) ≡ Some (Pin handle page n want fast) → 0 < (r.places a).far → r.core.has_pinned (process_of script a) ≡ true
  pub handles : (h : ℕ) → StandsHandle (back_in script r h) (r.core.pinned h) (r.core.handle h)
  pub made : (h : ℕ) → (r.core.handle h ≡ unmade → ⊥) → h < length script.handles
  pub weighed : (h k f : ℕ) → slice_get (r.core.pinned h) k ≡ Some f → bias ≤ r.core.count f
  pub taken_weighed : (a k : ℕ) (t : Taken) → slice_get (r.core.taken a) k ≡ Some t → bias ≤ r.core.count t.frame
  pub grabbed : (a f : ℕ) → grabbed_frame (r.core.job a) ≡ Some f → bias ≤ r.core.count f
  pub got : (h : ℕ) → (r.core.got h ≡ None → ⊥) → h < length script.handles
  pub referred : (h a f : ℕ) → r.core.got h ≡ Some (a, f) → r.core.count f ≡ 0 → ⊥
  pub yet_unmade : (a handle : ℕ) (op : Op) → present_op script a (r.places a) ≡ Some op → made_by op ≡ Some handle → IsUnmade r.core handle
  pub unmaps : (a page n : ℕ) → present_op script a (r.places a) ≡ Some (Unmap page n) → (r.places a).far < n
  pub discards : (a page n : ℕ) → present_op script a (r.places a) ≡ Some (Discard page n) → (r.places a).far < n
  pub unpins : (a handle : ℕ) → present_op script a (r.places a) ≡ Some (Unpin handle) → (r.places a).far < most_pinned
  pub transfers : (a handle : ℕ) (outward : Bool) (slot : ℕ) (parts : List Part) → present_op script a (r.places a) ≡ Some (Transfer handle outward slot parts) → (r.places a).far < words_of parts
  pub answered : (a : ℕ) → (r.places a).answered ≤ length (ops_of script a)
