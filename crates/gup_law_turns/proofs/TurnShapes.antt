-- The shapes of a turn: what its notes say, by the operation and the plain state before it.
use Rattle.std.proofs.Common.{◌≡◌, ℕ, ◌+◌, ◌<◌, ◌≤◌, Bool, true, false, IsTrue, List, [], ◌∷◌, length, slice_get, Option, Some, None, subst, arith}
use Rattle.gup_base.specs.Parts.{Part, words_of, word_at}
use Rattle.gup_base.specs.declared.entry.Entry.{Entry}
use Rattle.gup_base.specs.declared.entry.Rights.{Rights}
use Rattle.gup_base.specs.declared.entry.Want.{Want}
use Rattle.gup_base.specs.declared.entry.Zone.{Zone}
use Rattle.gup_plain.specs.Denial.{is_held_by, transfer_denial}
use Rattle.gup_plain.specs.Event.{words}
use Rattle.gup_plain.specs.State.{PlainState, Pending, born, failed, unmade, objects_of}
use Rattle.gup_plain.specs.declared.answer.Answer.{Answer}
use Rattle.gup_plain.specs.declared.answer.Answer.TheVariants as answers
use Rattle.gup_plain.specs.declared.answer.Cause.{Cause}
use Rattle.gup_plain.specs.declared.event.PlainEvent.{PlainEvent}
use Rattle.gup_plain.specs.declared.event.PlainEvent.TheVariants as events
use Rattle.gup_plain.specs.declared.note.What.{What}
use Rattle.gup_plain.specs.declared.note.What.TheVariants.{Silent, Idle, Wait, Event, Done}
use Rattle.gup_plain.specs.declared.note.Waiting.{Waiting}
use Rattle.gup_script.specs.declared.op.Op.{Op}
use Rattle.gup_script.specs.declared.op.Op.TheVariants.{Map, Unmap, Protect, Discard, Load, Store, Pin, Unpin, Give, Take, Get, Put, Transfer, Mirror, Look, Fork, Exit, Move}
use Rattle.gup_spec_events.specs.State.{CoreState, Job, idle, forking, copying, moving, Counted, unread, one, more, Taken, WalkStep, entered, ready, read, grabbed, rechecked, differed, refused as refused_step, stopped, dropping}
use Rattle.gup_spec_events.specs.Invariant.{AllCan}
use Rattle.gup_spec_events.specs.Event.{run}
use Rattle.gup_law_events.specs.Law.{all_told}
use Rattle.gup_spec_journal.specs.Denial.{References, op_denial}
use Rattle.gup_spec_journal.specs.Place.{Place, Doer, birth_for}
use Rattle.gup_spec_journal.specs.Plain.{IsAnswerOf, pages_got, refusal_by_cause}
use Rattle.gup_spec_journal.specs.Thorough.{Passes}
use Rattle.gup_spec_journal.specs.Follows.{refuses, EndsPin, moves_word}
use Rattle.gup_spec_turns.specs.JobPlace.{JobPlace, KeepsFrame, StandsFork, StandsMove, unbegun, from_page, at_page, wants_frame, at_word, moving_page, in_walk}
use Rattle.gup_spec_turns.specs.PinPlace.{HasPages, StandsAtPage, IsWithin, turns_over, most_over}
use Rattle.gup_spec_turns.specs.Cost.{move_turns, pins_turns}
use Rattle.gup_spec_turns.specs.CoreTurn.{CoreTurn}
use Rattle.gup_spec_turns.specs.PinTurns.{got_by}
use Rattle.gup_law_turns.proofs.EventLists.{events_of}
use Rattle.gup_law_turns.proofs.CalmStates.{Strand, of_pages, of_pin, of_handle, of_get, of_put, of_mirror, AreTurnEvents, of_move}

-- an operation stands at its first turn
abbrev pub AtFirst : Place → Type 0
AtFirst place = (place.far ≡ 0) × (place.had ≡ false)

-- an operation is in the middle
abbrev pub IsBegun : Place → Type 0
IsBegun place = (0 < place.far) × (place.had ≡ true)

-- where a fork may stand, by its actor's job and the frame that this has prepared
abbrev pub FitsFork : CoreState → (a p child : ℕ) → Place → Job → (prepared : Option ℕ) → Type 0
FitsFork s a p child place idle prepared = AtFirst place × StandsFork s a p child idle prepared
FitsFork s a p child place (forking q c done step) prepared =
    IsBegun place × StandsFork s a p child (forking q c done step) prepared
FitsFork s a p child place job prepared = ⊥

-- where a move may stand, by its actor's job
abbrev pub FitsMove : CoreState → (a p page : ℕ) → Zone → Place → Job → Type 0
FitsMove s a p page zone place idle = place.far ≡ 0
FitsMove s a p page zone place (moving q g e allowed count) =
    (place.far + move_turns (moving_page g e count) ≡ 3) × StandsMove s a p page zone (moving q g e allowed count)
FitsMove s a p page zone place job = ⊥

-- one in the middle has begun
few_left : (page : ℕ) (e : Entry) (count : Counted) → move_turns (moving_page page e count) ≤ 2
few_left page e unread = omega arith
few_left page e count = omega arith

pub has_begun : (page far : ℕ) (e : Entry) (count : Counted) → far + move_turns (moving_page page e count) ≡ 3 → 0 < far
has_begun page far e count sum = let few = few_left page e count in omega (arith, few, sum)

-- an actor is in the middle of nothing, and has taken no page
abbrev pub Rests : CoreState → ℕ → Type 0
Rests s a = (s.job a ≡ idle) × (s.taken a ≡ [])

-- an operation of which each turn has an event is in the middle exactly where it had one
abbrev pub HadIfBegun : Place → Type 0
HadIfBegun place = (place.far ≡ 0 → place.had ≡ false) × (0 < place.far → place.had ≡ true)

-- of the pin that the actor holds, if it does, all pages are left but those given back, and at least one
abbrev pub HasLeft : CoreState → (a handle back : ℕ) → Type 0
HasLeft s a handle back =
    is_held_by (s.handle handle) a ≡ true
    → (0 < length (s.pinned handle)) × (length (s.pinned handle) + back ≡ length (objects_of (s.handle handle)))

-- Where a pin may stand, by the pages that it has taken and its actor's job. It had an event if it has taken a page, and if it
-- doesn't walk only then; of its turns no fewer are over than pages, and no more than these, its walk and the page that it is in
-- the middle of take.
pub record FitsPin (s : CoreState) (a p handle page n : ℕ) (want : Want) (fast : Bool) (place : Place) (taken : List Taken) (job : Job) : Type 0 where
  pub had_none : fast ≡ false → length taken ≡ 0 → place.had ≡ false
  pub had_some : 0 < length taken → place.had ≡ true
  pub least : length taken + turns_over job ≤ place.far
  pub most : place.far ≤ most_over fast want.long n (length taken) job
  pub within : IsWithin n (length taken) job
  pub yet : s.handle handle ≡ unmade
  pub has : HasPages p page want (length taken) taken job
  pub flag : fast ≡ true → 0 < place.far → s.has_pinned p ≡ true
  pub at : StandsAtPage s a p (page + length taken) n (length taken) want fast job

-- where whoever does it may stand in its present operation
abbrev pub FitsOp : CoreState → Doer → Op → Place → Type 0
FitsOp s who (Unmap page n) place = Rests s who.actor × (place.far < n)
FitsOp s who (Discard page n) place = Rests s who.actor × (place.far < n)
FitsOp s who (Pin handle page n want fast) place =
    FitsPin s who.actor who.proc handle page n want fast place (s.taken who.actor) (s.job who.actor)
FitsOp s who (Unpin handle) place =
    Rests s who.actor × (place.had ≡ false) × (0 < place.far → is_held_by (s.handle handle) who.actor ≡ true)
    × HasLeft s who.actor handle place.far
FitsOp s who (Transfer handle outward slot parts) place =
    Rests s who.actor × HadIfBegun place × (place.far < words_of parts)
    × (0 < place.far → transfer_denial (s.handle handle) who.actor outward who.slots slot parts ≡ None)
    × HasLeft s who.actor handle 0
FitsOp s who (Move proc page zone) place =
    (s.taken who.actor ≡ []) × (place.had ≡ false) × FitsMove s who.actor who.proc page zone place (s.job who.actor)
FitsOp s who (Fork child) place =
    (s.taken who.actor ≡ []) × FitsFork s who.actor who.proc child place (s.job who.actor) (s.prepared who.actor)
FitsOp s who Exit place = Rests s who.actor
FitsOp s who op place = Rests s who.actor × AtFirst place

abbrev pub FitsAt : CoreState → Doer → Option Op → Place → Type 0
FitsAt s who None place = Rests s who.actor × AtFirst place
FitsAt s who (Some op) place = FitsOp s who op place

-- The operations that go over n pages, one a turn, and what takes a page down.
pub data GoesOver (a p : ℕ) : Op → (page n : ℕ) → (ℕ → PlainEvent) → Type 0 where
  unmaps : (page n : ℕ) → GoesOver a p (Unmap page n) page n (events.Unmap a p)
  discards : (page n : ℕ) → GoesOver a p (Discard page n) page n (events.Discard a p)

-- the operations of a born process, a thread's or one that they name: all but those that a device does by itself
abbrev pub IsOfProcess : Op → Type 0
IsOfProcess (Unpin handle) = ⊥
IsOfProcess (Give handle to) = ⊥
IsOfProcess (Take handle) = ⊥
IsOfProcess (Transfer handle outward slot parts) = ⊥
IsOfProcess (Look mirror word) = ⊥
IsOfProcess op = Unit {0}

-- no pin that walks
abbrev pub IsAlwaysSlow : Op → Type 0
IsAlwaysSlow (Pin handle page n want fast) = fast ≡ false
IsAlwaysSlow op = Unit {0}

-- the refusal comes in the operation's first turn: all do but those of a move and of a long pin that have counted
abbrev pub IsAtOnce : Op → Answer → Type 0
IsAtOnce (Pin handle page n want fast) (answers.Unmovable count) = ⊥
IsAtOnce (Move proc page zone) (answers.Busy count) = ⊥
IsAtOnce (Move proc page zone) answers.NoFrame = ⊥
IsAtOnce op answer = Unit {0}

-- from where a pin stands its next slow turn may pin a page
abbrev pub TriesAt : Want → JobPlace → Type 0
TriesAt want unbegun = Unit {0}
TriesAt want (moving_page g e one) = want.long ≡ true
TriesAt want at = ⊥

-- a pin that walks goes slowly only after its walk
abbrev pub IsSlowTurn : (fast : Bool) → (far : ℕ) → Type 0
IsSlowTurn true far = 0 < far
IsSlowTurn false far = Unit {0}

-- or refuse it so
abbrev pub RefusesAt : Want → JobPlace → Answer → Type 0
RefusesAt want unbegun (answers.Unmovable count) = ⊥
RefusesAt want unbegun answer = Unit {0}
RefusesAt want (moving_page g e one) answers.NoFrame = want.long ≡ true
RefusesAt want (moving_page g e (more count)) (answers.Unmovable c) = (want.long ≡ true) × (c ≡ count)
RefusesAt want at answer = ⊥

-- pages that are pending, one after another, the first of them this one
abbrev pub AreFrom : (page : ℕ) → List Pending → Type 0
AreFrom page pending = (k : ℕ) (t : Pending) → slice_get pending k ≡ Some t → t.page ≡ page + k

-- The turns of the walk of a pin that has got so many pages, by the step at which it stands: what their notes say, and where it
-- stands then.
pub data WalksTo (s : PlainState) (who : Doer) (page n got : ℕ) (write : Bool) (sequence : ℕ) : WalkStep → List What → JobPlace → Type 0 where
  -- the sequence: a fork runs, or the first page is next
  found_fork : WalksTo s who page n got write sequence entered (Silent ∷ []) unbegun
  found_sequence : (now : ℕ) → WalksTo s who page n got write sequence entered (Silent ∷ []) (in_walk now ready)
  -- a page: its entry is right, its frame is grabbed, the word above and its entry are the same, and its frame is marked; or the
  -- walk stops
  found_entry : (g : ℕ) (path : List ℕ) (e : Entry) → got < n → WalksTo s who page n got write sequence ready (Silent ∷ []) (in_walk sequence (read g path e))
  found_wrong : got < n → WalksTo s who page n got write sequence ready (Silent ∷ []) (in_walk sequence stopped)
  grabbed_frame : (g : ℕ) (path : List ℕ) (e : Entry) → got < n → WalksTo s who page n got write sequence (read g path e) (Silent ∷ []) (in_walk sequence (grabbed g path e))
  found_free : (g : ℕ) (path : List ℕ) (e : Entry) → got < n → WalksTo s who page n got write sequence (read g path e) (Silent ∷ []) (in_walk sequence stopped)
  took_page : (g : ℕ) (path : List ℕ) (e : Entry) → got < n → WalksTo s who page n got write sequence (grabbed g path e) (Event (events.PinTry who.actor who.proc (page + got) write) ∷ []) (in_walk sequence (rechecked g e))
  found_other : (g : ℕ) (path : List ℕ) (e : Entry) → got < n → WalksTo s who page n got write sequence (grabbed g path e) (Silent ∷ []) (in_walk sequence (differed e.frame))
  found_mark : (g : ℕ) (e : Entry) → 0 < got → WalksTo s who page n got write sequence (rechecked g e) (Silent ∷ []) (in_walk sequence ready)
  found_unmarked : (g : ℕ) (e : Entry) → 0 < got → WalksTo s who page n got write sequence (rechecked g e) (Silent ∷ []) (in_walk sequence refused_step)
  dropped_frame : (f : ℕ) → got < n → WalksTo s who page n got write sequence (differed f) (Silent ∷ []) (in_walk sequence stopped)
  dropped_page : (g : ℕ) → g + 1 ≡ page + got → 0 < got → got ≤ n → AreFrom page (s.pending who.actor) → WalksTo s who page n got write sequence refused_step (Event (events.PinDrop who.actor g) ∷ []) (in_walk sequence stopped)
  -- the sequence again: it is as it was, or all pages are dropped
  found_same : got < n → WalksTo s who page n got write sequence stopped (Silent ∷ []) unbegun
  found_changed : got < n → 0 < got → AreFrom page (s.pending who.actor) → WalksTo s who page n got write sequence stopped (Silent ∷ []) (in_walk sequence dropping)
  lost_all : got ≡ n → 0 < got → AreFrom page (s.pending who.actor) → WalksTo s who page n got write sequence ready (Silent ∷ []) (in_walk sequence dropping)
  dropped_first : (g : ℕ) → 1 < got → AreFrom g (s.pending who.actor) → WalksTo s who page n got write sequence dropping (Event (events.PinDrop who.actor g) ∷ []) (in_walk sequence dropping)
  dropped_last : (g : ℕ) → got ≡ 1 → AreFrom g (s.pending who.actor) → WalksTo s who page n got write sequence dropping (Event (events.PinDrop who.actor g) ∷ []) unbegun

-- The turns of an operation that stands at this place, of a device or of a born process; a fork, a move and a long pin go from where they
-- stand to where they stand then.
pub data TurnOf (s : PlainState) (references : References) (who : Doer) (place : Place) : Op → JobPlace → List What → JobPlace → Type 0 where
  -- its only turn: it is refused, or has its event
  refused : (op : Op) (answer : Answer) → AtFirst place → IsTrue (refuses op answer) → IsAtOnce op answer → IsAlwaysSlow op → IsAnswerOf (op_denial s references who (pages_got s who.actor) op) answer → Passes s who.proc op place.far → TurnOf s references who place op unbegun (Done answer ∷ []) unbegun
  mapped : (page n : ℕ) (rights : Rights) → AtFirst place → op_denial s references who (pages_got s who.actor) (Map page n rights) ≡ None → TurnOf s references who place (Map page n rights) unbegun (Event (events.Map who.actor who.proc page n rights) ∷ Done answers.Plain ∷ []) unbegun
  protected : (page n : ℕ) (rights : Rights) → AtFirst place → op_denial s references who (pages_got s who.actor) (Protect page n rights) ≡ None → TurnOf s references who place (Protect page n rights) unbegun (Event (events.Protect who.actor who.proc page n rights) ∷ Done answers.Plain ∷ []) unbegun
  loaded : (page word value : ℕ) → AtFirst place → op_denial s references who (pages_got s who.actor) (Load page word) ≡ None → TurnOf s references who place (Load page word) unbegun (Event (events.Load who.actor who.proc page word value) ∷ Done (answers.Value value) ∷ []) unbegun
  filled_slot : (mirror proc page : ℕ) → who.proc ≡ proc → AtFirst place → op_denial s references who (pages_got s who.actor) (Mirror mirror proc page) ≡ None → TurnOf s references who place (Mirror mirror proc page) unbegun (Event (events.MirrorFill who.actor mirror who.proc page) ∷ Done answers.Plain ∷ []) unbegun
  looked : (mirror word value : ℕ) → AtFirst place → TurnOf s references who place (Look mirror word) unbegun (Event (events.Look who.actor mirror word value) ∷ Done (answers.Value value) ∷ []) unbegun
  stored : (page word value : ℕ) → AtFirst place → op_denial s references who (pages_got s who.actor) (Store page word value) ≡ None → TurnOf s references who place (Store page word value) unbegun (Event (events.Store who.actor who.proc page word value) ∷ Done answers.Plain ∷ []) unbegun
  gave : (handle to : ℕ) → AtFirst place → op_denial s references who (pages_got s who.actor) (Give handle to) ≡ None → TurnOf s references who place (Give handle to) unbegun (Event (events.Give who.actor handle to) ∷ Done answers.Plain ∷ []) unbegun
  took_over : (handle : ℕ) → AtFirst place → TurnOf s references who place (Take handle) unbegun (Event (events.Take who.actor handle) ∷ Done answers.Plain ∷ []) unbegun
  -- a reference: it is got, or put back
  got_one : (handle page : ℕ) → AtFirst place → op_denial s references who (pages_got s who.actor) (Get handle page) ≡ None → TurnOf s references who place (Get handle page) unbegun (Done answers.Plain ∷ []) unbegun
  put_back : (handle : ℕ) → AtFirst place → op_denial s references who (pages_got s who.actor) (Put handle) ≡ None → TurnOf s references who place (Put handle) unbegun (Done answers.Plain ∷ []) unbegun
  -- one page of several
  took : (op : Op) (page n : ℕ) (event : ℕ → PlainEvent) → GoesOver who.actor who.proc op page n event → place.far + 1 < n → TurnOf s references who place op unbegun (Event (event (page + place.far)) ∷ []) unbegun
  took_last : (op : Op) (page n : ℕ) (event : ℕ → PlainEvent) → GoesOver who.actor who.proc op page n event → place.far + 1 ≡ n → TurnOf s references who place op unbegun (Event (event (page + place.far)) ∷ Done answers.Plain ∷ []) unbegun
  passed : (op : Op) (page n : ℕ) (event : ℕ → PlainEvent) → GoesOver who.actor who.proc op page n event → place.far + 1 < n → s.right who.proc (page + place.far) ≡ None → TurnOf s references who place op unbegun (Silent ∷ []) unbegun
  passed_last : (op : Op) (page n : ℕ) (event : ℕ → PlainEvent) → GoesOver who.actor who.proc op page n event → place.far + 1 ≡ n → s.right who.proc (page + place.far) ≡ None → TurnOf s references who place op unbegun (Done answers.Plain ∷ []) unbegun
  -- an exit: the lowest page that is named, and the answer where none is
  took_lowest : (page : ℕ) → ((g : ℕ) → g < page → s.right who.proc g ≡ None) → TurnOf s references who place Exit unbegun (Event (events.Unmap who.actor who.proc page) ∷ []) unbegun
  took_all : ((g : ℕ) → s.right who.proc g ≡ None) → TurnOf s references who place Exit unbegun (Done answers.Plain ∷ []) unbegun
  -- a pin: one page of several, the last one, or one that is refused; before that a long pin may clear the page, and count
  cleared_page : (handle page n : ℕ) (want : Want) (fast : Bool) (g : ℕ) (e : Entry) → want.long ≡ true → IsSlowTurn fast place.far → (fast ≡ false → pages_got s who.actor ≡ 0 → place.far ≡ 0) → pages_got s who.actor < n → place.far + 1 < pins_turns fast want.long n → TurnOf s references who place (Pin handle page n want fast) unbegun (Silent ∷ []) (moving_page g e unread)
  counted_cleared : (handle page n : ℕ) (want : Want) (fast : Bool) (g : ℕ) (e : Entry) (count : Counted) → (count ≡ unread → ⊥) → want.long ≡ true → 0 < place.far → pages_got s who.actor < n → place.far + 1 < pins_turns fast want.long n → TurnOf s references who place (Pin handle page n want fast) (moving_page g e unread) (Silent ∷ []) (moving_page g e count)
  lacked_frame : (handle page n : ℕ) (want : Want) (fast : Bool) (g : ℕ) (e : Entry) → want.long ≡ true → 0 < place.far → pages_got s who.actor ≡ 0 → op_denial s references who (pages_got s who.actor) (Pin handle page n want fast) ≡ None → TurnOf s references who place (Pin handle page n want fast) (moving_page g e one) (Done answers.NoFrame ∷ []) unbegun
  found_unmovable : (handle page n : ℕ) (want : Want) (fast : Bool) (g : ℕ) (e : Entry) (count : ℕ) → want.long ≡ true → 0 < place.far → pages_got s who.actor ≡ 0 → op_denial s references who (pages_got s who.actor) (Pin handle page n want fast) ≡ None → TurnOf s references who place (Pin handle page n want fast) (moving_page g e (more count)) (Done (answers.Unmovable count) ∷ []) unbegun
  pinned_page : (handle page n : ℕ) (want : Want) (fast : Bool) (from : JobPlace) → IsSlowTurn fast place.far → TriesAt want from → pages_got s who.actor + 1 < n → place.far + 1 < pins_turns fast want.long n → op_denial s references who (pages_got s who.actor) (Pin handle page n want fast) ≡ None → TurnOf s references who place (Pin handle page n want fast) from (Event (events.PinTry who.actor who.proc (page + pages_got s who.actor) want.write) ∷ []) unbegun
  pinned_all : (handle page n : ℕ) (want : Want) (fast : Bool) (from : JobPlace) → IsSlowTurn fast place.far → TriesAt want from → pages_got s who.actor + 1 ≡ n → op_denial s references who (pages_got s who.actor) (Pin handle page n want fast) ≡ None → TurnOf s references who place (Pin handle page n want fast) from (Event (events.PinTry who.actor who.proc (page + pages_got s who.actor) want.write) ∷ Event (events.PinOk who.actor handle) ∷ Done (answers.Pinned n) ∷ []) unbegun
  pinned_short : (handle page n : ℕ) (want : Want) (fast : Bool) (got : ℕ) (cause : Cause) (from : JobPlace) → place.had ≡ true → pages_got s who.actor ≡ got → 0 < got → got < n → EndsPin want cause → RefusesAt want from (refusal_by_cause cause) → IsAnswerOf (op_denial s references who got (Pin handle page n want fast)) (refusal_by_cause cause) → TurnOf s references who place (Pin handle page n want fast) from (Event (events.PinOk who.actor handle) ∷ Done (answers.Short got n cause) ∷ []) unbegun
  -- a pin that walks: it begins, goes from step to step, keeps all pages, or is refused behind its walk
  began_walk : (handle page n : ℕ) (want : Want) → AtFirst place → 1 < pins_turns true want.long n → TurnOf s references who place (Pin handle page n want true) unbegun (Silent ∷ []) (in_walk 0 entered)
  walked : (handle page n : ℕ) (want : Want) (sequence : ℕ) (step : WalkStep) (whats : List What) (to : JobPlace) → WalksTo s who page n (pages_got s who.actor) want.write sequence step whats to → place.far + 1 < pins_turns true want.long n → ((e : PlainEvent) → whats ≡ Event e ∷ [] → place.had ≡ false → op_denial s references who (pages_got s who.actor) (Pin handle page n want true) ≡ None) → TurnOf s references who place (Pin handle page n want true) (in_walk sequence step) whats to
  kept_all : (handle page n : ℕ) (want : Want) (sequence : ℕ) → pages_got s who.actor ≡ n → place.had ≡ true → TurnOf s references who place (Pin handle page n want true) (in_walk sequence ready) (Event (events.PinOk who.actor handle) ∷ Done (answers.Pinned n) ∷ []) unbegun
  refused_slowly : (handle page n : ℕ) (want : Want) (answer : Answer) → 0 < place.far → pages_got s who.actor ≡ 0 → IsTrue (refuses (Pin handle page n want true) answer) → (answer ≡ answers.Unborn → ⊥) → IsAtOnce (Pin handle page n want true) answer → IsAnswerOf (op_denial s references who (pages_got s who.actor) (Pin handle page n want true)) answer → TurnOf s references who place (Pin handle page n want true) unbegun (Done answer ∷ []) unbegun
  -- an unpin: one page of several, and the last one
  unpinned_page : (handle : ℕ) → op_denial s references who (pages_got s who.actor) (Unpin handle) ≡ None → place.far + 1 < length (objects_of (s.handle handle)) → TurnOf s references who place (Unpin handle) unbegun (Silent ∷ []) unbegun
  unpinned_last : (handle : ℕ) → place.had ≡ false → op_denial s references who (pages_got s who.actor) (Unpin handle) ≡ None → place.far + 1 ≡ length (objects_of (s.handle handle)) → TurnOf s references who place (Unpin handle) unbegun (Event (events.Unpin who.actor handle) ∷ Done answers.Plain ∷ []) unbegun
  -- a transfer: one word of several, and the last one
  moved_word : (handle : ℕ) (outward : Bool) (slot : ℕ) (parts : List Part) (value : ℕ) → place.far + 1 < words_of parts → op_denial s references who (pages_got s who.actor) (Transfer handle outward slot parts) ≡ None → TurnOf s references who place (Transfer handle outward slot parts) unbegun (Event (moves_word who.actor handle outward (word_at parts place.far) (slot + place.far) value) ∷ []) unbegun
  moved_last : (handle : ℕ) (outward : Bool) (slot : ℕ) (parts : List Part) (value : ℕ) → place.far + 1 ≡ words_of parts → op_denial s references who (pages_got s who.actor) (Transfer handle outward slot parts) ≡ None → TurnOf s references who place (Transfer handle outward slot parts) unbegun (Event (moves_word who.actor handle outward (word_at parts place.far) (slot + place.far) value) ∷ Done answers.Words ∷ []) unbegun
  -- a move: it clears the entry, it counts, and it places another frame, or puts the entry back
  cleared_entry : (proc page : ℕ) (zone : Zone) (e : Entry) → AtFirst place → TurnOf s references who place (Move proc page zone) unbegun (Silent ∷ []) (moving_page page e unread)
  counted_frame : (proc page : ℕ) (zone : Zone) (e : Entry) (count : Counted) → (count ≡ unread → ⊥) → 0 < place.far → TurnOf s references who place (Move proc page zone) (moving_page page e unread) (Silent ∷ []) (moving_page page e count)
  placed_frame : (proc page : ℕ) (zone : Zone) (e : Entry) → 0 < place.far → op_denial s references who (pages_got s who.actor) (Move proc page zone) ≡ None → TurnOf s references who place (Move proc page zone) (moving_page page e one) (Done answers.Plain ∷ []) unbegun
  found_no_frame : (proc page : ℕ) (zone : Zone) (e : Entry) → 0 < place.far → op_denial s references who (pages_got s who.actor) (Move proc page zone) ≡ None → TurnOf s references who place (Move proc page zone) (moving_page page e one) (Done answers.NoFrame ∷ []) unbegun
  found_busy : (proc page : ℕ) (zone : Zone) (e : Entry) (count : ℕ) → 0 < place.far → op_denial s references who (pages_got s who.actor) (Move proc page zone) ≡ None → TurnOf s references who place (Move proc page zone) (moving_page page e (more count)) (Done (answers.Busy count) ∷ []) unbegun
  -- a fork: its beginning, a page that is passed, one that is counted and then shared, or for which a table is lacking, its end
  began : (child : ℕ) → AtFirst place → TurnOf s references who place (Fork child) unbegun (Event (events.ForkBegin who.proc child) ∷ []) (from_page 0)
  passed_page : (child from page : ℕ) → IsBegun place → from ≤ page → TurnOf s references who place (Fork child) (from_page from) (Event (events.ForkPage who.proc child page) ∷ []) (from_page (page + 1))
  counted_page : (child from page : ℕ) → IsBegun place → from ≤ page → TurnOf s references who place (Fork child) (from_page from) (Silent ∷ []) (at_page page)
  shared_page : (child page : ℕ) → IsBegun place → TurnOf s references who place (Fork child) (at_page page) (Event (events.ForkPage who.proc child page) ∷ []) (from_page (page + 1))
  failed_share : (child page : ℕ) → IsBegun place → TurnOf s references who place (Fork child) (at_page page) (Event (events.ForkFail child) ∷ Done answers.NoFrame ∷ []) unbegun
  ended : (child from : ℕ) → IsBegun place → TurnOf s references who place (Fork child) (from_page from) (Event (events.ForkEnd who.proc child) ∷ Done answers.Plain ∷ []) unbegun
  -- a page that it counts and then copies: it takes a frame, copies word by word, and places the copy; or it finds no frame
  counted_copy : (child from page : ℕ) → IsBegun place → from ≤ page → TurnOf s references who place (Fork child) (from_page from) (Silent ∷ []) (wants_frame page)
  took_frame : (child page to : ℕ) → IsBegun place → TurnOf s references who place (Fork child) (wants_frame page) (Silent ∷ []) (at_word page 0 to)
  copied_word : (child page word to : ℕ) → IsBegun place → word < words → TurnOf s references who place (Fork child) (at_word page word to) (Event (events.ForkWord who.proc child page word) ∷ []) (at_word page (word + 1) to)
  placed_copy : (child page to : ℕ) → IsBegun place → TurnOf s references who place (Fork child) (at_word page words to) (Silent ∷ []) (from_page (page + 1))
  failed_fork : (child page : ℕ) → IsBegun place → TurnOf s references who place (Fork child) (wants_frame page) (Event (events.ForkFail child) ∷ Done answers.NoFrame ∷ []) unbegun

-- The turns of an actor: idle where it has finished, waiting, of its operation, or refused since its process failed, which
-- makes the child of a fork failed too.
pub data TurnAt (s : PlainState) (references : References) (who : Doer) (place : Place) : Option Op → Option Waiting → JobPlace → List What → JobPlace → Type 0 where
  idles : (waiting : Option Waiting) (at : JobPlace) → TurnAt s references who place None waiting at (Idle ∷ []) at
  waits : (op : Op) (waiting : Waiting) (at : JobPlace) → TurnAt s references who place (Some op) (Some waiting) at (Wait waiting ∷ []) at
  goes : (op : Op) (whats : List What) (from to : JobPlace) → birth_for s.birth who ≡ born → (IsOfProcess op → s.birth who.proc ≡ born) → TurnOf s references who place op from whats to → TurnAt s references who place (Some op) None from whats to
  unborn_refused : (op : Op) → birth_for s.birth who ≡ failed → AtFirst place → IsTrue (refuses op answers.Unborn) → TurnAt s references who place (Some op) None unbegun (Done answers.Unborn ∷ []) unbegun
  unborn_fork : (child : ℕ) → birth_for s.birth who ≡ failed → s.birth who.proc ≡ failed → AtFirst place → TurnAt s references who place (Some (Fork child)) None unbegun (Event (events.ForkFail child) ∷ Done answers.Unborn ∷ []) unbegun

-- between two turns an actor keeps no other frame, and owes no reference
pub record AtRest (s : CoreState) (a : ℕ) : Type 0 where
  pub prepared : KeepsFrame (s.job a) (s.prepared a)
  pub owed : s.owed a ≡ None

-- so one that is in the middle of nothing has prepared none
pub unprepared : (s : CoreState) (a : ℕ) → AtRest s a → s.job a ≡ idle → s.prepared a ≡ None
unprepared s a rest job = subst (λ (j : Job). KeepsFrame j (s.prepared a)) job rest.prepared

-- one that has prepared none is at rest, whatever it is in the middle of
pub keeps_none : (job : Job) (prepared : Option ℕ) → prepared ≡ None → KeepsFrame job prepared
keeps_none (forking q c done (copying page word)) prepared none = tt
keeps_none job prepared none = none

pub at_rest : (s : CoreState) (a : ℕ) → s.prepared a ≡ None → s.owed a ≡ None → AtRest s a
at_rest s a none owed = record { prepared = keeps_none (s.job a) (s.prepared a) none; owed = owed }

-- the child that an operation of process p brings, or else p
abbrev pub child_of : (p : ℕ) → Option Op → ℕ
child_of p (Some (Fork child)) = child
child_of p op = p

-- who has got references in a state of the core machine
abbrev pub references_of : CoreState → References
references_of s handle = got_by (s.got handle)

-- what an operation is about
abbrev pub strand_of : Option Op → Strand
strand_of (Some (Pin handle page n want fast)) = of_pin handle
strand_of (Some (Unpin handle)) = of_handle handle
strand_of (Some (Give handle to)) = of_handle handle
strand_of (Some (Take handle)) = of_handle handle
strand_of (Some (Transfer handle outward slot parts)) = of_handle handle
strand_of (Some (Get handle page)) = of_get handle
strand_of (Some (Put handle)) = of_put handle
strand_of (Some (Mirror mirror proc page)) = of_mirror mirror
strand_of (Some (Move proc page zone)) = of_move
strand_of op = of_pages

-- A turn's core events are the actor's own, they can happen, they leave the actor at rest, and the plain events
-- that stand at them are those of the notes.
pub record IsDone (s : CoreState) (a p c : ℕ) (strand : Strand) (turn : CoreTurn) : Type 0 where
  pub kinds : AreTurnEvents a p c strand turn.events
  pub can : AllCan s turn.events
  pub rest : AtRest (run s turn.events) a
  pub told : all_told turn.events ≡ events_of turn.whats
