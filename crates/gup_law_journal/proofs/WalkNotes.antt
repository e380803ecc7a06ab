-- What the notes of a pin's walk still are, by the step at which it stands: backwards over its turns.
use Rattle.std.proofs.Common.{◌≡◌, ℕ, ◌+◌, ◌-◌, ◌<◌, ◌++◌, ◌⊎◌, inl, inr, Bool, length, length-append, List, [], ◌∷◌, refl, sym, ap, ◌∙◌, subst, suc, arith}
use Rattle.gup_plain.specs.Event.{happened}
use Rattle.gup_plain.specs.Note.{NoteValue}
use Rattle.gup_plain.specs.State.{PlainState, Pending}
use Rattle.gup_plain.specs.declared.event.PlainEvent.TheVariants as events
use Rattle.gup_plain.specs.declared.note.What.{What}
use Rattle.gup_plain.specs.declared.note.What.TheVariants.{Silent, Event}
use Rattle.gup_spec_events.specs.State.{WalkStep, entered, ready, reading, read, grabbed, rechecked, differed, refused, stopped, dropping, over}
use Rattle.gup_spec_journal.specs.Follows.{Who, IsTurn, AreBehind, Then, Turns, at_entry, at_frame, at_entry_again, at_mark, drops_pages, DropsAll, StopsWalk, WalksOn, notes_of_turn}
use Rattle.gup_spec_journal.specs.Order.{plain_behind}
use Rattle.gup_spec_journal.specs.Place.{Place, Doer, place_behind}
use Rattle.gup_spec_journal.specs.Plain.{pages_got}
use Rattle.gup_spec_turns.specs.JobPlace.{JobPlace, unbegun, in_walk}
use Rattle.gup_law_turns.proofs.Puts.{put_same}
use Rattle.gup_law_turns.proofs.TurnShapes.{WalksTo, found_fork, found_sequence, found_entry, found_wrong, grabbed_frame, found_free, took_page, found_other, found_mark, found_unmarked, dropped_frame, dropped_page, found_same, found_changed, lost_all, dropped_first, dropped_last}
use Rattle.gup_law_journal.proofs.ActorNotes.{turn_before}
use Rattle.gup_law_journal.proofs.PendingPages.{first_pending, starts_at, drops_last, drops_first}

-- a page more is pending
pub one_pending : (s : PlainState) (a p g : ℕ) (write : Bool) → pages_got (happened s (events.PinTry a p g write)) a ≡ pages_got s a + 1
one_pending s a p g write =
    let new : Pending = record { page = g; object = s.object p g; write = write } in
    ap (λ (xs : List Pending). length xs) (put_same a (s.pending a ++ new ∷ []) s.pending) ∙ length-append (s.pending a) (new ∷ [])

-- each of its turns is one more
pub walk_behind : {s : PlainState} {d : Doer} {page n got : ℕ} {write : Bool} {sequence : ℕ} {step : WalkStep} {whats : List What} {to : JobPlace} (place : Place) → WalksTo s d page n got write sequence step whats to → ((place_behind place whats).answered ≡ place.answered) × ((place_behind place whats).far ≡ place.far + 1)
walk_behind place found_fork = (refl, refl)
walk_behind place turn = (refl, refl)

-- The walk of a pin of n pages, behind which all are kept, or the slow turns follow.
module _ (who : Who) (page n : ℕ) (write : Bool) (All : List NoteValue → Type 0) (Slowly : (got left : ℕ) → List NoteValue → Type 0) where
  -- it goes on with so many pages kept; it stops before the last, and reads the sequence again
  abbrev pub GoesOn : (kept : ℕ) → List NoteValue → Type 0
  GoesOn kept notes = WalksOn who page n write All Slowly kept (n - kept) notes

  abbrev pub Stops : (kept : ℕ) → List NoteValue → Type 0
  Stops kept notes = StopsWalk who page n Slowly kept (suc (n - (kept + 1))) notes

  -- a silent turn, and then the rest
  abbrev pub Silently : (Rest : List NoteValue → Type 0) → List NoteValue → Type 0
  Silently Rest notes = Then (IsTurn who (Silent ∷ [])) Rest notes

  -- of the page after those kept: it has found no mark, and drops the page; it looks at the mark; it reads the entry again; it
  -- grabs the frame
  abbrev pub Drops : (kept : ℕ) → List NoteValue → Type 0
  Drops kept notes = Then (IsTurn who (Event (events.PinDrop who.actor (page + kept)) ∷ [])) (Stops kept) notes

  abbrev pub LooksAtMark : (kept : ℕ) → List NoteValue → Type 0
  LooksAtMark kept notes = Silently (λ rest. GoesOn (kept + 1) rest ⊎ Drops kept rest) notes

  abbrev pub ReadsAgain : (kept : ℕ) → List NoteValue → Type 0
  ReadsAgain kept notes =
      Then (IsTurn who (Event (events.PinTry who.actor who.proc (page + kept) write) ∷ [])) (LooksAtMark kept) notes
      ⊎ Silently (Silently (Stops kept)) notes

  abbrev pub Grabs : (kept : ℕ) → List NoteValue → Type 0
  Grabs kept notes = Silently (λ rest. ReadsAgain kept rest ⊎ Stops kept rest) notes

  -- the pages are dropped from the first one on, so many
  abbrev pub DropsFrom : (first got : ℕ) → List NoteValue → Type 0
  DropsFrom first got notes = Turns who (drops_pages who.actor first got) (Slowly 0 n) notes

  -- what is left of a walk that has got so many pages, the first of which is this one
  abbrev pub WalkRest : (got first : ℕ) → WalkStep → List NoteValue → Type 0
  WalkRest got first entered notes = Silently (λ rest. Slowly got (n - got) rest ⊎ GoesOn got rest) notes
  WalkRest got first ready notes = GoesOn got notes
  WalkRest got first (reading g path) notes = ⊥
  WalkRest got first (read g path e) notes = Grabs got notes
  WalkRest got first (grabbed g path e) notes = ReadsAgain got notes
  WalkRest got first (rechecked g e) notes = LooksAtMark (got - 1) notes
  WalkRest got first (differed f) notes = Silently (Stops got) notes
  WalkRest got first refused notes = Drops (got - 1) notes
  WalkRest got first stopped notes = Stops got notes
  WalkRest got first dropping notes = DropsFrom first got notes
  WalkRest got first over notes = ⊥

  -- and where its walk is over
  abbrev pub PlaceRest : (got first : ℕ) → JobPlace → List NoteValue → Type 0
  PlaceRest got first unbegun notes = Slowly got (n - got) notes
  PlaceRest got first (in_walk sequence step) notes = WalkRest got first step notes
  PlaceRest got first at notes = ⊥

  -- the second turn of a walk, which has got none as yet
  pub reads_first : (got first : ℕ) (notes : List NoteValue) → got ≡ 0 → WalkRest got first entered notes → Silently (λ rest. Slowly 0 n rest ⊎ WalksOn who page n write All Slowly 0 n rest) notes
  reads_first got first notes none rest =
      let all : n - 0 ≡ n = omega arith in
      subst (λ (k : ℕ). Silently (λ rest. Slowly 0 k rest ⊎ WalksOn who page n write All Slowly 0 k rest) notes) all
      (subst (λ (k : ℕ). WalkRest k first entered notes) none rest)

  -- the turns of one page, to where it is kept or the walk stops at it
  page_walks : (kept : ℕ) (notes : List NoteValue) → Silently (λ rest. Grabs kept rest ⊎ Stops kept rest) notes → WalksOn who page n write All Slowly kept (suc (n - (kept + 1))) notes
  page_walks kept notes (front, rest, is, before, reads, inr stops) = inr (at_entry, (front, rest, is, before, reads, stops))
  page_walks kept notes (front, rest, is, before, reads, inl (front₁, rest₁, is₁, before₁, grabs, inr stops)) = inr (at_frame, (front, rest, is, before, reads, (front₁, rest₁, is₁, before₁, grabs, stops)))
  page_walks kept notes (front, rest, is, before, reads, inl (front₁, rest₁, is₁, before₁, grabs, inl (inr (front₂, rest₂, is₂, before₂, other, drops)))) =
      inr (at_entry_again, (front, rest, is, before, reads, (front₁, rest₁, is₁, before₁, grabs, (front₂, rest₂, is₂, before₂, other, drops))))
  page_walks kept notes (front, rest, is, before, reads, inl (front₁, rest₁, is₁, before₁, grabs, inl (inl (front₂, rest₂, is₂, before₂, takes, (front₃, rest₃, is₃, before₃, mark, inl on))))) =
      inl (front, rest, is, before, reads, (front₁, rest₁, is₁, before₁, grabs, (front₂, rest₂, is₂, before₂, takes, (front₃, rest₃, is₃, before₃, mark, on))))
  page_walks kept notes (front, rest, is, before, reads, inl (front₁, rest₁, is₁, before₁, grabs, inl (inl (front₂, rest₂, is₂, before₂, takes, (front₃, rest₃, is₃, before₃, mark, inr drops))))) =
      inr (at_mark, (front, rest, is, before, reads, (front₁, rest₁, is₁, before₁, grabs, (front₂, rest₂, is₂, before₂, takes, (front₃, rest₃, is₃, before₃, mark, drops)))))

  pub goes_on : (kept : ℕ) (notes : List NoteValue) → kept < n → Silently (λ rest. Grabs kept rest ⊎ Stops kept rest) notes → GoesOn kept notes
  goes_on kept notes less turns =
      let left : suc (n - (kept + 1)) ≡ n - kept = omega (arith, less) in
      subst (λ (k : ℕ). WalksOn who page n write All Slowly kept k notes) left (page_walks kept notes turns)

  -- all pages are kept, or all are dropped
  pub kept_all : (got : ℕ) (notes : List NoteValue) → got ≡ n → All notes ⊎ DropsAll who page n got Slowly notes → GoesOn got notes
  kept_all got notes all rest =
      let none : 0 ≡ n - got = omega (arith, all) in
      subst (λ (k : ℕ). WalksOn who page n write All Slowly got k notes) none rest

-- From after turn t of a walk to before it.
module _ (d : Doer) (number t page n : ℕ) (write : Bool) (All : List NoteValue → Type 0) (Slowly : (got left : ℕ) → List NoteValue → Type 0) where
  abbrev who : Who
  who = record { actor = d.actor; proc = d.proc; number = number }

  abbrev now : List What → List NoteValue
  now whats = notes_of_turn t d.actor number whats

  -- the turn in front of what is left
  in_front : (whats said : List What) (Rest : List NoteValue → Type 0) (front : List NoteValue) → now whats ≡ now said → AreBehind t front → Rest front → Then (IsTurn who said) Rest (now whats ++ front)
  in_front whats said Rest front same after rest = (now whats, front, refl, turn_before t d.actor number whats front after, (t, same), rest)

  -- one page more is dropped in front
  drops_more : (g first got left : ℕ) (front : List NoteValue) → first ≡ g → suc left ≡ got → AreBehind t front → DropsFrom who page n write All Slowly (g + 1) left front → DropsFrom who page n write All Slowly first got (now (Event (events.PinDrop d.actor g) ∷ []) ++ front)
  drops_more g first got left front starts many after rest =
      let whats : List What = Event (events.PinDrop d.actor g) ∷ [] in
      let whole : DropsFrom who page n write All Slowly g (suc left) (now whats ++ front) = in_front whats whats (DropsFrom who page n write All Slowly (g + 1) left) front refl after rest in
      subst (λ (k : ℕ). DropsFrom who page n write All Slowly first k (now whats ++ front)) many
      (subst (λ (k : ℕ). DropsFrom who page n write All Slowly k (suc left) (now whats ++ front)) (sym starts) whole)

  pub walk_before : {s : PlainState} {sequence : ℕ} {step : WalkStep} {whats : List What} {to : JobPlace} → WalksTo s d page n (pages_got s d.actor) write sequence step whats to → (front : List NoteValue) → AreBehind t front → PlaceRest who page n write All Slowly (pages_got (plain_behind s whats) d.actor) (first_pending (plain_behind s whats) d.actor) to front → WalkRest who page n write All Slowly (pages_got s d.actor) (first_pending s d.actor) step (now whats ++ front)
  walk_before {s = s} found_fork front after rest =
      let got : ℕ = pages_got s d.actor in
      in_front (Silent ∷ []) (Silent ∷ []) (λ (ns : List NoteValue). Slowly got (n - got) ns ⊎ GoesOn who page n write All Slowly got ns) front refl after (inl rest)
  walk_before {s = s} (found_sequence again) front after rest =
      let got : ℕ = pages_got s d.actor in
      in_front (Silent ∷ []) (Silent ∷ []) (λ (ns : List NoteValue). Slowly got (n - got) ns ⊎ GoesOn who page n write All Slowly got ns) front refl after (inr rest)
  walk_before {s = s} (found_entry g path e less) front after rest =
      let got : ℕ = pages_got s d.actor in
      goes_on who page n write All Slowly got (now (Silent ∷ []) ++ front) less
      (in_front (Silent ∷ []) (Silent ∷ []) (λ (ns : List NoteValue). Grabs who page n write All Slowly got ns ⊎ Stops who page n write All Slowly got ns) front refl after (inl rest))
  walk_before {s = s} (found_wrong less) front after rest =
      let got : ℕ = pages_got s d.actor in
      goes_on who page n write All Slowly got (now (Silent ∷ []) ++ front) less
      (in_front (Silent ∷ []) (Silent ∷ []) (λ (ns : List NoteValue). Grabs who page n write All Slowly got ns ⊎ Stops who page n write All Slowly got ns) front refl after (inr rest))
  walk_before {s = s} (grabbed_frame g path e less) front after rest =
      let got : ℕ = pages_got s d.actor in
      in_front (Silent ∷ []) (Silent ∷ []) (λ (ns : List NoteValue). ReadsAgain who page n write All Slowly got ns ⊎ Stops who page n write All Slowly got ns) front refl after (inl rest)
  walk_before {s = s} (found_free g path e less) front after rest =
      let got : ℕ = pages_got s d.actor in
      in_front (Silent ∷ []) (Silent ∷ []) (λ (ns : List NoteValue). ReadsAgain who page n write All Slowly got ns ⊎ Stops who page n write All Slowly got ns) front refl after (inr rest)
  walk_before {s = s} (took_page g path e less) front after rest =
      let got : ℕ = pages_got s d.actor in
      let whats : List What = Event (events.PinTry d.actor d.proc (page + got) write) ∷ [] in
      let grown = one_pending s d.actor d.proc (page + got) write in
      let kept : pages_got (plain_behind s whats) d.actor - 1 ≡ got = omega (arith, grown) in
      inl (in_front whats whats (LooksAtMark who page n write All Slowly got) front refl after (subst (λ (k : ℕ). LooksAtMark who page n write All Slowly k front) kept rest))
  walk_before {s = s} (found_other g path e less) front after rest =
      let got : ℕ = pages_got s d.actor in
      inr (in_front (Silent ∷ []) (Silent ∷ []) (Silently who page n write All Slowly (Stops who page n write All Slowly got)) front refl after rest)
  walk_before {s = s} (found_mark g e some) front after rest =
      let got : ℕ = pages_got s d.actor in
      let kept : got ≡ got - 1 + 1 = omega (arith, some) in
      in_front (Silent ∷ []) (Silent ∷ []) (λ (ns : List NoteValue). GoesOn who page n write All Slowly (got - 1 + 1) ns ⊎ Drops who page n write All Slowly (got - 1) ns) front refl after
      (inl (subst (λ (k : ℕ). GoesOn who page n write All Slowly k front) kept rest))
  walk_before {s = s} (found_unmarked g e some) front after rest =
      let got : ℕ = pages_got s d.actor in
      in_front (Silent ∷ []) (Silent ∷ []) (λ (ns : List NoteValue). GoesOn who page n write All Slowly (got - 1 + 1) ns ⊎ Drops who page n write All Slowly (got - 1) ns) front refl after (inr rest)
  walk_before {s = s} (dropped_frame f less) front after rest =
      let got : ℕ = pages_got s d.actor in
      in_front (Silent ∷ []) (Silent ∷ []) (Stops who page n write All Slowly got) front refl after rest
  walk_before {s = s} (dropped_page g is some least are) front after rest =
      let got : ℕ = pages_got s d.actor in
      let whats : List What = Event (events.PinDrop d.actor g) ∷ [] in
      let fewer = drops_last s d.actor g page some is are in
      let kept : pages_got (plain_behind s whats) d.actor ≡ got - 1 = omega (arith, fewer) in
      let here : g ≡ page + (got - 1) = omega (arith, is, some) in
      in_front whats (Event (events.PinDrop d.actor (page + (got - 1))) ∷ []) (Stops who page n write All Slowly (got - 1)) front (ap (λ (k : ℕ). now (Event (events.PinDrop d.actor k) ∷ [])) here) after
      (subst (λ (k : ℕ). Stops who page n write All Slowly k front) kept rest)
  walk_before {s = s} (found_same less) front after rest =
      let got : ℕ = pages_got s d.actor in
      let left : n - got ≡ suc (n - (got + 1)) = omega (arith, less) in
      inl (in_front (Silent ∷ []) (Silent ∷ []) (Slowly got (suc (n - (got + 1)))) front refl after (subst (λ (k : ℕ). Slowly got k front) left rest))
  walk_before {s = s} (found_changed less some are) front after rest =
      let got : ℕ = pages_got s d.actor in
      inr (in_front (Silent ∷ []) (Silent ∷ []) (DropsFrom who page n write All Slowly page got) front refl after
      (subst (λ (k : ℕ). DropsFrom who page n write All Slowly k got front) (starts_at page (s.pending d.actor) some are) rest))
  walk_before {s = s} (lost_all all some are) front after rest =
      let got : ℕ = pages_got s d.actor in
      kept_all who page n write All Slowly got (now (Silent ∷ []) ++ front) all (inr (in_front (Silent ∷ []) (Silent ∷ []) (DropsFrom who page n write All Slowly page got) front refl after
      (subst (λ (k : ℕ). DropsFrom who page n write All Slowly k got front) (starts_at page (s.pending d.actor) some are) rest)))
  walk_before {s = s} (dropped_first g more are) front after rest =
      let got : ℕ = pages_got s d.actor in
      let some : 0 < got = omega (arith, more) in
      let fewer = drops_first s d.actor g some are in
      let left : ℕ = pages_got (happened s (events.PinDrop d.actor g)) d.actor in
      drops_more g (first_pending s d.actor) got left front (starts_at g (s.pending d.actor) some are) (let one = fewer.0 in omega (arith, one)) after
      (subst (λ (k : ℕ). DropsFrom who page n write All Slowly k left front) (fewer.1 more) rest)
  walk_before {s = s} (dropped_last g one are) front after rest =
      let got : ℕ = pages_got s d.actor in
      let some : 0 < got = omega (arith, one) in
      let fewer = (drops_first s d.actor g some are).0 in
      let none : pages_got (happened s (events.PinDrop d.actor g)) d.actor ≡ 0 = omega (arith, fewer, one) in
      let all : n - 0 ≡ n = omega arith in
      let slow : Slowly 0 (n - 0) front = subst (λ (k : ℕ). Slowly k (n - k) front) none rest in
      drops_more g (first_pending s d.actor) got 0 front (starts_at g (s.pending d.actor) some are) (sym one) after (subst (λ (k : ℕ). Slowly 0 k front) all slow)
