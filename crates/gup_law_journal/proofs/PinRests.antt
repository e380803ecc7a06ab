-- What is left of a pin that walks or goes slowly, by where it stands.
use Rattle.std.proofs.Common.{◌≡◌, ℕ, ◌+◌, ◌-◌, ◌<◌, ◌⊎◌, inl, inr, Bool, true, false, IsTrue, List, [], ◌∷◌, refl, subst, zero, suc, arith}
use Rattle.gup_base.specs.declared.entry.Want.{Want}
use Rattle.gup_plain.specs.Note.{NoteValue}
use Rattle.gup_plain.specs.State.{PlainState}
use Rattle.gup_spec_journal.specs.Place.{Doer}
use Rattle.gup_plain.specs.declared.answer.Answer.{Answer}
use Rattle.gup_plain.specs.declared.answer.Answer.TheVariants as answers
use Rattle.gup_plain.specs.declared.answer.Cause.{Cause}
use Rattle.gup_plain.specs.declared.answer.Cause.TheVariants as causes
use Rattle.gup_plain.specs.declared.event.PlainEvent.TheVariants as events
use Rattle.gup_plain.specs.declared.note.What.{What}
use Rattle.gup_plain.specs.declared.note.What.TheVariants.{Silent, Event, Done}
use Rattle.gup_script.specs.declared.op.Op.TheVariants.{Pin}
use Rattle.gup_spec_events.specs.State.{WalkStep, entered, unread}
use Rattle.gup_spec_journal.specs.Follows.{Who, IsTurn, IsRefused, Then, Shape, PinsAll, PinsPages, RefusesPage, RefusesFirst, RefusesFast, Walks, refuses}
use Rattle.gup_spec_turns.specs.JobPlace.{JobPlace, unbegun, moving_page, in_walk}
use Rattle.gup_law_turns.proofs.TurnShapes.{IsAtOnce, IsSlowTurn, WalksTo, found_fork}
use Rattle.gup_law_journal.proofs.WalkNotes.{reads_first, PlaceRest}

-- Of a page that a long pin moves first, the third turn: the page is pinned, and what is left then follows, or it is refused.
abbrev pub PinsThird : Who → (handle page n : ℕ) → Want → (got left : ℕ) → List NoteValue → Type 0
PinsThird who handle page n want got zero notes = ⊥
PinsThird who handle page n want got (suc zero) notes =
    IsTurn who (Event (events.PinTry who.actor who.proc (page + got) want.write) ∷ Event (events.PinOk who.actor handle)
    ∷ Done (answers.Pinned n) ∷ []) notes
PinsThird who handle page n want got (suc (suc left)) notes =
    Then (IsTurn who (Event (events.PinTry who.actor who.proc (page + got) want.write) ∷ []))
    (PinsPages who handle page n want (got + 1) (suc left)) notes

abbrev pub IsLateCause : Cause → Type 0
IsLateCause causes.NoFrame = Unit {0}
IsLateCause (causes.Unmovable count) = Unit {0}
IsLateCause cause = ⊥

abbrev pub IsLateRefusal : Answer → Type 0
IsLateRefusal answers.NoFrame = Unit {0}
IsLateRefusal (answers.Unmovable count) = Unit {0}
IsLateRefusal answer = ⊥

abbrev pub LeftThird : Who → (handle page n : ℕ) → Want → (got : ℕ) → List NoteValue → Type 0
LeftThird who handle page n want got notes =
    PinsThird who handle page n want got (n - got) notes
    ⊎ ((0 < got) × (cause : Cause) × IsLateCause cause
    × IsTurn who (Event (events.PinOk who.actor handle) ∷ Done (answers.Short got n cause) ∷ []) notes)
    ⊎ ((got ≡ 0) × (answer : Answer) × IsLateRefusal answer × IsTurn who (Done answer ∷ []) notes)

-- an answer that refuses a pin behind its walk, if it walks
abbrev pub RefusesSlowly : (handle page n : ℕ) → Want → (fast : Bool) → Answer → Type 0
RefusesSlowly handle page n want fast answer =
    IsTrue (refuses (Pin handle page n want fast) answer) × (fast ≡ true → answer ≡ answers.Unborn → ⊥)

-- Of a pin that has got so many pages, the first of which is this one, what is left of its walk, or of its slow turns: it is
-- done, or refused so.
abbrev pub PinRest : Who → (handle page n : ℕ) → Want → (fast : Bool) → (got first : ℕ) → JobPlace → List NoteValue → Type 0
PinRest who handle page n want fast got first at notes =
    PlaceRest who page n want.write (PinsAll who handle n) (PinsPages who handle page n want) got first at notes
    ⊎ ((answer : Answer) × RefusesSlowly handle page n want fast answer
    × PlaceRest who page n want.write (λ rest. ⊥) (RefusesFirst who want answer) got first at notes)

-- the same of its slow turns
abbrev pub SlowRest : Who → (handle page n : ℕ) → Want → (fast : Bool) → (got : ℕ) → List NoteValue → Type 0
SlowRest who handle page n want fast got notes = PinRest who handle page n want fast got 0 unbegun notes

-- all is left of one that walks and hasn't begun
abbrev pub UnbegunRest : Who → (handle page n : ℕ) → Want → (fast : Bool) → (far got : ℕ) → List NoteValue → Type 0
UnbegunRest who handle page n want false far got notes = SlowRest who handle page n want false got notes
UnbegunRest who handle page n want true zero got notes = Shape who (Pin handle page n want true) notes
UnbegunRest who handle page n want true (suc far) got notes = SlowRest who handle page n want true got notes

-- Of a pin that has got so many pages, those after; of one that has cleared the next, that one's count and third turn; of one
-- that has counted, that turn; of one that walks, the rest of its walk.
abbrev pub RestOfPin : Who → (handle page n : ℕ) → Want → (fast : Bool) → (far got first : ℕ) → JobPlace → List NoteValue → Type 0
RestOfPin who handle page n want fast far got first unbegun notes = UnbegunRest who handle page n want fast far got notes
RestOfPin who handle page n want fast far got first (moving_page g e unread) notes =
    Then (IsTurn who (Silent ∷ [])) (LeftThird who handle page n want got) notes
RestOfPin who handle page n want fast far got first (moving_page g e count) notes = LeftThird who handle page n want got notes
RestOfPin who handle page n want fast far got first (in_walk sequence step) notes =
    PinRest who handle page n want fast got first (in_walk sequence step) notes
RestOfPin who handle page n want fast far got first at notes = ⊥

module _ (who : Who) (handle page n : ℕ) (want : Want) where
  -- a pin goes slowly from its first turn on, or behind its walk
  pub slow_left : (fast : Bool) (far got : ℕ) (notes : List NoteValue) → IsSlowTurn fast far → UnbegunRest who handle page n want fast far got notes → SlowRest who handle page n want fast got notes
  slow_left false far got notes slow rest = rest
  slow_left true zero got notes slow rest = absurd (omega (arith, slow))
  slow_left true (suc far) got notes slow rest = rest

  pub left_slow : (fast : Bool) (far got : ℕ) (notes : List NoteValue) → IsSlowTurn fast far → SlowRest who handle page n want fast got notes → UnbegunRest who handle page n want fast far got notes
  left_slow false far got notes slow rest = rest
  left_slow true zero got notes slow rest = absurd (omega (arith, slow))
  left_slow true (suc far) got notes slow rest = rest

  -- a turn that isn't the first is slow
  pub later_slow : (fast : Bool) (far : ℕ) → IsSlowTurn fast (far + 1)
  later_slow true far = omega arith
  later_slow false far = tt

  -- a page that is refused at once is so in one turn
  pub page_refused : (fast : Bool) (answer : Answer) (whats : List What) (notes : List NoteValue) → IsTrue (refuses (Pin handle page n want fast) answer) → IsAtOnce (Pin handle page n want fast) answer → IsTurn who whats notes → RefusesPage who want answer whats notes
  page_refused fast (answers.Unmovable count) whats notes refusal at turn = absurd at
  page_refused fast answers.NoFrame whats notes refusal at turn = inl turn
  page_refused fast answer whats notes refusal at turn = turn

  -- a pin that walks is refused behind its walk
  fast_refused : (answer : Answer) (notes : List NoteValue) → (answer ≡ answers.Unborn → ⊥) → Walks who page n want.write (λ rest. ⊥) (RefusesFirst who want answer) notes → RefusesFast who page n want answer notes
  fast_refused answers.Unborn notes living walks = absurd (living refl)
  fast_refused answer notes living walks = walks

  -- the turn that begins the walk is before all
  pub walk_shape : (got first : ℕ) (notes : List NoteValue) → got ≡ 0 → Then (IsTurn who (Silent ∷ [])) (PinRest who handle page n want true got first (in_walk 0 entered)) notes → Shape who (Pin handle page n want true) notes
  walk_shape got first notes none (front, rest, is, before, begins, inl walks) =
      inl (front, rest, is, before, begins, reads_first who page n want.write (PinsAll who handle n) (PinsPages who handle page n want) got first rest none walks)
  walk_shape got first notes none (front, rest, is, before, begins, inr (answer, refusal, walks)) =
      inr (answer, refusal.0, fast_refused answer notes (refusal.1 refl) (front, rest, is, before, begins, reads_first who page n want.write (λ rest. ⊥) (RefusesFirst who want answer) got first rest none walks))

  -- a pin of which no turn is over
  pub slow_shape : (notes : List NoteValue) → SlowRest who handle page n want false 0 notes → Shape who (Pin handle page n want false) notes
  slow_shape notes (inl pins) =
      let many : n - 0 ≡ n = omega arith in
      inl (subst (λ (k : ℕ). PinsPages who handle page n want 0 k notes) many pins)
  slow_shape notes (inr (answer, refusal, page_is)) = inr (answer, refusal.0, page_is.1)

  pub unbegun_shape : (fast : Bool) (notes : List NoteValue) → UnbegunRest who handle page n want fast 0 0 notes → Shape who (Pin handle page n want fast) notes
  unbegun_shape true notes rest = rest
  unbegun_shape false notes rest = slow_shape notes rest

  -- a pin that is refused at its first turn
  pub first_refused : (fast : Bool) (far got : ℕ) (notes : List NoteValue) → far ≡ 0 → got ≡ 0 → IsRefused who (Pin handle page n want fast) notes → UnbegunRest who handle page n want fast far got notes
  first_refused false far got notes first none refusal = inr (refusal.0, (refusal.1, λ slow. absurd (cc slow)), (none, refusal.2))
  first_refused true zero got notes first none refusal = inr refusal
  first_refused true (suc far) got notes first none refusal = absurd (omega (arith, first))

  pub shape_left : (far got : ℕ) (notes : List NoteValue) → far ≡ 0 → Shape who (Pin handle page n want true) notes → UnbegunRest who handle page n want true far got notes
  shape_left zero got notes first shape = shape
  shape_left (suc far) got notes first shape = absurd (omega (arith, first))

  -- one that has pages has begun
  pub begun_slow : (fast : Bool) (far got : ℕ) → (far ≡ 0 → got ≡ 0) → 0 < got → IsSlowTurn fast far
  begun_slow false far got fresh some = tt
  begun_slow true zero got fresh some = absurd (let none = fresh refl in omega (arith, none, some))
  begun_slow true (suc far) got fresh some = omega arith

  -- the refusal of a pin that doesn't walk, and that of one of a failed process
  pub slow_refused : (fast : Bool) (answer : Answer) (notes : List NoteValue) → fast ≡ false → IsTrue (refuses (Pin handle page n want fast) answer) → IsAtOnce (Pin handle page n want fast) answer → IsTurn who (Done answer ∷ []) notes → IsRefused who (Pin handle page n want fast) notes
  slow_refused false answer notes slow refusal at turn = (answer, refusal, page_refused false answer (Done answer ∷ []) notes refusal at turn)
  slow_refused true answer notes slow refusal at turn = absurd (cc slow)

  pub unborn_refused : (fast : Bool) (notes : List NoteValue) → IsTurn who (Done answers.Unborn ∷ []) notes → IsRefused who (Pin handle page n want fast) notes
  unborn_refused false notes turn = (answers.Unborn, refl, turn)
  unborn_refused true notes turn = (answers.Unborn, refl, turn)

  -- where the walk of a pin stands, or where it is over
  abbrev pub IsWalkPlace : JobPlace → Type 0
  IsWalkPlace unbegun = Unit {0}
  IsWalkPlace (in_walk sequence step) = Unit {0}
  IsWalkPlace at = ⊥

  pub walk_left : (far got first : ℕ) (to : JobPlace) (notes : List NoteValue) → IsWalkPlace to → RestOfPin who handle page n want true (far + 1) got first to notes → PinRest who handle page n want true got first to notes
  walk_left far got first unbegun notes walks rest = slow_left true (far + 1) got notes (later_slow true far) rest
  walk_left far got first (in_walk sequence step) notes walks rest = rest
  walk_left far got first at notes walks rest = absurd walks

  pub walk_place : {s : PlainState} {d : Doer} {got : ℕ} {write : Bool} {sequence : ℕ} {step : WalkStep} {whats : List What} {to : JobPlace} → WalksTo s d page n got write sequence step whats to → IsWalkPlace to
  walk_place found_fork = tt
  walk_place turn = tt
