-- Notes of a pin that say what finishes it.
use Rattle.std.proofs.Common.{◌≡◌, ℕ, ◌+◌, ◌-◌, ◌<◌, ◌⊎◌, inl, inr, Bool, true, false, List, [], ◌∷◌, ◌++◌, zero, suc, refl, sym, ◌∙◌, ap, subst, arith, eq-eqb}
use Rattle.gup_base.specs.declared.entry.Want.{Want}
use Rattle.gup_plain.specs.Note.{NoteValue}
use Rattle.gup_plain.specs.declared.answer.Answer.{Answer}
use Rattle.gup_plain.specs.declared.answer.Answer.TheVariants as answers
use Rattle.gup_plain.specs.declared.answer.Cause.{Cause}
use Rattle.gup_plain.specs.declared.answer.Cause.TheVariants as causes
use Rattle.gup_plain.specs.declared.event.PlainEvent.TheVariants as events
use Rattle.gup_plain.specs.declared.note.What.{What}
use Rattle.gup_plain.specs.declared.note.What.TheVariants.{Silent, Event, Done}
use Rattle.gup_script.specs.declared.op.Op.{Op}
use Rattle.gup_script.specs.declared.op.Op.TheVariants.{Pin}
use Rattle.gup_spec_journal.specs.Follows.{Who, IsTurn, Then, Turns, IsThirdTurn, refuses, TriesIn, RefusesPage, takes_page, at_entry, at_mark, stops_at, drops_pages, DropsAll, StopsWalk, WalksOn, Walks, RefusesFirst, RefusesFast, RefusesPin, EndsPin, EndsShort, PinsPages, PinsAll, Shape}
use Rattle.gup_spec_journal.specs.Plain.{refusal_by_cause}
use Rattle.gup_check_course.specs.declared.course.Course.{Course}
use Rattle.gup_check_course.specs.declared.course.Course.TheVariants.{Walking, Stopped, Dropping, Slow, Short, Closing}
use Rattle.gup_check_course.specs.Arcs.{made, dropped, stopped, refuses_at, refuses_later, tries, makes, drops, walks, goes_slowly, ends_pin, ends_short, answer_in, cause_in}
use Rattle.gup_check_course.proofs.Finish.{Finishes}
use Rattle.gup_check_course.proofs.Speaking.{spoken}
use Rattle.gup_check_course.proofs.Writing.{Written, written_as, written_turn, written_then, written_on, written_silent, written_third}
use Rattle.gup_check_course.proofs.Through.{Through, through, closing_said}
use Rattle.gup_check_course.proofs.Reaching.{lt_true, unequal, last_dropped, more_dropped, gap_between}

-- One page.

tried_written : (who : Who) (want : Want) (whats : List What) → Written who (TriesIn who want whats) (spoken whats)
tried_written who want whats = written_as who (IsTurn who whats) (TriesIn who want whats) (spoken whats) (λ notes is. inl is) (written_turn who whats)

-- a page that may be refused so
page_refused : (who : Who) (handle page n : ℕ) (want : Want) (fast : Bool) (answer : Answer) (whats : List What) → refuses (Pin handle page n want fast) answer ≡ true → Written who (RefusesPage who want answer whats) (spoken whats)
page_refused who handle page n want fast (answers.Unmovable count) whats may =
    written_as who (IsThirdTurn who whats) (RefusesPage who want (answers.Unmovable count) whats) (spoken whats) (λ notes is. (may, is)) (written_third who whats)
page_refused who handle page n want fast answers.NoFrame whats may = tried_written who want whats
page_refused who handle page n want fast answer whats may = written_turn who whats

ends_pin_by : (want : Want) (cause : Cause) → ends_pin want cause ≡ true → EndsPin want cause
ends_pin_by want (causes.Unmovable count) may = may
ends_pin_by want causes.Missing may = tt
ends_pin_by want causes.Forbidden may = tt
ends_pin_by want causes.NoFrame may = tt

cause_written : (who : Who) (want : Want) (cause : Cause) (whats : List What) → ends_pin want cause ≡ true → Written who (RefusesPage who want (refusal_by_cause cause) whats) (spoken whats)
cause_written who want (causes.Unmovable count) whats may =
    written_as who (IsThirdTurn who whats) (RefusesPage who want (answers.Unmovable count) whats) (spoken whats) (λ notes is. (may, is)) (written_third who whats)
cause_written who want causes.NoFrame whats may = tried_written who want whats
cause_written who want causes.Missing whats may = written_turn who whats
cause_written who want causes.Forbidden whats may = written_turn who whats

all_made : (k n : ℕ) → k ≡ n → made k n ≡ Closing (answers.Pinned n)
all_made k n is = rw (eq-eqb k n is) refl

few_made : (k n : ℕ) → k < n → made k n ≡ Short k
few_made k n less = rw (unequal k n less) refl

-- the events of a pin

abbrev tried : Who → (page : ℕ) → Want → (k : ℕ) → What
tried who page want k = Event (events.PinTry who.actor who.proc (page + k) want.write)

abbrev handled : Who → (handle : ℕ) → What
handled who handle = Event (events.PinOk who.actor handle)

abbrev let_go : Who → (page k : ℕ) → What
let_go who page k = Event (events.PinDrop who.actor (page + k))

-- what a short pin says at its end
abbrev ShortSaid : (n : ℕ) → Want → (k : ℕ) → List What → Type 0
ShortSaid n want k whats = (cause : Cause) × (ends_pin want cause ≡ true) × (whats ≡ Done (answers.Short k n cause) ∷ [])

short_said : (who : Who) (handle page n : ℕ) (want : Want) (fast : Bool) (k : ℕ) (whats : List What) → Finishes who (Pin handle page n want fast) (Short k) whats → ShortSaid n want k whats
short_said who handle page n want fast k [] ends = absurd ends
short_said who handle page n want fast k (what ∷ whats) ends = by_first (through who (Pin handle page n want fast) (Short k) what whats ends)
  where
    by_first : Through who (Pin handle page n want fast) what whats (ends_short n want k what) → ShortSaid n want k (what ∷ whats)
    by_first (inl is) = (cause_in what, is.0, let whole : what ∷ whats ≡ Done (answers.Short k n (cause_in what)) ∷ [] = cc (is.1, is.2) in whole)
    by_first (inr is) = absurd is

-- the handle of fewer pages
short_written : (who : Who) (handle page n : ℕ) (want : Want) (fast : Bool) (k : ℕ) (whats : List What) → 0 < k → k < n → Finishes who (Pin handle page n want fast) (made k n) whats → Written who (EndsShort who handle n want k) (handled who handle ∷ whats)
short_written who handle page n want fast k whats some less ends =
    let said : ShortSaid n want k whats =
    short_said who handle page n want fast k whats (subst (λ (c : Course). Finishes who (Pin handle page n want fast) c whats) (few_made k n less) ends) in
    let cause : Cause = said.0 in
    let turn : List What = handled who handle ∷ Done (answers.Short k n cause) ∷ [] in
    subst (λ (l : List What). Written who (EndsShort who handle n want k) (handled who handle ∷ l)) (sym said.2)
    (written_as who (RefusesPage who want (refusal_by_cause cause) turn) (EndsShort who handle n want k) turn
    (λ notes is. (some, cause, ends_pin_by want cause said.1, is)) (cause_written who want cause turn said.1))

-- among the pages that are left
short_among : (who : Who) (handle page n : ℕ) (want : Want) (got left : ℕ) (notes : List NoteValue) → EndsShort who handle n want got notes → PinsPages who handle page n want got (suc left) notes
short_among who handle page n want got zero notes is = inr is
short_among who handle page n want got (suc left) notes is = inr is

-- Slow turns.

later_refused : (op : Op) (k : ℕ) (answer : Answer) → 0 < k → refuses_at op k answer ≡ true → ⊥
later_refused op zero answer some is = absurd (omega arith)
later_refused op (suc k) answer some is = cc is

-- behind a page that is tried: the handle of all, a further page, or the handle of fewer
abbrev SlowlySays : Who → (handle page n : ℕ) → Want → (fast : Bool) → (k : ℕ) → What → List What → Type 0
SlowlySays who handle page n want fast k what whats =
    ((k < n) × (what ≡ tried who page want k) × Finishes who (Pin handle page n want fast) (Slow (k + 1)) whats)
    ⊎ ((what ≡ handled who handle) × Finishes who (Pin handle page n want fast) (made k n) whats)

slowly_says : (who : Who) (handle page n : ℕ) (want : Want) (fast : Bool) (k : ℕ) (what : What) (whats : List What) → 0 < k → Through who (Pin handle page n want fast) what whats (goes_slowly who (Pin handle page n want fast) handle page n want k what) → SlowlySays who handle page n want fast k what whats
slowly_says who handle page n want fast k what whats some (inl is) = inl (lt_true k n is.0, is.1, is.2)
slowly_says who handle page n want fast k what whats some (inr (inl is)) = inr (is.1, is.2)
slowly_says who handle page n want fast k what whats some (inr (inr (inl is))) = absurd (later_refused (Pin handle page n want fast) k (answer_in what) some is.0)
slowly_says who handle page n want fast k what whats some (inr (inr (inr is))) = absurd is

-- the page after k is tried, and what comes behind it
slow_written : (who : Who) (handle page n : ℕ) (want : Want) (fast : Bool) (left k : ℕ) (whats : List What) → k + suc left ≡ n → Finishes who (Pin handle page n want fast) (Slow (k + 1)) whats → Written who (PinsPages who handle page n want k (suc left)) (tried who page want k ∷ whats)
slow_written who handle page n want fast left k [] all ends = absurd ends
slow_written who handle page n want fast zero k (what ∷ whats) all ends =
    by_first (slowly_says who handle page n want fast (k + 1) what whats (omega arith) (through who (Pin handle page n want fast) (Slow (k + 1)) what whats ends))
  where
    by_first : SlowlySays who handle page n want fast (k + 1) what whats → Written who (PinsPages who handle page n want k 1) (tried who page want k ∷ what ∷ whats)
    by_first (inl is) = (let more : k + 1 < n = is.0 in absurd (omega arith))
    by_first (inr is) =
        let last : whats ≡ Done (answers.Pinned n) ∷ [] =
        closing_said who (Pin handle page n want fast) (answers.Pinned n) whats
        (subst (λ (c : Course). Finishes who (Pin handle page n want fast) c whats) (all_made (k + 1) n (omega arith)) is.1) in
        let turn : List What = tried who page want k ∷ handled who handle ∷ Done (answers.Pinned n) ∷ [] in
        subst (Written who (PinsPages who handle page n want k 1)) (let whole : turn ≡ tried who page want k ∷ what ∷ whats = cc (is.0, last) in whole)
        (written_as who (TriesIn who want turn) (PinsPages who handle page n want k 1) turn (λ notes these. inl these) (tried_written who want turn))
slow_written who handle page n want fast (suc left) k (what ∷ whats) all ends =
    by_first (slowly_says who handle page n want fast (k + 1) what whats (omega arith) (through who (Pin handle page n want fast) (Slow (k + 1)) what whats ends))
    (λ later. slow_written who handle page n want fast left (k + 1) whats (omega arith) later)
  where
    First : List NoteValue → Type 0
    First = TriesIn who want (tried who page want k ∷ [])

    Rest : List NoteValue → Type 0
    Rest = PinsPages who handle page n want (k + 1) (suc left)

    behind : (more : List What) → Written who Rest more → Written who (PinsPages who handle page n want k (suc (suc left))) (tried who page want k ∷ more)
    behind more written =
        written_as who (Then First Rest) (PinsPages who handle page n want k (suc (suc left))) (tried who page want k ∷ more) (λ notes is. inl is)
        (written_then who First Rest (tried who page want k ∷ []) more (tried_written who want (tried who page want k ∷ [])) written)

    by_first : SlowlySays who handle page n want fast (k + 1) what whats → (Finishes who (Pin handle page n want fast) (Slow (k + 1 + 1)) whats → Written who Rest (tried who page want (k + 1) ∷ whats)) → Written who (PinsPages who handle page n want k (suc (suc left))) (tried who page want k ∷ what ∷ whats)
    by_first (inl is) further = behind (what ∷ whats) (subst (λ (w : What). Written who Rest (w ∷ whats)) (sym is.1) (further is.2))
    by_first (inr is) further =
        behind (what ∷ whats)
        (subst (λ (w : What). Written who Rest (w ∷ whats)) (sym is.0)
        (written_as who (EndsShort who handle n want (k + 1)) Rest (handled who handle ∷ whats) (short_among who handle page n want (k + 1) left)
        (short_written who handle page n want fast (k + 1) whats (omega arith) (omega arith) is.1)))

-- A pin that goes slowly from its beginning.
pub slow_pin_written : (who : Who) (handle page n : ℕ) (want : Want) → 0 < n → (whats : List What) → Finishes who (Pin handle page n want false) (Slow (0 + 1)) whats → Written who (PinsPages who handle page n want 0 n) (tried who page want 0 ∷ whats)
slow_pin_written who handle page n want pages whats ends =
    let gap = gap_between 0 n pages in
    let count : suc gap.0 ≡ n = (let all : 0 + suc gap.0 ≡ n = gap.1 in omega arith) in
    subst (λ (m : ℕ). Written who (PinsPages who handle page n want 0 m) (tried who page want 0 ∷ whats)) count
    (slow_written who handle page n want false gap.0 0 whats gap.1 ends)

-- A walk, whatever it ends in: all pages kept, slow turns behind it, or a refusal behind it.

abbrev Outcome : Who → (handle page n : ℕ) → Want → (S : (All : List NoteValue → Type 0) → (Slowly : (got left : ℕ) → List NoteValue → Type 0) → List NoteValue → Type 0) → List What → Type 0
Outcome who handle page n want S whats =
    Written who (S (PinsAll who handle n) (PinsPages who handle page n want)) whats
    ⊎ ((answer : Answer) × (refuses_later (Pin handle page n want true) answer ≡ true) × Written who (S (λ rest. ⊥) (RefusesFirst who want answer)) whats)

outcome_as : (who : Who) (handle page n : ℕ) (want : Want) (S R : (All : List NoteValue → Type 0) → (Slowly : (got left : ℕ) → List NoteValue → Type 0) → List NoteValue → Type 0) (whats : List What) → ((All : List NoteValue → Type 0) (Slowly : (got left : ℕ) → List NoteValue → Type 0) (notes : List NoteValue) → S All Slowly notes → R All Slowly notes) → Outcome who handle page n want S whats → Outcome who handle page n want R whats
outcome_as who handle page n want S R whats so (inl is) =
    inl (written_as who (S (PinsAll who handle n) (PinsPages who handle page n want)) (R (PinsAll who handle n) (PinsPages who handle page n want)) whats (so (PinsAll who handle n) (PinsPages who handle page n want)) is)
outcome_as who handle page n want S R whats so (inr is) =
    inr (is.0, is.1, written_as who (S (λ rest. ⊥) (RefusesFirst who want is.0)) (R (λ rest. ⊥) (RefusesFirst who want is.0)) whats (so (λ rest. ⊥) (RefusesFirst who want is.0)) is.2)

-- behind a turn with this
outcome_on : (who : Who) (handle page n : ℕ) (want : Want) (turn : List What) (S : (All : List NoteValue → Type 0) → (Slowly : (got left : ℕ) → List NoteValue → Type 0) → List NoteValue → Type 0) (whats : List What) → Outcome who handle page n want S whats → Outcome who handle page n want (λ All Slowly. Then (IsTurn who turn) (S All Slowly)) (spoken turn ++ whats)
outcome_on who handle page n want turn S whats (inl is) = inl (written_on who turn (S (PinsAll who handle n) (PinsPages who handle page n want)) whats is)
outcome_on who handle page n want turn S whats (inr is) = inr (is.0, is.1, written_on who turn (S (λ rest. ⊥) (RefusesFirst who want is.0)) whats is.2)

refuses_then : (handle page n : ℕ) (want : Want) (fast : Bool) (answer : Answer) → refuses_later (Pin handle page n want fast) answer ≡ true → refuses (Pin handle page n want fast) answer ≡ true
refuses_then handle page n want fast answers.Unborn may = absurd (cc may)
refuses_then handle page n want fast answer may = may

-- behind pages that were dropped, all are tried slowly
slow_outcome : (who : Who) (handle page n : ℕ) (want : Want) → 0 < n → (whats : List What) → Finishes who (Pin handle page n want true) (Slow 0) whats → Outcome who handle page n want (λ All Slowly. Slowly 0 n) whats
slow_outcome who handle page n want pages [] ends = absurd ends
slow_outcome who handle page n want pages (what ∷ whats) ends = by_first (through who op (Slow 0) what whats ends)
  where
    op : Op
    op = Pin handle page n want true

    by_first : Through who op what whats (goes_slowly who op handle page n want 0 what) → Outcome who handle page n want (λ All Slowly. Slowly 0 n) (what ∷ whats)
    by_first (inl is) =
        let gap = gap_between 0 n pages in
        let count : suc gap.0 ≡ n = (let all : 0 + suc gap.0 ≡ n = gap.1 in omega arith) in
        inl (subst (λ (m : ℕ). Written who (PinsPages who handle page n want 0 m) (what ∷ whats)) count
        (subst (λ (w : What). Written who (PinsPages who handle page n want 0 (suc gap.0)) (w ∷ whats)) (sym is.1)
        (slow_written who handle page n want true gap.0 0 whats gap.1 is.2)))
    by_first (inr (inl is)) = (let some : 0 < 0 = lt_true 0 0 is.0 in absurd (omega arith))
    by_first (inr (inr (inl is))) =
        let answer : Answer = answer_in what in
        inr (
          answer,
          is.0,
          subst (Written who (RefusesFirst who want answer 0 n)) (let whole : Done answer ∷ [] ≡ what ∷ whats = cc (is.1, is.2) in whole)
              (written_as who (RefusesPage who want answer (Done answer ∷ [])) (RefusesFirst who want answer 0 n) (Done answer ∷ []) (λ notes these. (refl, these))
              (page_refused who handle page n want true answer (Done answer ∷ []) (refuses_then handle page n want true answer is.0))),
        )
    by_first (inr (inr (inr is))) = absurd is

-- pages that are left to be dropped
drops_outcome : (who : Who) (handle page n : ℕ) (want : Want) → 0 < n → (left j k first : ℕ) (whats : List What) → first ≡ page + j → j + left ≡ k → Finishes who (Pin handle page n want true) (dropped j k) whats → Outcome who handle page n want (λ All Slowly. Turns who (drops_pages who.actor first left) (Slowly 0 n)) whats
drops_outcome who handle page n want pages zero j k first whats at all ends =
    slow_outcome who handle page n want pages whats (subst (λ (c : Course). Finishes who (Pin handle page n want true) c whats) (last_dropped j k (omega arith)) ends)
drops_outcome who handle page n want pages (suc left) j k first [] at all ends = absurd ends
drops_outcome who handle page n want pages (suc left) j k first (what ∷ whats) at all ends =
    by_first (through who op (Dropping j k) what whats (subst (λ (c : Course). Finishes who op c (what ∷ whats)) (more_dropped j k (omega arith)) ends))
    (λ later. drops_outcome who handle page n want pages left (j + 1) k (first + 1) whats (omega arith) (omega arith) later)
  where
    op : Op
    op = Pin handle page n want true

    by_first : Through who op what whats (drops who page j k ∷ []) → (Finishes who op (dropped (j + 1) k) whats → Outcome who handle page n want (λ All Slowly. Turns who (drops_pages who.actor (first + 1) left) (Slowly 0 n)) whats) → Outcome who handle page n want (λ All Slowly. Turns who (drops_pages who.actor first (suc left)) (Slowly 0 n)) (what ∷ whats)
    by_first (inl is) further =
        let same : Event (events.PinDrop who.actor first) ≡ what = ap (λ (p : ℕ). Event (events.PinDrop who.actor p)) at ∙ sym is.1 in
        subst (λ (w : What). Outcome who handle page n want (λ All Slowly. Turns who (drops_pages who.actor first (suc left)) (Slowly 0 n)) (w ∷ whats)) same
        (outcome_on who handle page n want (Event (events.PinDrop who.actor first) ∷ []) (λ All Slowly. Turns who (drops_pages who.actor (first + 1) left) (Slowly 0 n)) whats (further is.2))
    by_first (inr is) further = absurd is

-- all pages are dropped, at least one
all_outcome : (who : Who) (handle page n : ℕ) (want : Want) → 0 < n → (k : ℕ) (whats : List What) → 0 < k → Finishes who (Pin handle page n want true) (dropped (0 + 1) k) whats → Outcome who handle page n want (λ All Slowly. DropsAll who page n k Slowly) (let_go who page 0 ∷ whats)
all_outcome who handle page n want pages zero whats some ends = absurd (omega arith)
all_outcome who handle page n want pages (suc k) whats some ends =
    let first : page ≡ page + 0 = omega arith in
    outcome_on who handle page n want (Silent ∷ []) (λ All Slowly. Turns who (drops_pages who.actor page (suc k)) (Slowly 0 n)) (let_go who page 0 ∷ whats)
    (subst (λ (p : ℕ). Outcome who handle page n want (λ All Slowly. Turns who (drops_pages who.actor page (suc k)) (Slowly 0 n)) (Event (events.PinDrop who.actor p) ∷ whats)) first
    (outcome_on who handle page n want (Event (events.PinDrop who.actor page) ∷ []) (λ All Slowly. Turns who (drops_pages who.actor (page + 1) k) (Slowly 0 n)) whats
    (drops_outcome who handle page n want pages k (0 + 1) (suc k) (page + 1) whats refl (omega arith) ends)))

-- It has stopped at a mark, with k pages before that.

-- and goes on slowly
abbrev GoesSlowly : Who → (handle page n : ℕ) → Want → (k left : ℕ) → List What → Type 0
GoesSlowly who handle page n want k left whats = Written who (PinsPages who handle page n want k (suc left)) whats

slowly_outcome : (who : Who) (handle page n : ℕ) (want : Want) (k left : ℕ) (whats : List What) → GoesSlowly who handle page n want k left whats → Outcome who handle page n want (λ All Slowly. StopsWalk who page n Slowly k (suc left)) whats
slowly_outcome who handle page n want k left whats goes =
    inl (written_as who (Then (IsTurn who (Silent ∷ [])) (PinsPages who handle page n want k (suc left))) (StopsWalk who page n (PinsPages who handle page n want) k (suc left)) whats
    (λ notes is. inl is) (written_silent who (PinsPages who handle page n want k (suc left)) whats goes))

dropping_outcome : (who : Who) (handle page n : ℕ) (want : Want) → 0 < n → (k left : ℕ) (whats : List What) → 0 < k → Finishes who (Pin handle page n want true) (dropped (0 + 1) k) whats → Outcome who handle page n want (λ All Slowly. StopsWalk who page n Slowly k (suc left)) (let_go who page 0 ∷ whats)
dropping_outcome who handle page n want pages k left whats some ends =
    outcome_as who handle page n want (λ All Slowly. DropsAll who page n k Slowly) (λ All Slowly. StopsWalk who page n Slowly k (suc left)) (let_go who page 0 ∷ whats)
    (λ All Slowly notes is. inr is) (all_outcome who handle page n want pages k whats some ends)

short_slowly : (who : Who) (handle page n : ℕ) (want : Want) (k left : ℕ) (whats : List What) → 0 < k → k + suc left ≡ n → Finishes who (Pin handle page n want true) (made k n) whats → GoesSlowly who handle page n want k left (handled who handle ∷ whats)
short_slowly who handle page n want k left whats some all ends =
    written_as who (EndsShort who handle n want k) (PinsPages who handle page n want k (suc left)) (handled who handle ∷ whats) (short_among who handle page n want k left)
    (short_written who handle page n want true k whats some (omega arith) ends)

stopped_outcome : (who : Who) (handle page n : ℕ) (want : Want) → 0 < n → (k left : ℕ) (whats : List What) → k + suc left ≡ n → Finishes who (Pin handle page n want true) (stopped k) whats → Outcome who handle page n want (λ All Slowly. StopsWalk who page n Slowly k (suc left)) whats
stopped_outcome who handle page n want pages zero left whats all ends =
    outcome_as who handle page n want (λ All Slowly. Then (IsTurn who (Silent ∷ [])) (Slowly 0 (suc left))) (λ All Slowly. StopsWalk who page n Slowly 0 (suc left)) whats
    (λ All Slowly notes is. inl is)
    (outcome_on who handle page n want (Silent ∷ []) (λ All Slowly. Slowly 0 (suc left)) whats
    (let count : n ≡ suc left = omega arith in
    subst (λ (m : ℕ). Outcome who handle page n want (λ All Slowly. Slowly 0 m) whats) count (slow_outcome who handle page n want pages whats ends)))
stopped_outcome who handle page n want pages (suc k) left [] all ends = absurd ends
stopped_outcome who handle page n want pages (suc k) left (what ∷ whats) all ends = by_first (through who op (Stopped (suc k)) what whats ends)
  where
    op : Op
    op = Pin handle page n want true

    by_first : Through who op what whats (tries who page n want (suc k) Slow ∷ makes who handle n (suc k) ∷ drops who page 0 (suc k) ∷ []) → Outcome who handle page n want (λ All Slowly. StopsWalk who page n Slowly (suc k) (suc left)) (what ∷ whats)
    by_first (inl is) =
        slowly_outcome who handle page n want (suc k) left (what ∷ whats)
        (subst (λ (w : What). GoesSlowly who handle page n want (suc k) left (w ∷ whats)) (sym is.1) (slow_written who handle page n want true left (suc k) whats all is.2))
    by_first (inr (inl is)) =
        slowly_outcome who handle page n want (suc k) left (what ∷ whats)
        (subst (λ (w : What). GoesSlowly who handle page n want (suc k) left (w ∷ whats)) (sym is.1) (short_slowly who handle page n want (suc k) left whats (omega arith) all is.2))
    by_first (inr (inr (inl is))) =
        subst (λ (w : What). Outcome who handle page n want (λ All Slowly. StopsWalk who page n Slowly (suc k) (suc left)) (w ∷ whats)) (sym is.1)
        (dropping_outcome who handle page n want pages (suc k) left whats (omega arith) is.2)
    by_first (inr (inr (inr is))) = absurd is

-- The walk.

-- it keeps a page, and walks on
kept_outcome : (who : Who) (handle page n : ℕ) (want : Want) (k left : ℕ) (whats : List What) → Outcome who handle page n want (λ All Slowly. WalksOn who page n want.write All Slowly (k + 1) left) whats → Outcome who handle page n want (λ All Slowly. WalksOn who page n want.write All Slowly k (suc left)) (tried who page want k ∷ whats)
kept_outcome who handle page n want k left whats on =
    outcome_as who handle page n want (λ All Slowly. Turns who (takes_page who (page + k) want.write) (WalksOn who page n want.write All Slowly (k + 1) left))
    (λ All Slowly. WalksOn who page n want.write All Slowly k (suc left)) (tried who page want k ∷ whats) (λ All Slowly notes is. inl is)
    (outcome_on who handle page n want (Silent ∷ []) (λ All Slowly. Then (IsTurn who (Silent ∷ [])) (Then (IsTurn who (tried who page want k ∷ [])) (Then (IsTurn who (Silent ∷ [])) (WalksOn who page n want.write All Slowly (k + 1) left)))) (tried who page want k ∷ whats)
    (outcome_on who handle page n want (Silent ∷ []) (λ All Slowly. Then (IsTurn who (tried who page want k ∷ [])) (Then (IsTurn who (Silent ∷ [])) (WalksOn who page n want.write All Slowly (k + 1) left))) (tried who page want k ∷ whats)
    (outcome_on who handle page n want (tried who page want k ∷ []) (λ All Slowly. Then (IsTurn who (Silent ∷ [])) (WalksOn who page n want.write All Slowly (k + 1) left)) whats
    (outcome_on who handle page n want (Silent ∷ []) (λ All Slowly. WalksOn who page n want.write All Slowly (k + 1) left) whats on))))

-- it stops at the entry of a page
entry_outcome : (who : Who) (handle page n : ℕ) (want : Want) (k left : ℕ) (whats : List What) → Outcome who handle page n want (λ All Slowly. StopsWalk who page n Slowly k (suc left)) whats → Outcome who handle page n want (λ All Slowly. WalksOn who page n want.write All Slowly k (suc left)) whats
entry_outcome who handle page n want k left whats stop =
    outcome_as who handle page n want (λ All Slowly. Then (IsTurn who (Silent ∷ [])) (StopsWalk who page n Slowly k (suc left)))
    (λ All Slowly. WalksOn who page n want.write All Slowly k (suc left)) whats (λ All Slowly notes is. inr (at_entry, is))
    (outcome_on who handle page n want (Silent ∷ []) (λ All Slowly. StopsWalk who page n Slowly k (suc left)) whats stop)

-- or at its mark
mark_outcome : (who : Who) (handle page n : ℕ) (want : Want) (k left : ℕ) (whats : List What) → Outcome who handle page n want (λ All Slowly. StopsWalk who page n Slowly k (suc left)) whats → Outcome who handle page n want (λ All Slowly. WalksOn who page n want.write All Slowly k (suc left)) (tried who page want k ∷ let_go who page k ∷ whats)
mark_outcome who handle page n want k left whats stop =
    let end : List What = let_go who page k ∷ whats in
    outcome_as who handle page n want (λ All Slowly. Turns who (stops_at who (page + k) want.write at_mark) (StopsWalk who page n Slowly k (suc left)))
    (λ All Slowly. WalksOn who page n want.write All Slowly k (suc left)) (tried who page want k ∷ end) (λ All Slowly notes is. inr (at_mark, is))
    (outcome_on who handle page n want (Silent ∷ []) (λ All Slowly. Then (IsTurn who (Silent ∷ [])) (Then (IsTurn who (tried who page want k ∷ [])) (Then (IsTurn who (Silent ∷ [])) (Then (IsTurn who (let_go who page k ∷ [])) (StopsWalk who page n Slowly k (suc left)))))) (tried who page want k ∷ end)
    (outcome_on who handle page n want (Silent ∷ []) (λ All Slowly. Then (IsTurn who (tried who page want k ∷ [])) (Then (IsTurn who (Silent ∷ [])) (Then (IsTurn who (let_go who page k ∷ [])) (StopsWalk who page n Slowly k (suc left))))) (tried who page want k ∷ end)
    (outcome_on who handle page n want (tried who page want k ∷ []) (λ All Slowly. Then (IsTurn who (Silent ∷ [])) (Then (IsTurn who (let_go who page k ∷ [])) (StopsWalk who page n Slowly k (suc left)))) end
    (outcome_on who handle page n want (Silent ∷ []) (λ All Slowly. Then (IsTurn who (let_go who page k ∷ [])) (StopsWalk who page n Slowly k (suc left))) end
    (outcome_on who handle page n want (let_go who page k ∷ []) (λ All Slowly. StopsWalk who page n Slowly k (suc left)) whats stop)))))

-- all pages are kept
whole_outcome : (who : Who) (handle page n : ℕ) (want : Want) (k : ℕ) (whats : List What) → k ≡ n → Finishes who (Pin handle page n want true) (made k n) whats → Outcome who handle page n want (λ All Slowly. WalksOn who page n want.write All Slowly k 0) (handled who handle ∷ whats)
whole_outcome who handle page n want k whats all ends =
    let last : whats ≡ Done (answers.Pinned n) ∷ [] =
    closing_said who (Pin handle page n want true) (answers.Pinned n) whats (subst (λ (c : Course). Finishes who (Pin handle page n want true) c whats) (all_made k n all) ends) in
    let turn : List What = handled who handle ∷ Done (answers.Pinned n) ∷ [] in
    inl (subst (λ (l : List What). Written who (WalksOn who page n want.write (PinsAll who handle n) (PinsPages who handle page n want) k 0) (handled who handle ∷ l)) (sym last)
    (written_as who (IsTurn who turn) (WalksOn who page n want.write (PinsAll who handle n) (PinsPages who handle page n want) k 0) turn (λ notes is. inl is) (written_turn who turn)))

-- or all are dropped, wherever it is
all_dropped : (who : Who) (handle page n : ℕ) (want : Want) → 0 < n → (k left : ℕ) (whats : List What) → 0 < k → Finishes who (Pin handle page n want true) (dropped (0 + 1) k) whats → Outcome who handle page n want (λ All Slowly. WalksOn who page n want.write All Slowly k left) (let_go who page 0 ∷ whats)
all_dropped who handle page n want pages k zero whats some ends =
    outcome_as who handle page n want (λ All Slowly. DropsAll who page n k Slowly) (λ All Slowly. WalksOn who page n want.write All Slowly k 0) (let_go who page 0 ∷ whats)
    (λ All Slowly notes is. inr is) (all_outcome who handle page n want pages k whats some ends)
all_dropped who handle page n want pages k (suc left) whats some ends =
    entry_outcome who handle page n want k left (let_go who page 0 ∷ whats) (dropping_outcome who handle page n want pages k left whats some ends)

-- behind a page that is kept: the handle of all or of fewer
handle_outcome : (who : Who) (handle page n : ℕ) (want : Want) (k left : ℕ) (whats : List What) → 0 < k → k + left ≡ n → Finishes who (Pin handle page n want true) (made k n) whats → Outcome who handle page n want (λ All Slowly. WalksOn who page n want.write All Slowly k left) (handled who handle ∷ whats)
handle_outcome who handle page n want k zero whats some all ends = whole_outcome who handle page n want k whats (omega arith) ends
handle_outcome who handle page n want k (suc left) whats some all ends =
    entry_outcome who handle page n want k left (handled who handle ∷ whats)
    (slowly_outcome who handle page n want k left (handled who handle ∷ whats) (short_slowly who handle page n want k left whats some all ends))

-- what a walk says behind a page that it has tried
abbrev WalkSays : Who → (handle page n : ℕ) → Want → (k : ℕ) → What → List What → Type 0
WalkSays who handle page n want k what whats =
    ((k + 1 < n) × (what ≡ tried who page want (k + 1)) × Finishes who (Pin handle page n want true) (Walking (k + 1 + 1)) whats)
    ⊎ ((what ≡ handled who handle) × Finishes who (Pin handle page n want true) (made (k + 1) n) whats)
    ⊎ ((what ≡ let_go who page k) × Finishes who (Pin handle page n want true) (stopped k) whats)
    ⊎ ((what ≡ let_go who page 0) × Finishes who (Pin handle page n want true) (dropped (0 + 1) (k + 1)) whats)

walk_says : (who : Who) (handle page n : ℕ) (want : Want) (k : ℕ) (what : What) (whats : List What) → Through who (Pin handle page n want true) what whats (walks who handle page n want (k + 1)) → WalkSays who handle page n want k what whats
walk_says who handle page n want k what whats (inl is) = inl (lt_true (k + 1) n is.0, is.1, is.2)
walk_says who handle page n want k what whats (inr (inl is)) = inr (inl (is.1, is.2))
walk_says who handle page n want k what whats (inr (inr (inl is))) =
    let same : k + 1 - 1 ≡ k = omega arith in
    inr (inr (inl (is.1 ∙ ap (let_go who page) same, subst (λ (j : ℕ). Finishes who (Pin handle page n want true) (stopped j) whats) same is.2)))
walk_says who handle page n want k what whats (inr (inr (inr (inl is)))) = inr (inr (inr (is.1, is.2)))
walk_says who handle page n want k what whats (inr (inr (inr (inr is)))) = absurd is

-- the page after k is tried, and what comes behind it
walk_outcome : (who : Who) (handle page n : ℕ) (want : Want) → 0 < n → (left k : ℕ) (whats : List What) → k + suc left ≡ n → Finishes who (Pin handle page n want true) (Walking (k + 1)) whats → Outcome who handle page n want (λ All Slowly. WalksOn who page n want.write All Slowly k (suc left)) (tried who page want k ∷ whats)
walk_outcome who handle page n want pages left k [] all ends = absurd ends
walk_outcome who handle page n want pages zero k (what ∷ whats) all ends =
    by_first (walk_says who handle page n want k what whats (through who (Pin handle page n want true) (Walking (k + 1)) what whats ends))
  where
    Here : List What → Type 0
    Here l = Outcome who handle page n want (λ All Slowly. WalksOn who page n want.write All Slowly k 1) (tried who page want k ∷ l)

    by_first : WalkSays who handle page n want k what whats → Here (what ∷ whats)
    by_first (inl is) = (let more : k + 1 < n = is.0 in absurd (omega arith))
    by_first (inr (inl is)) =
        subst (λ (w : What). Here (w ∷ whats)) (sym is.0)
        (kept_outcome who handle page n want k 0 (handled who handle ∷ whats) (handle_outcome who handle page n want (k + 1) 0 whats (omega arith) (omega arith) is.1))
    by_first (inr (inr (inl is))) =
        subst (λ (w : What). Here (w ∷ whats)) (sym is.0)
        (mark_outcome who handle page n want k 0 whats (stopped_outcome who handle page n want pages k 0 whats all is.1))
    by_first (inr (inr (inr is))) =
        subst (λ (w : What). Here (w ∷ whats)) (sym is.0)
        (kept_outcome who handle page n want k 0 (let_go who page 0 ∷ whats) (all_dropped who handle page n want pages (k + 1) 0 whats (omega arith) is.1))
walk_outcome who handle page n want pages (suc left) k (what ∷ whats) all ends =
    by_first (walk_says who handle page n want k what whats (through who (Pin handle page n want true) (Walking (k + 1)) what whats ends))
    (λ later. walk_outcome who handle page n want pages left (k + 1) whats (omega arith) later)
  where
    Here : List What → Type 0
    Here l = Outcome who handle page n want (λ All Slowly. WalksOn who page n want.write All Slowly k (suc (suc left))) (tried who page want k ∷ l)

    Further : Type 0
    Further =
        Finishes who (Pin handle page n want true) (Walking (k + 1 + 1)) whats
        → Outcome who handle page n want (λ All Slowly. WalksOn who page n want.write All Slowly (k + 1) (suc left)) (tried who page want (k + 1) ∷ whats)

    by_first : WalkSays who handle page n want k what whats → Further → Here (what ∷ whats)
    by_first (inl is) further =
        subst (λ (w : What). Here (w ∷ whats)) (sym is.1) (kept_outcome who handle page n want k (suc left) (tried who page want (k + 1) ∷ whats) (further is.2))
    by_first (inr (inl is)) further =
        subst (λ (w : What). Here (w ∷ whats)) (sym is.0)
        (kept_outcome who handle page n want k (suc left) (handled who handle ∷ whats) (handle_outcome who handle page n want (k + 1) (suc left) whats (omega arith) (omega arith) is.1))
    by_first (inr (inr (inl is))) further =
        subst (λ (w : What). Here (w ∷ whats)) (sym is.0)
        (mark_outcome who handle page n want k (suc left) whats (stopped_outcome who handle page n want pages k (suc left) whats all is.1))
    by_first (inr (inr (inr is))) further =
        subst (λ (w : What). Here (w ∷ whats)) (sym is.0)
        (kept_outcome who handle page n want k (suc left) (let_go who page 0 ∷ whats) (all_dropped who handle page n want pages (k + 1) (suc left) whats (omega arith) is.1))

-- A fast pin from its beginning.

begun_outcome : (who : Who) (handle page n : ℕ) (want : Want) → 0 < n → (whats : List What) → Finishes who (Pin handle page n want true) (Walking (0 + 1)) whats → Outcome who handle page n want (λ All Slowly. Walks who page n want.write All Slowly) (tried who page want 0 ∷ whats)
begun_outcome who handle page n want pages whats ends =
    let gap = gap_between 0 n pages in
    let count : suc gap.0 ≡ n = (let all : 0 + suc gap.0 ≡ n = gap.1 in omega arith) in
    outcome_on who handle page n want (Silent ∷ []) (λ All Slowly. Then (IsTurn who (Silent ∷ [])) (λ rest. Slowly 0 n rest ⊎ WalksOn who page n want.write All Slowly 0 n rest)) (tried who page want 0 ∷ whats)
    (outcome_on who handle page n want (Silent ∷ []) (λ All Slowly rest. Slowly 0 n rest ⊎ WalksOn who page n want.write All Slowly 0 n rest) (tried who page want 0 ∷ whats)
    (outcome_as who handle page n want (λ All Slowly. WalksOn who page n want.write All Slowly 0 n) (λ All Slowly rest. Slowly 0 n rest ⊎ WalksOn who page n want.write All Slowly 0 n rest) (tried who page want 0 ∷ whats)
    (λ All Slowly notes is. inr is)
    (subst (λ (m : ℕ). Outcome who handle page n want (λ All Slowly. WalksOn who page n want.write All Slowly 0 m) (tried who page want 0 ∷ whats)) count
    (walk_outcome who handle page n want pages gap.0 0 whats gap.1 ends))))

-- it is done, or refused
refused_fast : (who : Who) (handle page n : ℕ) (want : Want) (answer : Answer) (notes : List NoteValue) → refuses_later (Pin handle page n want true) answer ≡ true → Walks who page n want.write (λ rest. ⊥) (RefusesFirst who want answer) notes → RefusesFast who page n want answer notes
refused_fast who handle page n want answers.Unborn notes may is = absurd (cc may)
refused_fast who handle page n want answer notes may is = is

pub fast_pin_written : (who : Who) (handle page n : ℕ) (want : Want) → 0 < n → (whats : List What) → Finishes who (Pin handle page n want true) (Walking (0 + 1)) whats → Written who (Shape who (Pin handle page n want true)) (tried who page want 0 ∷ whats)
fast_pin_written who handle page n want pages whats ends = by_outcome (begun_outcome who handle page n want pages whats ends)
  where
    op : Op
    op = Pin handle page n want true

    said : List What
    said = tried who page want 0 ∷ whats

    by_outcome : Outcome who handle page n want (λ All Slowly. Walks who page n want.write All Slowly) said → Written who (Shape who op) said
    by_outcome (inl is) =
        written_as who (Walks who page n want.write (PinsAll who handle n) (PinsPages who handle page n want)) (Shape who op) said (λ notes these. inl these) is
    by_outcome (inr is) =
        written_as who (Walks who page n want.write (λ rest. ⊥) (RefusesFirst who want is.0)) (Shape who op) said
        (λ notes these. inr (is.0, refuses_then handle page n want true is.0 is.1, refused_fast who handle page n want is.0 notes is.1 these)) is.2

-- Refusals before any event.

first_refused : (who : Who) (handle page n : ℕ) (want : Want) (answer : Answer) → refuses (Pin handle page n want true) answer ≡ true → Written who (Walks who page n want.write (λ rest. ⊥) (RefusesFirst who want answer)) (Done answer ∷ [])
first_refused who handle page n want answer may =
    written_silent who (Then (IsTurn who (Silent ∷ [])) Begun) (Done answer ∷ [])
    (written_silent who Begun (Done answer ∷ [])
    (written_as who (RefusesPage who want answer (Done answer ∷ [])) Begun (Done answer ∷ []) (λ notes is. inl (refl, is))
    (page_refused who handle page n want true answer (Done answer ∷ []) may)))
  where
    Begun : List NoteValue → Type 0
    Begun rest = RefusesFirst who want answer 0 n rest ⊎ WalksOn who page n want.write (λ rest. ⊥) (RefusesFirst who want answer) 0 n rest

fast_refused : (who : Who) (handle page n : ℕ) (want : Want) (answer : Answer) → refuses (Pin handle page n want true) answer ≡ true → Written who (RefusesFast who page n want answer) (Done answer ∷ [])
fast_refused who handle page n want answers.Unborn may = written_turn who (Done answers.Unborn ∷ [])
fast_refused who handle page n want answer may = first_refused who handle page n want answer may

pub pin_refused : (who : Who) (handle page n : ℕ) (want : Want) (fast : Bool) (answer : Answer) → refuses (Pin handle page n want fast) answer ≡ true → Written who (RefusesPin who page n want fast answer) (Done answer ∷ [])
pin_refused who handle page n want false answer may = page_refused who handle page n want false answer (Done answer ∷ []) may
pin_refused who handle page n want true answer may = fast_refused who handle page n want answer may
