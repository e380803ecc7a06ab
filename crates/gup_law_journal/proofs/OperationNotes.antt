-- A run follows its script: what an actor's notes are from a state on, backwards from the end.
use Rattle.std.proofs.Common.{◌≡◌, ℕ, ◌+◌, ◌-◌, ◌<◌, ◌≤◌, ◌==◌, ◌++◌, ◌⊎◌, inl, inr, Bool, true, false, IsTrue, List, [], ◌∷◌, Option, Some, None, slice_get, drop, refl, sym, ap, ◌∙◌, subst, subst₂, append_assoc, zero, suc, arith}
use Rattle.std.proofs.Math.Seq.{drop-nil}
use Rattle.gup_base.specs.Parts.{Part, words_of, word_at}
use Rattle.gup_base.specs.declared.entry.Entry.{Entry}
use Rattle.gup_base.specs.declared.entry.Want.{Want}
use Rattle.gup_base.specs.declared.entry.Zone.{Zone}
use Rattle.gup_plain.specs.Event.{words}
use Rattle.gup_plain.specs.Note.{NoteValue}
use Rattle.gup_plain.specs.State.{PlainState}
use Rattle.gup_plain.specs.declared.answer.Cause.{Cause}
use Rattle.gup_plain.specs.declared.answer.Cause.TheVariants as causes
use Rattle.gup_spec_journal.specs.Plain.{pages_got, refusal_by_cause}
use Rattle.gup_plain.specs.declared.answer.Answer.{Answer}
use Rattle.gup_plain.specs.declared.answer.Answer.TheVariants as answers
use Rattle.gup_plain.specs.declared.event.PlainEvent.{PlainEvent}
use Rattle.gup_plain.specs.declared.event.PlainEvent.TheVariants as events
use Rattle.gup_plain.specs.declared.note.What.{What}
use Rattle.gup_plain.specs.declared.note.What.TheVariants.{Silent, Idle, Wait, Event, Done}
use Rattle.gup_plain.specs.declared.note.Waiting.{Waiting}
use Rattle.gup_script.specs.declared.op.Op.{Op}
use Rattle.gup_script.specs.declared.op.Op.TheVariants.{Unmap, Discard, Pin, Unpin, Transfer, Fork, Exit, Move}
use Rattle.gup_spec_journal.specs.Denial.{References}
use Rattle.gup_spec_journal.specs.Follows.{Who, Completes, IsTurn, AreBehind, AreBefore, Then, IsRefused, TakesDown, TakesDownLast, TakesDownAll, TakesDownWhole, CopiesFrom, CopiesPage, ForksPages, TriesIn, EndsShort, PinsAll, PinsPages, RefusesFirst, Unpins, moves_word, MovesWords, Shape, Shapes, refuses, own_notes, notes_of_turn, is_of_operation, IsThirdTurn}
use Rattle.gup_spec_events.specs.State.{Counted, WalkStep, entered, ready, unread, one as counted_one, more as counted_more}
use Rattle.gup_spec_journal.specs.Order.{Moves, plain_behind}
use Rattle.gup_spec_journal.specs.Follows.{RefusesPage, EndsPin}
use Rattle.gup_spec_journal.specs.Place.{Place, Doer, concerned, process_of_op, place_behind}
use Rattle.gup_spec_turns.specs.JobPlace.{JobPlace, unbegun, from_page, at_page, wants_frame, at_word, moving_page, in_walk}
use Rattle.gup_law_turns.proofs.Puts.{some_same}
use Rattle.gup_law_turns.proofs.TurnShapes.{IsAtOnce, IsAlwaysSlow, IsSlowTurn, WalksTo, began_walk, walked, kept_all, refused_slowly, TriesAt, RefusesAt, TurnOf, refused, loaded, looked, took, took_last, passed, passed_last, took_lowest, took_all, cleared_page, counted_cleared, lacked_frame, found_unmovable, pinned_page, pinned_all, pinned_short, unpinned_page, unpinned_last, moved_word, moved_last, cleared_entry, counted_frame, placed_frame, found_no_frame, found_busy, began, passed_page, counted_page, shared_page, ended, counted_copy, took_frame, copied_word, placed_copy, failed_fork, GoesOver, unmaps, discards, TurnAt, idles, waits, goes, unborn_refused, unborn_fork, failed_share}
use Rattle.gup_law_journal.proofs.PendingPages.{first_pending}
use Rattle.gup_law_journal.proofs.WalkNotes.{one_pending, walk_before, walk_behind, kept_all as all_kept}
use Rattle.gup_law_journal.proofs.PinRests.{PinsThird, IsLateCause, IsLateRefusal, LeftThird, RefusesSlowly, PinRest, SlowRest, RestOfPin, slow_left, left_slow, later_slow, page_refused, walk_shape, unbegun_shape, first_refused, shape_left, begun_slow, slow_refused, unborn_refused as pin_unborn, walk_left, walk_place}
use Rattle.gup_law_journal.proofs.TurnOrder.{op_moves, refusal_moves, failure_moves}
use Rattle.gup_law_journal.proofs.ActorNotes.{own_other, own_same, own_idle, behind_front, behind_rest, before_append, turn_before}

-- What is left of an operation of which so many turns are over: of one that goes over pages, those after; of an exit,
-- so many pages as are still mapped; of a fork and of a move, what is left from where they stand; of a pin and of a transfer, the pages or
-- words after, and of an unpin, so many pages as the pin still has.
abbrev pub RestOver : Who → Op → (page n : ℕ) → (ℕ → PlainEvent) → (far : ℕ) → List NoteValue → Type 0
RestOver who op page n event far notes = TakesDownAll who event (page + far) (n - far) notes ⊎ ((far ≡ 0) × IsRefused who op notes)

-- Of a fork that looks for its next page, the pages from there on; of one that has counted a page, also that one's share, or its failure;
-- of one that wants a frame, also that one's copy, or its failure; and of one that has copied some words, also those that
-- are left.
abbrev pub RestOfFork : Who → (child : ℕ) → JobPlace → List NoteValue → Type 0
RestOfFork who child unbegun notes = Completes who (Fork child) notes
RestOfFork who child (from_page page) notes = (pages : ℕ) × ForksPages who child page pages notes
RestOfFork who child (at_page page) notes =
    ((pages : ℕ)
    × Then (IsTurn who (Event (events.ForkPage who.proc child page) ∷ [])) (ForksPages who child (page + 1) pages) notes)
    ⊎ IsTurn who (Event (events.ForkFail child) ∷ Done answers.NoFrame ∷ []) notes
RestOfFork who child (wants_frame page) notes =
    ((pages : ℕ) × Then (CopiesPage who child page) (ForksPages who child (page + 1) pages) notes)
    ⊎ IsTurn who (Event (events.ForkFail child) ∷ Done answers.NoFrame ∷ []) notes
RestOfFork who child (at_word page word to) notes =
    (pages : ℕ) × Then (CopiesFrom who child page word) (ForksPages who child (page + 1) pages) notes
RestOfFork who child (moving_page page e count) notes = ⊥
RestOfFork who child (in_walk sequence step) notes = ⊥

-- the answers that a move may have in its third turn
abbrev pub IsLate : Answer → Type 0
IsLate answers.Plain = Unit {0}
IsLate answers.NoFrame = Unit {0}
IsLate (answers.Busy count) = Unit {0}
IsLate answer = ⊥

-- Of a move that has cleared its entry, the count and the third turn; of one that has counted, that alone.
abbrev pub RestOfMove : Who → Op → JobPlace → List NoteValue → Type 0
RestOfMove who op (moving_page page e unread) notes =
    (answer : Answer) × IsLate answer × Then (IsTurn who (Silent ∷ [])) (IsTurn who (Done answer ∷ [])) notes
RestOfMove who op (moving_page page e count) notes =
    (answer : Answer) × IsLate answer × IsTurn who (Done answer ∷ []) notes
RestOfMove who op at notes = Shape who op notes

-- What is left of any operation; of a pin also by the first page that it has got.
abbrev pub RestOf : Who → Op → (far got first : ℕ) → JobPlace → List NoteValue → Type 0
RestOf who (Unmap page n) far got first at notes = RestOver who (Unmap page n) page n (events.Unmap who.actor who.proc) far notes
RestOf who (Discard page n) far got first at notes = RestOver who (Discard page n) page n (events.Discard who.actor who.proc) far notes
RestOf who Exit far got first at notes = ((pages : ℕ) × TakesDownWhole who pages notes) ⊎ ((far ≡ 0) × IsRefused who Exit notes)
RestOf who (Move proc page zone) far got first at notes = RestOfMove who (Move proc page zone) at notes
RestOf who (Fork child) far got first at notes = RestOfFork who child at notes
RestOf who (Pin handle page n want fast) far got first at notes =
    RestOfPin who handle page n want fast far got first at notes
RestOf who (Unpin handle) far got first at notes =
    ((more : ℕ) × Unpins who handle more notes) ⊎ ((far ≡ 0) × IsRefused who (Unpin handle) notes)
RestOf who (Transfer handle outward slot parts) far got first at notes =
    MovesWords who handle outward slot parts far (words_of parts - far) notes
    ⊎ ((far ≡ 0) × IsRefused who (Transfer handle outward slot parts) notes)
RestOf who op far got first at notes = Shape who op notes

rest_over : (who : Who) {op : Op} {page n : ℕ} {event : ℕ → PlainEvent} (far got first : ℕ) (at : JobPlace) (notes : List NoteValue) → GoesOver who.actor who.proc op page n event → RestOf who op far got first at notes → RestOver who op page n event far notes
rest_over who far got first at notes (unmaps page n) rest = rest
rest_over who far got first at notes (discards page n) rest = rest

over_rest : (who : Who) {op : Op} {page n : ℕ} {event : ℕ → PlainEvent} (far got first : ℕ) (at : JobPlace) (notes : List NoteValue) → GoesOver who.actor who.proc op page n event → RestOver who op page n event far notes → RestOf who op far got first at notes
over_rest who far got first at notes (unmaps page n) rest = rest
over_rest who far got first at notes (discards page n) rest = rest

-- what is left of the operation, and then those after it
abbrev pub Goes : (a p number : ℕ) → Op → List Op → (far got first : ℕ) → JobPlace → List NoteValue → Type 0
Goes a p number op ops far got first at notes =
    Then (RestOf (record { actor = a; proc = p; number = number }) op far got first at) (Shapes a p (number + 1) ops) notes

-- The notes that are left of an actor with these operations left, of the first of which so many turns are over. An
-- operation that has begun is ended.
abbrev pub Left : (a p number : ℕ) → List Op → (far got first : ℕ) → JobPlace → List NoteValue → Type 0
Left a p number [] far got first at notes = notes ≡ []
Left a p number (op ∷ ops) far got first at notes = (far ≡ 0) × (notes ≡ []) ⊎ Goes a p number op ops far got first at notes

-- the operations from the present one on

pub ops_split : (ops : List Op) (k : ℕ) (op : Op) → slice_get ops k ≡ Some op → drop k ops ≡ op ∷ drop (k + 1) ops
ops_split [] k op is = absurd (cc is)
ops_split (o ∷ ops) zero op is = ap (λ (x : Op). x ∷ ops) (some_same is)
ops_split (o ∷ ops) (suc k) op is = let same : suc (k + 1) ≡ suc k + 1 = omega arith in ops_split ops k op is ∙ ap (λ (n : ℕ). op ∷ drop n (o ∷ ops)) same

pub ops_over : (ops : List Op) (k : ℕ) → slice_get ops k ≡ None → drop k ops ≡ []
ops_over [] k is = drop-nil k
ops_over (o ∷ ops) zero is = absurd (cc is)
ops_over (o ∷ ops) (suc k) is = ops_over ops k is

-- an operation of which no turn is over

all_of : (who : Who) (event : ℕ → PlainEvent) (page n : ℕ) (notes : List NoteValue) → TakesDownAll who event (page + 0) (n - 0) notes → TakesDownAll who event page n notes
all_of who event page n notes all =
    let first : page + 0 ≡ page = omega arith in
    let many : n - 0 ≡ n = omega arith in
    subst (λ (k : ℕ). TakesDownAll who event page k notes) many (subst (λ (g : ℕ). TakesDownAll who event g (n - 0) notes) first all)

shape_of : (who : Who) (op : Op) (notes : List NoteValue) → (first : ℕ) → RestOf who op 0 0 first unbegun notes → Shape who op notes
shape_of who (Unmap page n) notes first (inl all) = inl (all_of who (events.Unmap who.actor who.proc) page n notes all)
shape_of who (Unmap page n) notes first (inr refusal) = inr refusal.1
shape_of who (Discard page n) notes first (inl all) = inl (all_of who (events.Discard who.actor who.proc) page n notes all)
shape_of who (Discard page n) notes first (inr refusal) = inr refusal.1
shape_of who Exit notes first (inl whole) = inl whole
shape_of who Exit notes first (inr refusal) = inr refusal.1
shape_of who (Fork child) notes first rest = inl rest
shape_of who (Pin handle page n want fast) notes first rest = unbegun_shape who handle page n want fast notes rest
shape_of who (Unpin handle) notes first (inl unpins) = inl unpins
shape_of who (Unpin handle) notes first (inr refusal) = inr refusal.1
shape_of who (Transfer handle outward slot parts) notes first (inl all) =
    let many : words_of parts - 0 ≡ words_of parts = omega arith in
    inl (subst (λ (k : ℕ). MovesWords who handle outward slot parts 0 k notes) many all)
shape_of who (Transfer handle outward slot parts) notes first (inr refusal) = inr refusal.1
shape_of who op notes first rest = rest

pub left_shapes : (a p number : ℕ) (ops : List Op) (notes : List NoteValue) (first : ℕ) → Left a p number ops 0 0 first unbegun notes → Shapes a p number ops notes
left_shapes a p number [] notes first left = left
left_shapes a p number (op ∷ ops) notes first (inl none) = inl none.1
left_shapes a p number (op ∷ ops) notes first (inr more) =
    inr (more.0, more.1, more.2, more.3, shape_of (record { actor = a; proc = p; number = number }) op more.0 first more.4, more.5)

-- one page more in front
takes_down : (who : Who) (event : ℕ → PlainEvent) (page m : ℕ) (now later : List NoteValue) → 1 ≤ m → AreBefore now later → TakesDown who (event page) now → TakesDownAll who event (page + 1) m later → TakesDownAll who event page (suc m) (now ++ later)
takes_down who event page zero now later some before down all = absurd (omega arith)
takes_down who event page (suc m) now later some before down all = (now, later, refl, before, down, all)

-- one page of a pin more in front, and the page that is refused
pins_more : (who : Who) (handle page n : ℕ) (want : Want) (got m : ℕ) (now later : List NoteValue) → 1 ≤ m → AreBefore now later → TriesIn who want (Event (events.PinTry who.actor who.proc (page + got) want.write) ∷ []) now → PinsPages who handle page n want (got + 1) m later → PinsPages who handle page n want got (suc m) (now ++ later)
pins_more who handle page n want got zero now later some before first pins = absurd (omega arith)
pins_more who handle page n want got (suc m) now later some before first pins = inl (now, later, refl, before, first, pins)

pins_short : (who : Who) (handle page n : ℕ) (want : Want) (got left : ℕ) (now : List NoteValue) → 0 < left → EndsShort who handle n want got now → PinsPages who handle page n want got left now
pins_short who handle page n want got zero now some end = absurd (omega arith)
pins_short who handle page n want got (suc zero) now some end = inr end
pins_short who handle page n want got (suc (suc left)) now some end = inr end

-- one word of a transfer more in front
moves_more : (who : Who) (handle : ℕ) (outward : Bool) (slot : ℕ) (parts : List Part) (k value m : ℕ) (now later : List NoteValue) → 1 ≤ m → AreBefore now later → IsTurn who (Event (moves_word who.actor handle outward (word_at parts k) (slot + k) value) ∷ []) now → MovesWords who handle outward slot parts (k + 1) m later → MovesWords who handle outward slot parts k (suc m) (now ++ later)
moves_more who handle outward slot parts k value zero now later some before first all = absurd (omega arith)
moves_more who handle outward slot parts k value (suc m) now later some before first all = (value, (now, later, refl, before, first, all))

-- what is left of an actor at a place
abbrev pub LeftAt : (a p : ℕ) → List Op → Place → (got first : ℕ) → JobPlace → List NoteValue → Type 0
LeftAt a p ops place got first at notes = Left a p (place.answered + 1) (drop place.answered ops) place.far got first at notes

-- a fork of a born process is not refused
pub fork_unrefused : (child : ℕ) (answer : Answer) → refuses (Fork child) answer ≡ false
fork_unrefused child answers.Plain = refl
fork_unrefused child answer = refl

-- an operation that is refused at once is so in one turn
at_once : (who : Who) (op : Op) (answer : Answer) (notes : List NoteValue) → IsTrue (refuses op answer) → IsAtOnce op answer → IsAlwaysSlow op → IsTurn who (Done answer ∷ []) notes → IsRefused who op notes
at_once who (Move proc page zone) (answers.Busy count) notes refusal at slow turn = absurd at
at_once who (Move proc page zone) answers.NoFrame notes refusal at slow turn = absurd at
at_once who (Move proc page zone) answers.Missing notes refusal at slow turn = (answers.Missing, refusal, turn)
at_once who (Move proc page zone) answers.Untouched notes refusal at slow turn = (answers.Untouched, refusal, turn)
at_once who (Move proc page zone) answers.Unborn notes refusal at slow turn = (answers.Unborn, refusal, turn)
at_once who (Move proc page zone) answer notes refusal at slow turn = absurd (cc refusal)
at_once who (Pin handle page n want fast) answer notes refusal at slow turn = slow_refused who handle page n want fast answer notes slow refusal at turn
at_once who op answer notes refusal at slow turn = (answer, refusal, turn)

-- as unborn every operation is
unborn_at_once : (op : Op) → IsAtOnce op answers.Unborn
unborn_at_once (Pin handle page n want fast) = tt
unborn_at_once (Move proc page zone) = tt
unborn_at_once op = tt

unborn : (who : Who) (op : Op) (notes : List NoteValue) → IsTrue (refuses op answers.Unborn) → IsTurn who (Done answers.Unborn ∷ []) notes → IsRefused who op notes
unborn who (Pin handle page n want fast) notes refusal turn = pin_unborn who handle page n want fast notes turn
unborn who op notes refusal turn = at_once who op answers.Unborn notes refusal (unborn_at_once op) tt turn

-- a move that is answered late
late_shape : (who : Who) (proc page : ℕ) (zone : Zone) (answer : Answer) (notes : List NoteValue) → IsLate answer → IsThirdTurn who (Done answer ∷ []) notes → Shape who (Move proc page zone) notes
late_shape who proc page zone answers.Plain notes late turns = inl turns
late_shape who proc page zone answers.NoFrame notes late turns = inr (answers.NoFrame, refl, turns)
late_shape who proc page zone (answers.Busy count) notes late turns = inr (answers.Busy count, refl, turns)
late_shape who proc page zone answer notes late turns = absurd late

counted_rest : (who : Who) (op : Op) (page : ℕ) (e : Entry) (count : Counted) (notes : List NoteValue) → (count ≡ unread → ⊥) → RestOfMove who op (moving_page page e count) notes → (answer : Answer) × IsLate answer × IsTurn who (Done answer ∷ []) notes
counted_rest who op page e unread notes read rest = absurd (read refl)
counted_rest who op page e count notes read rest = rest

-- what goes over pages does so as a thread of its own process
over_own : (who : Doer) {op : Op} {page n : ℕ} {event : ℕ → PlainEvent} → GoesOver who.actor (process_of_op who.proc (Some op)) op page n event → GoesOver who.actor who.proc op page n event
over_own who (unmaps page n) = unmaps page n
over_own who (discards page n) = discards page n

refused_rest : (who : Who) (op : Op) (far got head : ℕ) (now : List NoteValue) → far ≡ 0 → got ≡ 0 → IsRefused who op now → RestOf who op far got head unbegun now
refused_rest who (Fork child) far got head now first none refusal =
    absurd (let never = fork_unrefused child refusal.0 in let is : IsTrue (refuses (Fork child) refusal.0) = refusal.1 in cc)
refused_rest who (Move proc page zone) far got head now first none refusal = inr refusal
refused_rest who (Pin handle page n want fast) far got head now first none refusal = first_refused who handle page n want fast far got now first none refusal
refused_rest who op far got head now first none refusal = search (first, refusal, inr)

last_rest : (who : Who) (op : Op) (page n : ℕ) (event : ℕ → PlainEvent) (far : ℕ) (now : List NoteValue) → far + 1 ≡ n → TakesDownLast who (event (page + far)) now → RestOver who op page n event far now
last_rest who op page n event far now last down =
    let one : 1 ≡ n - far = omega arith in
    inl (subst (λ (k : ℕ). TakesDownAll who event (page + far) k now) one down)

-- of so many words one is copied, and none is left of all
word_more : (word left all : ℕ) → word + 1 + left ≡ all → word + suc left ≡ all
word_more word left all sum = omega arith

none_left : (all : ℕ) → all + 0 ≡ all
none_left all = omega arith

-- From after turn t of the actor to before it: what is later is in turns after it. Before the turn a pin of the actor has got so
-- many pages, and so many after it.
module _ (who : Doer) (t : ℕ) (place : Place) (ops : List Op) (later : List NoteValue) (behind : AreBehind t later) (got more head head_after : ℕ) where
  abbrev present : Who
  present = record { actor = who.actor; proc = who.proc; number = place.answered + 1 }

  abbrev now : List What → List NoteValue
  now whats = notes_of_turn t who.actor (place.answered + 1) whats

  abbrev ops_behind : List Op
  ops_behind = drop (place.answered + 1) ops

  -- the turn is before those after it
  now_before : (whats : List What) (notes : List NoteValue) → AreBehind t notes → AreBefore (now whats) notes
  now_before whats notes after = turn_before t who.actor (place.answered + 1) whats notes after

  -- what is before what is after it stays so with the turn in front
  joined : (whats : List What) {notes : List NoteValue} (front rest : List NoteValue) → notes ≡ front ++ rest → now whats ++ notes ≡ (now whats ++ front) ++ rest
  joined whats front rest is = ap (λ (ns : List NoteValue). now whats ++ ns) is ∙ sym (append_assoc (now whats) front rest)

  joined_before : (whats : List What) {notes : List NoteValue} (front rest : List NoteValue) → notes ≡ front ++ rest → AreBehind t notes → AreBefore front rest → AreBefore (now whats ++ front) rest
  joined_before whats front rest is after before =
      before_append (now whats) front rest (now_before whats rest (behind_rest t front rest (subst (AreBehind t) is after))) before

  front_before : (whats : List What) {notes : List NoteValue} (front rest : List NoteValue) → notes ≡ front ++ rest → AreBehind t notes → AreBefore (now whats) front
  front_before whats front rest is after = now_before whats front (behind_front t front rest (subst (AreBehind t) is after))

  -- what is left before the turn: of this operation, and of those after it
  abbrev LeftBefore : Op → JobPlace → List NoteValue → Type 0
  LeftBefore op at notes = Left who.actor who.proc (place.answered + 1) (op ∷ ops_behind) place.far got head at notes

  -- the operation ends with this turn
  ends : (op : Op) (at : JobPlace) (whats : List What) → RestOf present op place.far got head at (now whats) → more ≡ 0 → Left who.actor who.proc (place.answered + 1 + 1) ops_behind 0 more head_after unbegun later → LeftBefore op at (now whats ++ later)
  ends op at whats rest none left = inr (now whats, later, refl, now_before whats later behind, rest, left_shapes who.actor who.proc (place.answered + 1 + 1) ops_behind later head_after (subst (λ (k : ℕ). Left who.actor who.proc (place.answered + 1 + 1) ops_behind 0 k head_after unbegun later) none left))

  -- it takes one page down, and goes on
  goes_over : (op : Op) (page n : ℕ) (event : ℕ → PlainEvent) (whats : List What) (front rest : List NoteValue) → GoesOver who.actor who.proc op page n event → place.far + 1 < n → TakesDown present (event (page + place.far)) (now whats) → later ≡ front ++ rest → AreBefore front rest → RestOver present op page n event (place.far + 1) front → Shapes who.actor who.proc (place.answered + 1 + 1) ops_behind rest → LeftBefore op unbegun (now whats ++ later)
  goes_over op page n event whats front rest over less down is before (inr refusal) shapes = absurd (let e = refusal.0 in omega arith)
  goes_over op page n event whats front rest over less down is before (inl all) shapes =
      let first = page + place.far in
      let left = n - (place.far + 1) in
      let next : page + (place.far + 1) ≡ first + 1 = omega arith in
      let many : suc left ≡ n - place.far = omega arith in
      let there : TakesDownAll present event (first + 1) left front = subst (λ (g : ℕ). TakesDownAll present event g left front) next all in
      let whole : TakesDownAll present event first (n - place.far) (now whats ++ front) = subst (λ (k : ℕ). TakesDownAll present event first k (now whats ++ front)) many (takes_down present event first left (now whats) front (omega arith) (front_before whats front rest is behind) down there) in
      inr (now whats ++ front, rest, joined whats front rest is, joined_before whats front rest is behind before, over_rest present place.far got head unbegun (now whats ++ front) over (inl whole), shapes)

  takes_and_goes : (op : Op) (page n : ℕ) (event : ℕ → PlainEvent) (whats : List What) → GoesOver who.actor who.proc op page n event → place.far + 1 < n → TakesDown present (event (page + place.far)) (now whats) → Left who.actor who.proc (place.answered + 1) (op ∷ ops_behind) (place.far + 1) more head_after unbegun later → LeftBefore op unbegun (now whats ++ later)
  takes_and_goes op page n event whats over less down (inl none) = absurd (let e = none.0 in omega arith)
  takes_and_goes op page n event whats over less down (inr (front, rest, is, before, begun, shapes)) =
      goes_over op page n event whats front rest over less down is before (rest_over present (place.far + 1) more head_after unbegun front over begun) shapes

  -- an exit takes one page more down in front
  exits_on : (page : ℕ) (whats : List What) → IsTurn present (Event (events.Unmap who.actor who.proc page) ∷ []) (now whats) → Left who.actor who.proc (place.answered + 1) (Exit ∷ ops_behind) (place.far + 1) more head_after unbegun later → LeftBefore Exit unbegun (now whats ++ later)
  exits_on page whats down (inl none) = absurd (let e = none.0 in omega arith)
  exits_on page whats down (inr (front, rest, is, before, inr refusal, shapes)) = absurd (let e = refusal.0 in omega arith)
  exits_on page whats down (inr (front, rest, is, before, inl (pages, whole), shapes)) =
      let more : TakesDownWhole present (suc pages) (now whats ++ front) = (page, (now whats, front, refl, front_before whats front rest is behind, down, whole)) in
      inr (now whats ++ front, rest, joined whats front rest is, joined_before whats front rest is behind before, inl (suc pages, more), shapes)

  -- what is before two lists is before each
  before_front : (notes front rest : List NoteValue) → AreBefore notes (front ++ rest) → AreBefore notes front
  before_front [] front rest before = tt
  before_front (note ∷ notes) front rest before = (behind_front note.turn front rest before.0, before_front notes front rest before.1)

  before_rest : (notes front rest : List NoteValue) → AreBefore notes (front ++ rest) → AreBefore notes rest
  before_rest [] front rest before = tt
  before_rest (note ∷ notes) front rest before = (behind_rest note.turn front rest before.0, before_rest notes front rest before.1)

  module _ (handle page n : ℕ) (want : Want) (fast : Bool) where
    abbrev pinned : What
    pinned = Event (events.PinTry who.actor who.proc (page + got) want.write)

    -- what is left of the pin after the turn, and before it
    abbrev PinBehind : JobPlace → List NoteValue → Type 0
    PinBehind at notes = RestOfPin present handle page n want fast (place.far + 1) more head_after at notes

    abbrev PinBefore : JobPlace → List NoteValue → Type 0
    PinBefore at notes = RestOfPin present handle page n want fast place.far got head at notes

    -- it goes on from where it stands to where it stands then
    pin_goes : (at next : JobPlace) (whats : List What) → ((front : List NoteValue) → AreBehind t front → PinBehind next front → PinBefore at (now whats ++ front)) → Left who.actor who.proc (place.answered + 1) (Pin handle page n want fast ∷ ops_behind) (place.far + 1) more head_after next later → LeftBefore (Pin handle page n want fast) at (now whats ++ later)
    pin_goes at next whats on (inl none) = absurd (let e = none.0 in omega arith)
    pin_goes at next whats on (inr (front, rest, is, before, begun, shapes)) =
        inr (now whats ++ front, rest, joined whats front rest is, joined_before whats front rest is behind before, on front (behind_front t front rest (subst (AreBehind t) is behind)) begun, shapes)

    -- with no page more
    moves_page : (at next : JobPlace) (whats : List What) → more ≡ got → ((front : List NoteValue) → AreBehind t front → RestOfPin present handle page n want fast (place.far + 1) got head_after next front → PinBefore at (now whats ++ front)) → Left who.actor who.proc (place.answered + 1) (Pin handle page n want fast ∷ ops_behind) (place.far + 1) more head_after next later → LeftBefore (Pin handle page n want fast) at (now whats ++ later)
    moves_page at next whats same on left =
        pin_goes at next whats (λ front after rest. on front after (subst (λ (k : ℕ). RestOfPin present handle page n want fast (place.far + 1) k head_after next front) same rest)) left

    slow_behind : (front : List NoteValue) → PinBehind unbegun front → SlowRest present handle page n want fast more front
    slow_behind front rest = slow_left present handle page n want fast (place.far + 1) more front (later_slow present handle page n want fast place.far) rest

    -- a pin takes one page more
    pins_on : (whats : List What) (front : List NoteValue) → got + 1 < n → more ≡ got + 1 → IsTurn present (pinned ∷ []) (now whats) → AreBehind t front → SlowRest present handle page n want fast more front → PinsPages present handle page n want got (n - got) (now whats ++ front)
    pins_on whats front less grown first after (inr (answer, refusal, rest)) = absurd (let none = rest.0 in omega (arith, grown, none))
    pins_on whats front less grown first after (inl pins) =
        let left = n - (got + 1) in
        let many : suc left ≡ n - got = omega (arith, less) in
        let there : PinsPages present handle page n want (got + 1) left front = subst (λ (k : ℕ). PinsPages present handle page n want k (n - k) front) grown pins in
        subst (λ (k : ℕ). PinsPages present handle page n want got k (now whats ++ front)) many (pins_more present handle page n want got left (now whats) front (omega (arith, less)) (now_before whats front after) (inl first) there)

    third_more : (left : ℕ) (whats : List What) (front : List NoteValue) → 1 ≤ left → AreBehind t front → IsTurn present (pinned ∷ []) (now whats) → PinsPages present handle page n want (got + 1) left front → PinsThird present handle page n want got (suc left) (now whats ++ front)
    third_more zero whats front some after first pins = absurd (omega (arith, some))
    third_more (suc left) whats front some after first pins = (now whats, front, refl, now_before whats front after, first, pins)

    -- also in the third turn of a page that it moves first
    places_on : (whats : List What) (front : List NoteValue) → got + 1 < n → more ≡ got + 1 → IsTurn present (pinned ∷ []) (now whats) → AreBehind t front → SlowRest present handle page n want fast more front → PinsThird present handle page n want got (n - got) (now whats ++ front)
    places_on whats front less grown first after (inr (answer, refusal, rest)) = absurd (let none = rest.0 in omega (arith, grown, none))
    places_on whats front less grown first after (inl pins) =
        let left = n - (got + 1) in
        let many : suc left ≡ n - got = omega (arith, less) in
        let there : PinsPages present handle page n want (got + 1) left front = subst (λ (k : ℕ). PinsPages present handle page n want k (n - k) front) grown pins in
        subst (λ (k : ℕ). PinsThird present handle page n want got k (now whats ++ front)) many (third_more left whats front (omega (arith, less)) after first there)

    pins_from : (at : JobPlace) → IsSlowTurn fast place.far → TriesAt want at → (whats : List What) → got + 1 < n → more ≡ got + 1 → IsTurn present (pinned ∷ []) (now whats) → Left who.actor who.proc (place.answered + 1) (Pin handle page n want fast ∷ ops_behind) (place.far + 1) more head_after unbegun later → LeftBefore (Pin handle page n want fast) at (now whats ++ later)
    pins_from unbegun slow tries whats less grown first left =
        pin_goes unbegun unbegun whats (λ front after rest. left_slow present handle page n want fast place.far got (now whats ++ front) slow (inl (pins_on whats front less grown first after (slow_behind front rest)))) left
    pins_from (moving_page g e counted_one) slow tries whats less grown first left =
        pin_goes (moving_page g e counted_one) unbegun whats (λ front after rest. inl (places_on whats front less grown first after (slow_behind front rest))) left
    pins_from at slow tries whats less grown first left = absurd tries

    -- the last page
    last_from : (at : JobPlace) → IsSlowTurn fast place.far → TriesAt want at → (notes : List NoteValue) → got + 1 ≡ n → IsTurn present (pinned ∷ Event (events.PinOk who.actor handle) ∷ Done (answers.Pinned n) ∷ []) notes → PinBefore at notes
    last_from unbegun slow tries notes last turn =
        let one : 1 ≡ n - got = omega (arith, last) in
        left_slow present handle page n want fast place.far got notes slow (inl (subst (λ (k : ℕ). PinsPages present handle page n want got k notes) one (inl (inl turn))))
    last_from (moving_page g e counted_one) slow tries notes last turn =
        let one : 1 ≡ n - got = omega (arith, last) in
        inl (subst (λ (k : ℕ). PinsThird present handle page n want got k notes) one turn)
    last_from at slow tries notes last turn = absurd tries

    -- a turn of its walk
    walks_on : {s : PlainState} {sequence : ℕ} {step : WalkStep} {whats : List What} {to : JobPlace} → WalksTo s who page n (pages_got s who.actor) want.write sequence step whats to → (front : List NoteValue) → AreBehind t front → PinRest present handle page n want fast (pages_got (plain_behind s whats) who.actor) (first_pending (plain_behind s whats) who.actor) to front → PinRest present handle page n want fast (pages_got s who.actor) (first_pending s who.actor) (in_walk sequence step) (now whats ++ front)
    walks_on walks front after (inl rest) =
        inl (walk_before who (place.answered + 1) t page n want.write (PinsAll present handle n) (PinsPages present handle page n want) walks front after rest)
    walks_on walks front after (inr (answer, refusal, rest)) =
        inr (answer, refusal, walk_before who (place.answered + 1) t page n want.write (λ rest. ⊥) (RefusesFirst present want answer) walks front after rest)

    -- a page that is refused, of a pin that has others

    refuses_at_once : (cause : Cause) (whats : List What) (notes : List NoteValue) → RefusesAt want unbegun (refusal_by_cause cause) → IsTurn present whats notes → RefusesPage present want (refusal_by_cause cause) whats notes
    refuses_at_once causes.Missing whats notes at turn = turn
    refuses_at_once causes.Forbidden whats notes at turn = turn
    refuses_at_once causes.NoFrame whats notes at turn = inl turn
    refuses_at_once (causes.Unmovable count) whats notes at turn = absurd at

    late_one : (g : ℕ) (e : Entry) (cause : Cause) → RefusesAt want (moving_page g e counted_one) (refusal_by_cause cause) → IsLateCause cause
    late_one g e causes.NoFrame at = tt
    late_one g e (causes.Unmovable count) at = tt
    late_one g e causes.Missing at = at
    late_one g e causes.Forbidden at = at

    late_more : (g : ℕ) (e : Entry) (count : ℕ) (cause : Cause) → RefusesAt want (moving_page g e (counted_more count)) (refusal_by_cause cause) → IsLateCause cause
    late_more g e count causes.NoFrame at = tt
    late_more g e count (causes.Unmovable c) at = tt
    late_more g e count causes.Missing at = at
    late_more g e count causes.Forbidden at = at

    short_from : (at : JobPlace) (cause : Cause) (notes : List NoteValue) → IsSlowTurn fast place.far → 0 < got → got < n → EndsPin want cause → RefusesAt want at (refusal_by_cause cause) → IsTurn present (Event (events.PinOk who.actor handle) ∷ Done (answers.Short got n cause) ∷ []) notes → PinBefore at notes
    short_from unbegun cause notes slow some less end at turn =
        left_slow present handle page n want fast place.far got notes slow
        (inl (pins_short present handle page n want got (n - got) notes (omega (arith, less)) (some, cause, end, refuses_at_once cause (Event (events.PinOk who.actor handle) ∷ Done (answers.Short got n cause) ∷ []) notes at turn)))
    short_from (moving_page g e counted_one) cause notes slow some less end at turn = inr (inl (some, cause, late_one g e cause at, turn))
    short_from (moving_page g e (counted_more count)) cause notes slow some less end at turn = inr (inl (some, cause, late_more g e count cause at, turn))
    short_from (moving_page g e unread) cause notes slow some less end at turn = absurd at
    short_from (from_page g) cause notes slow some less end at turn = absurd at
    short_from (at_page g) cause notes slow some less end at turn = absurd at
    short_from (wants_frame g) cause notes slow some less end at turn = absurd at
    short_from (at_word g word to) cause notes slow some less end at turn = absurd at
    short_from (in_walk sequence step) cause notes slow some less end at turn = absurd at

    -- the two silent turns before the third

    module _ (long : want.long ≡ true) (whats : List What) (silent : IsTurn present (Silent ∷ []) (now whats)) where
      -- with those after them
      third_turn : (thirds : List What) (front second third : List NoteValue) → front ≡ second ++ third → AreBehind t front → AreBefore second third → IsTurn present (Silent ∷ []) second → IsTurn present thirds third → IsThirdTurn present thirds (now whats ++ front)
      third_turn thirds front second third is after before counts turn = (now whats, front, refl, now_before whats front after, silent, (second, third, is, before, counts, turn))

      third_pins : (left : ℕ) (front second third : List NoteValue) → front ≡ second ++ third → AreBehind t front → AreBefore second third → IsTurn present (Silent ∷ []) second → PinsThird present handle page n want got left third → PinsPages present handle page n want got left (now whats ++ front)
      third_pins zero front second third is after before counts pins = absurd pins
      third_pins (suc zero) front second third is after before counts turn =
          inl (inr (long, third_turn (pinned ∷ Event (events.PinOk who.actor handle) ∷ Done (answers.Pinned n) ∷ []) front second third is after before counts turn))
      third_pins (suc (suc left)) front second third is after before counts (places, rest, of, apart, turn, pins) =
          let whole : front ≡ (second ++ places) ++ rest = is ∙ ap (λ (ns : List NoteValue). second ++ ns) of ∙ sym (append_assoc second places rest) in
          let all : AreBefore second (places ++ rest) = subst (AreBefore second) of before in
          let here : AreBehind t (second ++ places) = behind_front t (second ++ places) rest (subst (AreBehind t) whole after) in
          inl (
            now whats ++ (second ++ places),
            rest,
            joined whats (second ++ places) rest whole,
            joined_before whats (second ++ places) rest whole after (before_append second places rest (before_rest second places rest all) apart),
            inr (long, third_turn (pinned ∷ []) (second ++ places) second places refl here (before_front second places rest all) counts turn),
            pins,
          )

      third_short : (cause : Cause) (notes : List NoteValue) → 0 < got → IsLateCause cause → IsThirdTurn present (Event (events.PinOk who.actor handle) ∷ Done (answers.Short got n cause) ∷ []) notes → EndsShort present handle n want got notes
      third_short causes.NoFrame notes some late turns = (some, causes.NoFrame, tt, inr (long, turns))
      third_short (causes.Unmovable count) notes some late turns = (some, causes.Unmovable count, long, (long, turns))
      third_short causes.Missing notes some late turns = absurd late
      third_short causes.Forbidden notes some late turns = absurd late

      third_refused : (answer : Answer) (notes : List NoteValue) → IsLateRefusal answer → IsThirdTurn present (Done answer ∷ []) notes → RefusesSlowly handle page n want fast answer × RefusesPage present want answer (Done answer ∷ []) notes
      third_refused answers.NoFrame notes late turns = ((refl, λ walks unborn. absurd (cc unborn)), inr (long, turns))
      third_refused (answers.Unmovable count) notes late turns = ((long, λ walks unborn. absurd (cc unborn)), (long, turns))
      third_refused answer notes late turns = absurd late

      cleared_before : got < n → (front : List NoteValue) → AreBehind t front → Then (IsTurn present (Silent ∷ [])) (LeftThird present handle page n want got) front → SlowRest present handle page n want fast got (now whats ++ front)
      cleared_before less front after (second, third, is, before, counts, inl pins) = inl (third_pins (n - got) front second third is after before counts pins)
      cleared_before less front after (second, third, is, before, counts, inr (inl (some, cause, late, turn))) =
          inl (pins_short present handle page n want got (n - got) (now whats ++ front) (omega (arith, less)) (third_short cause (now whats ++ front) some late (third_turn (Event (events.PinOk who.actor handle) ∷ Done (answers.Short got n cause) ∷ []) front second third is after before counts turn)))
      cleared_before less front after (second, third, is, before, counts, inr (inr (none, answer, late, turn))) =
          let refuses_it = third_refused answer (now whats ++ front) late (third_turn (Done answer ∷ []) front second third is after before counts turn) in
          inr (answer, refuses_it.0, (none, refuses_it.1))

    -- a count that was read
    counted_left : (g : ℕ) (e : Entry) (count : Counted) (far first : ℕ) (notes : List NoteValue) → (count ≡ unread → ⊥) → RestOfPin present handle page n want fast far got first (moving_page g e count) notes → LeftThird present handle page n want got notes
    counted_left g e unread far first notes read rest = absurd (read refl)
    counted_left g e counted_one far first notes read rest = rest
    counted_left g e (counted_more count) far first notes read rest = rest

  -- an unpin gives back one page more in front
  unpins_on : (handle : ℕ) (whats : List What) → IsTurn present (Silent ∷ []) (now whats) → Left who.actor who.proc (place.answered + 1) (Unpin handle ∷ ops_behind) (place.far + 1) more head_after unbegun later → LeftBefore (Unpin handle) unbegun (now whats ++ later)
  unpins_on handle whats silent (inl none) = absurd (let e = none.0 in omega arith)
  unpins_on handle whats silent (inr (front, rest, is, before, inr refusal, shapes)) = absurd (let e = refusal.0 in omega arith)
  unpins_on handle whats silent (inr (front, rest, is, before, inl (left, unpins), shapes)) =
      let whole : Unpins present handle (suc left) (now whats ++ front) = (now whats, front, refl, front_before whats front rest is behind, silent, unpins) in
      inr (now whats ++ front, rest, joined whats front rest is, joined_before whats front rest is behind before, inl (suc left, whole), shapes)

  -- a transfer moves one word more in front
  moves_on : (handle : ℕ) (outward : Bool) (slot : ℕ) (parts : List Part) (value : ℕ) (whats : List What) → place.far + 1 < words_of parts → IsTurn present (Event (moves_word who.actor handle outward (word_at parts place.far) (slot + place.far) value) ∷ []) (now whats) → Left who.actor who.proc (place.answered + 1) (Transfer handle outward slot parts ∷ ops_behind) (place.far + 1) more head_after unbegun later → LeftBefore (Transfer handle outward slot parts) unbegun (now whats ++ later)
  moves_on handle outward slot parts value whats less first (inl none) = absurd (let e = none.0 in omega arith)
  moves_on handle outward slot parts value whats less first (inr (front, rest, is, before, inr refusal, shapes)) = absurd (let e = refusal.0 in omega arith)
  moves_on handle outward slot parts value whats less first (inr (front, rest, is, before, inl all, shapes)) =
      let left = words_of parts - (place.far + 1) in
      let many : suc left ≡ words_of parts - place.far = omega arith in
      let whole : MovesWords present handle outward slot parts place.far (words_of parts - place.far) (now whats ++ front) =
      subst (λ (k : ℕ). MovesWords present handle outward slot parts place.far k (now whats ++ front)) many (moves_more present handle outward slot parts place.far value left (now whats) front (omega arith) (front_before whats front rest is behind) first all) in
      inr (now whats ++ front, rest, joined whats front rest is, joined_before whats front rest is behind before, inl whole, shapes)

  -- a fork goes on from where it stands to where it stands then
  forks_on : (child : ℕ) (at next : JobPlace) (whats : List What) → ((front : List NoteValue) → AreBehind t front → RestOfFork present child next front → RestOfFork present child at (now whats ++ front)) → Left who.actor who.proc (place.answered + 1) (Fork child ∷ ops_behind) (place.far + 1) more head_after next later → LeftBefore (Fork child) at (now whats ++ later)
  forks_on child at next whats on (inl none) = absurd (let e = none.0 in omega arith)
  forks_on child at next whats on (inr (front, rest, is, before, begun, shapes)) =
      inr (now whats ++ front, rest, joined whats front rest is, joined_before whats front rest is behind before, on front (behind_front t front rest (subst (AreBehind t) is behind)) begun, shapes)

  -- the silent turn that counts a page is before its share, or of the failure
  counted_before : (child first page : ℕ) (whats : List What) → IsTurn present (Silent ∷ []) (now whats) → first ≤ page → (front : List NoteValue) → AreBehind t front → RestOfFork present child (at_page page) front → RestOfFork present child (from_page first) (now whats ++ front)
  counted_before child first page whats silent up front after (inl (pages, (share, rest, is, before, shares, all))) =
      (suc pages, (page, up, (now whats ++ share, rest, joined whats share rest is, joined_before whats share rest is after before, inr (now whats, share, refl, front_before whats share rest is after, silent, inl shares), all)))
  counted_before child first page whats silent up front after (inr fails) = (zero, inr (now whats, front, refl, now_before whats front after, silent, fails))

  -- the silent turn that counts a page is before its copy, or of the failure
  counted_copy_before : (child first page : ℕ) (whats : List What) → IsTurn present (Silent ∷ []) (now whats) → first ≤ page → (front : List NoteValue) → AreBehind t front → RestOfFork present child (wants_frame page) front → RestOfFork present child (from_page first) (now whats ++ front)
  counted_copy_before child first page whats silent up front after (inl (pages, (copy, rest, is, before, copies, all))) =
      (suc pages, (page, up, (now whats ++ copy, rest, joined whats copy rest is, joined_before whats copy rest is after before, inr (now whats, copy, refl, front_before whats copy rest is after, silent, inr copies), all)))
  counted_copy_before child first page whats silent up front after (inr fails) = (zero, inr (now whats, front, refl, now_before whats front after, silent, fails))

  -- the one that takes a frame is before all words
  took_before : (child page to : ℕ) (whats : List What) → IsTurn present (Silent ∷ []) (now whats) → (front : List NoteValue) → AreBehind t front → RestOfFork present child (at_word page 0 to) front → RestOfFork present child (wants_frame page) (now whats ++ front)
  took_before child page to whats silent front after (pages, (copy, rest, is, before, copies, all)) =
      inl (pages, (now whats ++ copy, rest, joined whats copy rest is, joined_before whats copy rest is after before, (now whats, copy, refl, front_before whats copy rest is after, silent, copies), all))

  -- a word is before those that are left
  copied_before : (child page word to : ℕ) (whats : List What) → IsTurn present (Event (events.ForkWord who.proc child page word) ∷ []) (now whats) → (front : List NoteValue) → AreBehind t front → RestOfFork present child (at_word page (word + 1) to) front → RestOfFork present child (at_word page word to) (now whats ++ front)
  copied_before child page word to whats first front after (pages, (copy, rest, is, before, (left, sum, copies), all)) =
      let whole : word + suc left ≡ words = word_more word left words sum in
      (pages, (now whats ++ copy, rest, joined whats copy rest is, joined_before whats copy rest is after before, (suc left, whole, (now whats, copy, refl, front_before whats copy rest is after, first, copies)), all))

  -- where none is left, the turn that places the copy ends the page
  placed_before : (child page to : ℕ) (whats : List What) → IsTurn present (Silent ∷ []) (now whats) → (front : List NoteValue) → AreBehind t front → RestOfFork present child (from_page (page + 1)) front → RestOfFork present child (at_word page words to) (now whats ++ front)
  placed_before child page to whats silent front after (pages, all) = (pages, (now whats, front, refl, now_before whats front after, (zero, none_left words, silent), all))

  -- a move goes on from where it stands to where it stands then
  moves_from : (proc page : ℕ) (zone : Zone) (at next : JobPlace) (whats : List What) → ((front : List NoteValue) → AreBehind t front → RestOfMove present (Move proc page zone) next front → RestOfMove present (Move proc page zone) at (now whats ++ front)) → Left who.actor who.proc (place.answered + 1) (Move proc page zone ∷ ops_behind) (place.far + 1) more head_after next later → LeftBefore (Move proc page zone) at (now whats ++ later)
  moves_from proc page zone at next whats on (inl none) = absurd (let e = none.0 in omega arith)
  moves_from proc page zone at next whats on (inr (front, rest, is, before, begun, shapes)) =
      inr (now whats ++ front, rest, joined whats front rest is, joined_before whats front rest is behind before, on front (behind_front t front rest (subst (AreBehind t) is behind)) begun, shapes)

  op_left : {s : PlainState} {references : References} (op : Op) {from to : JobPlace} (whats : List What) → TurnOf s references (concerned who (Some op)) place op from whats to → drop place.answered ops ≡ op ∷ ops_behind → pages_got s who.actor ≡ got → pages_got (plain_behind s whats) who.actor ≡ more → first_pending s who.actor ≡ head → first_pending (plain_behind s whats) who.actor ≡ head_after → (place.far ≡ 0 → got ≡ 0) → ((place_behind place whats).far ≡ 0 → more ≡ 0) → LeftAt who.actor who.proc ops (place_behind place whats) more head_after to later → LeftBefore op from (now whats ++ later)
  op_left op whats (refused o answer first refusal once slow right passes) is has grows starts follows fresh none left = ends op unbegun whats (refused_rest present op place.far got head (now whats) first.0 (fresh first.0) (at_once present op answer (now whats) refusal once slow (t, refl))) (none refl) left
  op_left op whats (loaded page word value first free) is has grows starts follows fresh none left = ends op unbegun whats (inl (value, (t, refl))) (none refl) left
  op_left op whats (took o page n event over less) is has grows starts follows fresh none left =
      takes_and_goes op page n event whats (over_own who over) less (inl (t, refl)) (subst (λ (os : List Op). Left who.actor who.proc (place.answered + 1) os (place.far + 1) more head_after unbegun later) is left)
  op_left op whats (passed o page n event over less unnamed) is has grows starts follows fresh none left =
      takes_and_goes op page n event whats (over_own who over) less (inr (t, refl)) (subst (λ (os : List Op). Left who.actor who.proc (place.answered + 1) os (place.far + 1) more head_after unbegun later) is left)
  op_left op whats (took_last o page n event over last) is has grows starts follows fresh none left =
      ends op unbegun whats (over_rest present place.far got head unbegun (now whats) (over_own who over) (last_rest present op page n event place.far (now whats) last (inl (t, refl)))) (none refl) left
  op_left op whats (passed_last o page n event over last unnamed) is has grows starts follows fresh none left =
      ends op unbegun whats (over_rest present place.far got head unbegun (now whats) (over_own who over) (last_rest present op page n event place.far (now whats) last (inr (t, refl)))) (none refl) left
  op_left op whats (took_lowest page unnamed) is has grows starts follows fresh none left =
      exits_on page whats (t, refl) (subst (λ (os : List Op). Left who.actor who.proc (place.answered + 1) os (place.far + 1) more head_after unbegun later) is left)
  op_left op whats (took_all unnamed) is has grows starts follows fresh none left = ends op unbegun whats (inl (zero, (t, refl))) (none refl) left
  op_left op whats (cleared_page handle page n want fast g e long slow first less room) is has grows starts follows fresh none left =
      moves_page handle page n want fast unbegun (moving_page g e unread) whats (sym grows ∙ has)
      (λ front after h. left_slow present handle page n want fast place.far got (now whats ++ front) slow (cleared_before handle page n want fast long whats (t, refl) (subst (λ (k : ℕ). k < n) has less) front after h))
      (subst (λ (os : List Op). Left who.actor who.proc (place.answered + 1) os (place.far + 1) more head_after (moving_page g e unread) later) is left)
  op_left op whats (counted_cleared handle page n want fast g e count read long begun less room) is has grows starts follows fresh none left =
      moves_page handle page n want fast (moving_page g e unread) (moving_page g e count) whats (sym grows ∙ has)
      (λ front after h. (now whats, front, refl, now_before whats front after, (t, refl), counted_left handle page n want fast g e count (place.far + 1) head_after front read h))
      (subst (λ (os : List Op). Left who.actor who.proc (place.answered + 1) os (place.far + 1) more head_after (moving_page g e count) later) is left)
  op_left op whats (lacked_frame handle page n want fast g e long begun no_page free) is has grows starts follows fresh none left =
      ends op (moving_page g e counted_one) whats (inr (inr (sym has ∙ no_page, answers.NoFrame, tt, (t, refl)))) (none refl) left
  op_left op whats (found_unmovable handle page n want fast g e count long begun no_page free) is has grows starts follows fresh none left =
      ends op (moving_page g e (counted_more count)) whats (inr (inr (sym has ∙ no_page, answers.Unmovable count, tt, (t, refl)))) (none refl) left
  op_left {s = s} op whats (pinned_page handle page n want fast at slow tries less room free) is has grows starts follows fresh none left =
      pins_from handle page n want fast at slow tries whats (subst (λ (k : ℕ). k + 1 < n) has less)
      (sym grows ∙ one_pending s who.actor who.proc (page + pages_got s who.actor) want.write ∙ ap (λ (k : ℕ). k + 1) has)
      (t, ap (λ (k : ℕ). now (Event (events.PinTry who.actor who.proc (page + k) want.write) ∷ [])) has)
      (subst (λ (os : List Op). Left who.actor who.proc (place.answered + 1) os (place.far + 1) more head_after unbegun later) is left)
  op_left op whats (pinned_all handle page n want fast at slow tries last free) is has grows starts follows fresh none left =
      ends op at whats (last_from handle page n want fast at slow tries (now whats) (ap (λ (k : ℕ). k + 1) (sym has) ∙ last)
      (t, ap (λ (k : ℕ). now (Event (events.PinTry who.actor who.proc (page + k) want.write) ∷ Event (events.PinOk who.actor handle) ∷ Done (answers.Pinned n) ∷ [])) has)) (none refl) left
  op_left op whats (pinned_short handle page n want fast k cause at had same some less end refuses right) is has grows starts follows fresh none left =
      let now_got : k ≡ got = sym same ∙ has in
      ends op at whats (short_from handle page n want fast at cause (now whats) (begun_slow present handle page n want fast place.far got fresh (subst (λ (j : ℕ). 0 < j) now_got some)) (subst (λ (j : ℕ). 0 < j) now_got some) (subst (λ (j : ℕ). j < n) now_got less) end refuses
      (t, ap (λ (j : ℕ). now (Event (events.PinOk who.actor handle) ∷ Done (answers.Short j n cause) ∷ [])) now_got)) (none refl) left
  op_left op whats (began_walk handle page n want first room) is has grows starts follows fresh none left =
      pin_goes handle page n want true unbegun (in_walk 0 entered) whats
      (λ front after rest. shape_left present handle page n want place.far got (now whats ++ front) first.0
      (walk_shape present handle page n want more head_after (now whats ++ front) (sym grows ∙ has ∙ fresh first.0) (now whats, front, refl, now_before whats front after, (t, refl), rest)))
      (subst (λ (os : List Op). Left who.actor who.proc (place.answered + 1) os (place.far + 1) more head_after (in_walk 0 entered) later) is left)
  op_left {s = s} op whats (walked handle page n want sequence step said to walks room free) is has grows starts follows fresh none left =
      pin_goes handle page n want true (in_walk sequence step) to said
      (λ front after rest.
      let there : PinRest present handle page n want true (pages_got (plain_behind s said) who.actor) (first_pending (plain_behind s said) who.actor) to front =
      subst (λ (k : ℕ). PinRest present handle page n want true k (first_pending (plain_behind s said) who.actor) to front) (sym grows)
      (subst (λ (k : ℕ). PinRest present handle page n want true more k to front) (sym follows) (walk_left present handle page n want place.far more head_after to front (walk_place present handle page n want walks) rest)) in
      subst (λ (k : ℕ). PinRest present handle page n want true got k (in_walk sequence step) (now said ++ front)) starts
      (subst (λ (k : ℕ). PinRest present handle page n want true k (first_pending s who.actor) (in_walk sequence step) (now said ++ front)) has (walks_on handle page n want true walks front after there)))
      (let behinds = walk_behind place walks in
      subst (λ (os : List Op). Left who.actor who.proc (place.answered + 1) os (place.far + 1) more head_after to later) is
      (subst₂ (λ (k f : ℕ). Left who.actor who.proc (k + 1) (drop k ops) f more head_after to later) behinds.0 behinds.1 left))
  op_left op whats (kept_all handle page n want sequence all had) is has grows starts follows fresh none left =
      ends op (in_walk sequence ready) whats
      (inl (all_kept present page n want.write (PinsAll present handle n) (PinsPages present handle page n want) got (now whats) (sym has ∙ all) (inl (t, refl)))) (none refl) left
  op_left op whats (refused_slowly handle page n want answer begun no_page refusal living once right) is has grows starts follows fresh none left =
      ends op unbegun whats
      (left_slow present handle page n want true place.far got (now whats) begun
      (inr (answer, (refusal, λ walks. living), (sym has ∙ no_page, page_refused present handle page n want true answer (Done answer ∷ []) (now whats) refusal once (t, refl))))) (none refl) left
  op_left op whats (looked mirror word value first) is has grows starts follows fresh none left = ends op unbegun whats (inl (value, (t, refl))) (none refl) left
  op_left op whats (unpinned_page handle free less) is has grows starts follows fresh none left =
      unpins_on handle whats (t, refl) (subst (λ (os : List Op). Left who.actor who.proc (place.answered + 1) os (place.far + 1) more head_after unbegun later) is left)
  op_left op whats (unpinned_last handle silent free last) is has grows starts follows fresh none left = ends op unbegun whats (inl (zero, (t, refl))) (none refl) left
  op_left op whats (moved_word handle outward slot parts value less free) is has grows starts follows fresh none left =
      moves_on handle outward slot parts value whats less (t, refl) (subst (λ (os : List Op). Left who.actor who.proc (place.answered + 1) os (place.far + 1) more head_after unbegun later) is left)
  op_left op whats (moved_last handle outward slot parts value last free) is has grows starts follows fresh none left =
      let one : 1 ≡ words_of parts - place.far = omega arith in
      ends op unbegun whats (inl (subst (λ (k : ℕ). MovesWords present handle outward slot parts place.far k (now whats)) one (value, (t, refl)))) (none refl) left
  op_left op whats (cleared_entry proc page zone e first) is has grows starts follows fresh none left =
      moves_from proc page zone unbegun (moving_page page e unread) whats
      (λ front after h. late_shape present proc page zone h.0 (now whats ++ front) h.1 (now whats, front, refl, now_before whats front after, (t, refl), h.2))
      (subst (λ (os : List Op). Left who.actor who.proc (place.answered + 1) os (place.far + 1) more head_after (moving_page page e unread) later) is left)
  op_left op whats (counted_frame proc page zone e count read begun) is has grows starts follows fresh none left =
      moves_from proc page zone (moving_page page e unread) (moving_page page e count) whats
      (λ front after h. let rest = counted_rest present (Move proc page zone) page e count front read h in (rest.0, rest.1, (now whats, front, refl, now_before whats front after, (t, refl), rest.2)))
      (subst (λ (os : List Op). Left who.actor who.proc (place.answered + 1) os (place.far + 1) more head_after (moving_page page e count) later) is left)
  op_left op whats (placed_frame proc page zone e begun free) is has grows starts follows fresh none left = ends op (moving_page page e counted_one) whats (answers.Plain, tt, (t, refl)) (none refl) left
  op_left op whats (found_no_frame proc page zone e begun free) is has grows starts follows fresh none left = ends op (moving_page page e counted_one) whats (answers.NoFrame, tt, (t, refl)) (none refl) left
  op_left op whats (found_busy proc page zone e count begun free) is has grows starts follows fresh none left = ends op (moving_page page e (counted_more count)) whats (answers.Busy count, tt, (t, refl)) (none refl) left
  op_left op whats (began child first) is has grows starts follows fresh none left =
      forks_on child unbegun (from_page 0) whats (λ front after h. inl (h.0, (now whats, front, refl, now_before whats front after, (t, refl), h.1))) (subst (λ (os : List Op). Left who.actor who.proc (place.answered + 1) os (place.far + 1) more head_after (from_page 0) later) is left)
  op_left op whats (passed_page child first page begun up) is has grows starts follows fresh none left =
      forks_on child (from_page first) (from_page (page + 1)) whats (λ front after h. (suc h.0, (page, up, (now whats, front, refl, now_before whats front after, inl (t, refl), h.1)))) (subst (λ (os : List Op). Left who.actor who.proc (place.answered + 1) os (place.far + 1) more head_after (from_page (page + 1)) later) is left)
  op_left op whats (counted_page child first page begun up) is has grows starts follows fresh none left =
      forks_on child (from_page first) (at_page page) whats (counted_before child first page whats (t, refl) up) (subst (λ (os : List Op). Left who.actor who.proc (place.answered + 1) os (place.far + 1) more head_after (at_page page) later) is left)
  op_left op whats (shared_page child page begun) is has grows starts follows fresh none left =
      forks_on child (at_page page) (from_page (page + 1)) whats (λ front after h. inl (h.0, (now whats, front, refl, now_before whats front after, (t, refl), h.1))) (subst (λ (os : List Op). Left who.actor who.proc (place.answered + 1) os (place.far + 1) more head_after (from_page (page + 1)) later) is left)
  op_left op whats (failed_share child page begun) is has grows starts follows fresh none left = ends op (at_page page) whats (inr (t, refl)) (none refl) left
  op_left op whats (ended child first begun) is has grows starts follows fresh none left = ends op (from_page first) whats (zero, inl (t, refl)) (none refl) left
  op_left op whats (counted_copy child first page begun up) is has grows starts follows fresh none left =
      forks_on child (from_page first) (wants_frame page) whats (counted_copy_before child first page whats (t, refl) up) (subst (λ (os : List Op). Left who.actor who.proc (place.answered + 1) os (place.far + 1) more head_after (wants_frame page) later) is left)
  op_left op whats (took_frame child page to begun) is has grows starts follows fresh none left =
      forks_on child (wants_frame page) (at_word page 0 to) whats (took_before child page to whats (t, refl)) (subst (λ (os : List Op). Left who.actor who.proc (place.answered + 1) os (place.far + 1) more head_after (at_word page 0 to) later) is left)
  op_left op whats (copied_word child page word to begun less) is has grows starts follows fresh none left =
      forks_on child (at_word page word to) (at_word page (word + 1) to) whats (copied_before child page word to whats (t, refl)) (subst (λ (os : List Op). Left who.actor who.proc (place.answered + 1) os (place.far + 1) more head_after (at_word page (word + 1) to) later) is left)
  op_left op whats (placed_copy child page to begun) is has grows starts follows fresh none left =
      forks_on child (at_word page words to) (from_page (page + 1)) whats (placed_before child page to whats (t, refl)) (subst (λ (os : List Op). Left who.actor who.proc (place.answered + 1) os (place.far + 1) more head_after (from_page (page + 1)) later) is left)
  op_left op whats (failed_fork child page begun) is has grows starts follows fresh none left = ends op (wants_frame page) whats (inr (t, refl)) (none refl) left
  op_left op whats turn is has grows starts follows fresh none left = ends op unbegun whats (inl (t, refl)) (none refl) left

  -- a turn without notes of an operation
  same_left : (at : JobPlace) (what : What) → is_of_operation what ≡ false → LeftAt who.actor who.proc ops place got head at later → LeftAt who.actor who.proc ops place got head at (own_notes who.actor (now (what ∷ [])) ++ later)
  same_left at what other left = subst (λ (ns : List NoteValue). LeftAt who.actor who.proc ops place got head at (ns ++ later)) (sym (own_idle who.actor t (place.answered + 1) what other)) left

  -- one of the operation at which it stands
  own_left : (op : Op) (at : JobPlace) (whats : List What) → slice_get ops place.answered ≡ Some op → Moves whats → LeftBefore op at (now whats ++ later) → LeftAt who.actor who.proc ops place got head at (own_notes who.actor (now whats) ++ later)
  own_left op at whats is moves here =
      subst (λ (ns : List NoteValue). LeftAt who.actor who.proc ops place got head at (ns ++ later)) (sym (own_same who.actor t (place.answered + 1) whats moves.2))
      (subst (λ (os : List Op). Left who.actor who.proc (place.answered + 1) os place.far got head at (now whats ++ later)) (sym (ops_split ops place.answered op is)) here)

  -- any turn of the actor's
  pub turn_left : {s : PlainState} {references : References} {op : Option Op} {waiting : Option Waiting} {from to : JobPlace} {whats : List What} → TurnAt s references (concerned who op) place op waiting from whats to → slice_get ops place.answered ≡ op → pages_got s who.actor ≡ got → pages_got (plain_behind s whats) who.actor ≡ more → first_pending s who.actor ≡ head → first_pending (plain_behind s whats) who.actor ≡ head_after → (place.far ≡ 0 → got ≡ 0) → ((place_behind place whats).far ≡ 0 → more ≡ 0) → LeftAt who.actor who.proc ops (place_behind place whats) more head_after to later → LeftAt who.actor who.proc ops place got head from (own_notes who.actor (now whats) ++ later)
  turn_left (idles waiting at) is has grows starts follows fresh none left = same_left at Idle refl (subst₂ (λ (k h : ℕ). LeftAt who.actor who.proc ops place k h at later) (sym grows ∙ has) (sym follows ∙ starts) left)
  turn_left (waits op waiting at) is has grows starts follows fresh none left = same_left at (Wait waiting) refl (subst₂ (λ (k h : ℕ). LeftAt who.actor who.proc ops place k h at later) (sym grows ∙ has) (sym follows ∙ starts) left)
  turn_left (goes op whats from to birth own turn) is has grows starts follows fresh none left =
      own_left op from whats is (op_moves turn) (op_left op whats turn (ops_split ops place.answered op is) has grows starts follows fresh none left)
  turn_left (unborn_refused op birth first refusal) is has grows starts follows fresh none left =
      let whats : List What = Done answers.Unborn ∷ [] in
      own_left op unbegun whats is refusal_moves (ends op unbegun whats (refused_rest present op place.far got head (now whats) first.0 (fresh first.0) (unborn present op (now whats) refusal (t, refl))) (none refl) left)
  turn_left (unborn_fork child birth fails first) is has grows starts follows fresh none left =
      let whats : List What = Event (events.ForkFail child) ∷ Done answers.Unborn ∷ [] in
      own_left (Fork child) unbegun whats is (failure_moves child) (ends (Fork child) unbegun whats (inr (t, refl)) (none refl) left)

-- a turn of another actor changes nothing
pub other_left : (a p b t n : ℕ) (place : Place) (got head : ℕ) (at : JobPlace) (ops : List Op) (whats : List What) (later : List NoteValue) → (b == a) ≡ false → LeftAt a p ops place got head at later → LeftAt a p ops place got head at (own_notes a (notes_of_turn t b n whats) ++ later)
other_left a p b t n place got head at ops whats later e left = subst (λ (ns : List NoteValue). LeftAt a p ops place got head at (ns ++ later)) (sym (own_other a t b n whats e)) left
