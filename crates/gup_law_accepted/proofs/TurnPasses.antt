-- The notes of one turn pass no page that was named all the time, by the turn's shape and how far its actor had come.
use Rattle.std.proofs.Common.{◌≡◌, ℕ, ◌+◌, ◌≤◌, ◌<◌, ◌||◌, ◌⊎◌, inl, inr, Bool, true, false, IsTrue, List, [], ◌∷◌, Option, Some, None, is_none, slice_get, refl, sym, ap, ◌∙◌, subst, arith, eq-or-lt_of_le}
use Rattle.gup_base.specs.Parts.{word_at}
use Rattle.gup_base.specs.declared.entry.Rights.{Rights}
use Rattle.gup_base.specs.declared.entry.Want.{Want}
use Rattle.gup_plain.specs.Event.{happened}
use Rattle.gup_plain.specs.State.{PlainState, Birth, born}
use Rattle.gup_plain.specs.declared.answer.Answer.{Answer}
use Rattle.gup_plain.specs.declared.answer.Answer.TheVariants as answers
use Rattle.gup_plain.specs.declared.event.PlainEvent.{PlainEvent}
use Rattle.gup_plain.specs.declared.event.PlainEvent.TheVariants as events
use Rattle.gup_plain.specs.declared.note.What.{What}
use Rattle.gup_plain.specs.declared.note.What.TheVariants.{Silent, Idle, Wait, Event, Done}
use Rattle.gup_plain.specs.declared.note.Waiting.{Waiting}
use Rattle.gup_script.specs.declared.op.Op.{Op}
use Rattle.gup_script.specs.declared.op.Op.TheVariants.{Unmap, Discard, Pin, Fork, Exit}
use Rattle.gup_spec_events.specs.State.{WalkStep}
use Rattle.gup_spec_journal.specs.Denial.{References}
use Rattle.gup_spec_journal.specs.Follows.{refuses, moves_word}
use Rattle.gup_spec_journal.specs.Place.{Place, Doer, place_after, place_behind, process_of_op}
use Rattle.gup_spec_journal.specs.Plain.{plain_after, pages_got}
use Rattle.gup_spec_accepted.specs.Passing.{lacks_name, is_unnamed, Going, first_page, page_at, ArePassed, Comes, PassesRight, anew, added, next_behind, own_after}
use Rattle.gup_spec_turns.specs.JobPlace.{JobPlace}
use Rattle.gup_law_turns.proofs.TurnShapes.{TurnOf, TurnAt, WalksTo, GoesOver, mapped, protected, loaded, filled_slot, looked, stored, gave, took_over, got_one, put_back, lacked_frame, found_unmovable, pinned_page, kept_all, unpinned_last, placed_frame, found_no_frame, found_busy, unmaps, discards, IsOfProcess, idles, waits, goes, unborn_refused, unborn_fork, refused, took, took_last, passed, passed_last, took_lowest, took_all, pinned_all, pinned_short, walked, refused_slowly, moved_word, moved_last, took_page, dropped_page, dropped_first, dropped_last, began, passed_page, shared_page, ended, copied_word, failed_fork, failed_share}

-- The notes of one turn of an actor with these operations, of process p, one after another.
abbrev pub PassOwn : List Op → (p : ℕ) → PlainState → Place → Going → List What → Type 0
PassOwn ops p s place g [] = Unit {0}
PassOwn ops p s place g (what ∷ whats) =
    PassesRight s g p (slice_get ops place.answered) what
    × PassOwn ops p (plain_after s what) (place_after place what)
    (own_after (plain_after s what) p g (slice_get ops (place_after place what).answered) what) whats

-- how far the actor has come behind them
abbrev pub own_behind : List Op → (p : ℕ) → PlainState → Place → Going → List What → Going
own_behind ops p s place g [] = g
own_behind ops p s place g (what ∷ whats) =
    own_behind ops p (plain_after s what) (place_after place what)
    (own_after (plain_after s what) p g (slice_get ops (place_after place what).answered) what) whats

-- so far an unmap or a discard may have come without an event: what it has passed was unnamed since
abbrev pub Over : Option Op → (far : ℕ) → Going → Type 0
Over (Some (Unmap page n)) far g = ArePassed g.unnamed g.next (page + far)
Over (Some (Discard page n)) far g = ArePassed g.unnamed g.next (page + far)
Over op far g = Unit {0}

abbrev pub Goes : List Op → (p : ℕ) → PlainState → Place → Going → List What → Type 0
Goes ops p s place g whats =
    PassOwn ops p s place g whats
    × Over (slice_get ops (place_behind place whats).answered) (place_behind place whats).far (own_behind ops p s place g whats)

-- at the first turn of an operation there is nothing to have passed
pub over_first : (s : PlainState) (p : ℕ) (op : Option Op) → Over op 0 (anew s p (first_page op))
over_first s p (Some (Unmap page n)) = λ h least less. absurd (omega (arith, least, less))
over_first s p (Some (Discard page n)) = λ h least less. absurd (omega (arith, least, less))
over_first s p op = tt

-- what is passed stays so
pub passed_grows : (f g : ℕ → Bool) (from below : ℕ) → ((page : ℕ) → f page ≡ true → g page ≡ true) → ArePassed f from below → ArePassed g from below
passed_grows f g from below grows are = λ page least less. grows page (are page least less)

pub or_left : (a b : Bool) → a ≡ true → (a || b) ≡ true
or_left true b is = refl
or_left false b is = absurd (cc is)

pub or_right : (a b : Bool) → b ≡ true → (a || b) ≡ true
or_right true b is = refl
or_right false b is = is

pub over_grows : (op : Option Op) (far : ℕ) (g h : Going) → h.next ≡ g.next → ((page : ℕ) → g.unnamed page ≡ true → h.unnamed page ≡ true) → Over op far g → Over op far h
over_grows (Some (Unmap page n)) far g h same grows over = subst (λ (from : ℕ). ArePassed h.unnamed from (page + far)) (sym same) (passed_grows g.unnamed h.unnamed g.next (page + far) grows over)
over_grows (Some (Discard page n)) far g h same grows over = subst (λ (from : ℕ). ArePassed h.unnamed from (page + far)) (sym same) (passed_grows g.unnamed h.unnamed g.next (page + far) grows over)
over_grows op far g h same grows over = tt

pub over_added : (s : PlainState) (p : ℕ) (op : Option Op) (far : ℕ) (g : Going) → Over op far g → Over op far (added s p g)
over_added s p op far g over = over_grows op far g (added s p g) refl (λ page was. or_left (g.unnamed page) (is_unnamed s p page) was) over

-- one page more
unnamed_at : (birth : Birth) (right : Option Rights) → birth ≡ born → right ≡ None → lacks_name birth right ≡ true
unnamed_at birth right is none = rw (is, none) refl

-- the pages that are unnamed now are known
abbrev pub Knows : PlainState → (p : ℕ) → Going → Type 0
Knows s p g = (page : ℕ) → is_unnamed s p page ≡ true → g.unnamed page ≡ true

passed_more : (s : PlainState) (p : ℕ) (g : Going) (page far below : ℕ) → below ≤ page + far + 1 → Knows s p g → s.birth p ≡ born → s.right p (page + far) ≡ None → ArePassed g.unnamed g.next (page + far) → ArePassed g.unnamed g.next below
passed_more s p g page far below most knows birth none are k least less = go (eq-or-lt_of_le at_most)
  where
    at_most : k ≤ page + far
    at_most = omega (arith, less, most)

    go : (k ≡ page + far) ⊎ (k < page + far) → g.unnamed k ≡ true
    go (inl same) = knows k (unnamed_at (s.birth p) (s.right p k) birth (ap (s.right p) same ∙ none))
    go (inr under) = are k least under

-- what refuses an operation doesn't end it
never_plain : (op : Op) → IsTrue (refuses op answers.Plain) → ⊥
never_plain Exit is = cc is
never_plain op is = cc is

refusal_ends : (s : PlainState) (g : Going) (p : ℕ) (op : Op) (answer : Answer) → IsTrue (refuses op answer) → PassesRight s g p (Some op) (Done answer)
refusal_ends s g p op answers.Plain is = absurd (never_plain op is)
refusal_ends s g p op answer is = tt

module _ (ops : List Op) (p : ℕ) (s : PlainState) (place : Place) (g : Going) (op : Option Op) (is : slice_get ops place.answered ≡ op) where
  at_op : (t : PlainState) (h : Going) (what : What) → PassesRight t h p op what → PassesRight t h p (slice_get ops place.answered) what
  at_op t h what right = subst (λ (o : Option Op). PassesRight t h p o what) (sym is) right

  over_op : (far : ℕ) (h : Going) → Over op far h → Over (slice_get ops place.answered) far h
  over_op far h over = subst (λ (o : Option Op). Over o far h) (sym is) over

  -- the turn has one note that neither tells nor answers, or one that answers, or an event, or both
  silent_goes : PassesRight s g p op Silent → Over op (place.far + 1) (added s p g) → Goes ops p s place g (Silent ∷ [])
  silent_goes right over = ((at_op s g Silent right, tt), over_op (place.far + 1) (added s p g) over)

  done_goes : (answer : Answer) → PassesRight s g p op (Done answer) → Goes ops p s place g (Done answer ∷ [])
  done_goes answer right = ((at_op s g (Done answer) right, tt), over_first s p (slice_get ops (place.answered + 1)))

  event_goes : (e : PlainEvent) → PassesRight s g p op (Event e) → Over op (place.far + 1) (anew (happened s e) p (next_behind (page_at e) g.next)) → Goes ops p s place g (Event e ∷ [])
  event_goes e right over = ((at_op s g (Event e) right, tt), over_op (place.far + 1) (anew (happened s e) p (next_behind (page_at e) g.next)) over)

  both_go : (e : PlainEvent) (answer : Answer) → PassesRight s g p op (Event e) → PassesRight (happened s e) (anew (happened s e) p (next_behind (page_at e) g.next)) p op (Done answer) → Goes ops p s place g (Event e ∷ Done answer ∷ [])
  both_go e answer right ends =
      let then : Going = anew (happened s e) p (next_behind (page_at e) g.next) in
      ((at_op s g (Event e) right, (at_op (happened s e) then (Done answer) ends, tt)), over_first (happened s e) p (slice_get ops (place.answered + 1)))

-- the pages before the next event of a fork
abbrev pub ForkComes : PlainState → (p : ℕ) → Going → Op → List What → Type 0
ForkComes s p g op whats =
    (child page : ℕ) (e : PlainEvent) → op ≡ Fork child → whats ≡ Event e ∷ [] → page_at e ≡ Some page → ArePassed (λ h. is_none (s.right p h)) g.next page

module _ (ops : List Op) (s : PlainState) (references : References) (who : Doer) (place : Place) (p : ℕ) (g : Going) where
  -- an event of a fork, or of an operation that passes no pages
  fork_comes : (child : ℕ) (e : PlainEvent) (at : Option ℕ) → page_at e ≡ at → ((page : ℕ) → at ≡ Some page → ArePassed (λ h. is_none (s.right p h)) g.next page) → Comes s g p (Fork child) at
  fork_comes child e None is comes = tt
  fork_comes child e (Some page) is comes = comes page refl

  fork_goes : (child : ℕ) (e : PlainEvent) → slice_get ops place.answered ≡ Some (Fork child) → ForkComes s p g (Fork child) (Event e ∷ []) → Goes ops p s place g (Event e ∷ [])
  fork_goes child e is comes =
      event_goes ops p s place g (Some (Fork child)) is e (fork_comes child e (page_at e) refl (λ page at. comes child page e refl refl at)) tt

  over_goes : (op : Op) (page n : ℕ) (event : ℕ → PlainEvent) → GoesOver who.actor who.proc op page n event → slice_get ops place.answered ≡ Some op → Over (Some op) place.far g → Goes ops p s place g (Event (event (page + place.far)) ∷ [])
  over_goes op page n event (unmaps k m) is over = event_goes ops p s place g (Some op) is (event (page + place.far)) over (λ h least less. absurd (omega (arith, least, less)))
  over_goes op page n event (discards k m) is over = event_goes ops p s place g (Some op) is (event (page + place.far)) over (λ h least less. absurd (omega (arith, least, less)))

  last_goes : (op : Op) (page n : ℕ) (event : ℕ → PlainEvent) → GoesOver who.actor who.proc op page n event → place.far + 1 ≡ n → slice_get ops place.answered ≡ Some op → Over (Some op) place.far g → Goes ops p s place g (Event (event (page + place.far)) ∷ Done answers.Plain ∷ [])
  last_goes op page n event (unmaps k m) last is over = both_go ops p s place g (Some op) is (event (page + place.far)) answers.Plain over (λ h least less. absurd (omega (arith, least, less, last)))
  last_goes op page n event (discards k m) last is over = both_go ops p s place g (Some op) is (event (page + place.far)) answers.Plain over (λ h least less. absurd (omega (arith, least, less, last)))

  passes_on : (op : Op) (page n : ℕ) (event : ℕ → PlainEvent) → GoesOver who.actor who.proc op page n event → Knows s p g → s.birth p ≡ born → s.right p (page + place.far) ≡ None → slice_get ops place.answered ≡ Some op → Over (Some op) place.far g → Goes ops p s place g (Silent ∷ [])
  passes_on op page n event (unmaps k m) knows birth none is over = silent_goes ops p s place g (Some op) is tt (over_added s p (Some op) (place.far + 1) g (passed_more s p g page place.far (page + (place.far + 1)) (omega arith) knows birth none over))
  passes_on op page n event (discards k m) knows birth none is over = silent_goes ops p s place g (Some op) is tt (over_added s p (Some op) (place.far + 1) g (passed_more s p g page place.far (page + (place.far + 1)) (omega arith) knows birth none over))

  last_passes : (op : Op) (page n : ℕ) (event : ℕ → PlainEvent) → GoesOver who.actor who.proc op page n event → place.far + 1 ≡ n → Knows s p g → s.birth p ≡ born → s.right p (page + place.far) ≡ None → slice_get ops place.answered ≡ Some op → Over (Some op) place.far g → Goes ops p s place g (Done answers.Plain ∷ [])
  last_passes op page n event (unmaps k m) last knows birth none is over = done_goes ops p s place g (Some op) is answers.Plain (passed_more s p g page place.far (page + n) (omega (arith, last)) knows birth none over)
  last_passes op page n event (discards k m) last knows birth none is over = done_goes ops p s place g (Some op) is answers.Plain (passed_more s p g page place.far (page + n) (omega (arith, last)) knows birth none over)

  -- the operation is of this process
  abbrev IsOwn : Op → Type 0
  IsOwn op = who.proc ≡ process_of_op p (Some op)

  own_over : {op : Op} {page n : ℕ} {event : ℕ → PlainEvent} → GoesOver who.actor who.proc op page n event → IsOwn op → who.proc ≡ p
  own_over (unmaps k m) own = own
  own_over (discards k m) own = own

  living_over : {op : Op} {page n : ℕ} {event : ℕ → PlainEvent} → GoesOver who.actor who.proc op page n event → (IsOfProcess op → s.birth who.proc ≡ born) → s.birth who.proc ≡ born
  living_over (unmaps k m) birth = birth tt
  living_over (discards k m) birth = birth tt

  -- a turn of a walk
  walk_goes : (handle page n : ℕ) (want : Want) {first m got sequence : ℕ} {write : Bool} {step : WalkStep} {whats : List What} {to : JobPlace} → WalksTo s who first m got write sequence step whats to → slice_get ops place.answered ≡ Some (Pin handle page n want true) → Goes ops p s place g whats
  walk_goes handle page n want {first = first} {got = got} {write = write} (took_page h path e less) is = event_goes ops p s place g (Some (Pin handle page n want true)) is (events.PinTry who.actor who.proc (first + got) write) tt tt
  walk_goes handle page n want (dropped_page h last some most from) is = event_goes ops p s place g (Some (Pin handle page n want true)) is (events.PinDrop who.actor h) tt tt
  walk_goes handle page n want (dropped_first h more from) is = event_goes ops p s place g (Some (Pin handle page n want true)) is (events.PinDrop who.actor h) tt tt
  walk_goes handle page n want (dropped_last h one from) is = event_goes ops p s place g (Some (Pin handle page n want true)) is (events.PinDrop who.actor h) tt tt
  walk_goes handle page n want turn is = silent_goes ops p s place g (Some (Pin handle page n want true)) is tt tt

  -- a turn of each shape
  op_goes : (op : Op) {from to : JobPlace} {whats : List What} → TurnOf s references who place op from whats to → slice_get ops place.answered ≡ Some op → IsOwn op → (IsOfProcess op → s.birth who.proc ≡ born) → ForkComes s p g op whats → Knows s p g → Over (Some op) place.far g → Goes ops p s place g whats
  op_goes op (refused o answer first refusal at_once slow right passes) is own birth comes knows over = done_goes ops p s place g (Some op) is answer (refusal_ends s g p op answer refusal)
  op_goes op (took o page n event past more) is own birth comes knows over = over_goes op page n event past is over
  op_goes op (took_last o page n event past last) is own birth comes knows over = last_goes op page n event past last is over
  op_goes op (passed o page n event past more none) is own birth comes knows over =
      let same : who.proc ≡ p = own_over past own in
      passes_on op page n event past knows (ap s.birth (sym same) ∙ living_over past birth) (ap (λ (q : ℕ). s.right q (page + place.far)) (sym same) ∙ none) is over
  op_goes op (passed_last o page n event past last none) is own birth comes knows over =
      let same : who.proc ≡ p = own_over past own in
      last_passes op page n event past last knows (ap s.birth (sym same) ∙ living_over past birth) (ap (λ (q : ℕ). s.right q (page + place.far)) (sym same) ∙ none) is over
  op_goes op (took_lowest page none) is own birth comes knows over =
      event_goes ops p s place g (Some op) is (events.Unmap who.actor who.proc page) (λ h least less. ap is_none (ap (λ (q : ℕ). s.right q h) (sym own) ∙ none h less)) tt
  op_goes op (took_all none) is own birth comes knows over =
      done_goes ops p s place g (Some op) is answers.Plain (λ h. ap is_none (ap (λ (q : ℕ). s.right q h) (sym own) ∙ none h))
  op_goes op (walked handle page n want sequence step whats to walk more free) is own birth comes knows over = walk_goes handle page n want walk is
  op_goes op (refused_slowly handle page n want answer begun none refusal known at_once right) is own birth comes knows over =
      done_goes ops p s place g (Some op) is answer (refusal_ends s g p op answer refusal)
  op_goes op (pinned_all handle page n want fast from slow tries last free) is own birth comes knows over =
      let e : PlainEvent = events.PinTry who.actor who.proc (page + pages_got s who.actor) want.write in
      let t : PlainState = happened s e in
      let first : Going = anew t p g.next in
      let u : PlainState = happened t (events.PinOk who.actor handle) in
      let second : Going = anew u p g.next in
      ((at_op ops p s place g (Some op) is s g (Event e) tt, (at_op ops p s place g (Some op) is t first (Event (events.PinOk who.actor handle)) tt, (at_op ops p s place g (Some op) is u second (Done (answers.Pinned n)) tt, tt))), over_first u p (slice_get ops (place.answered + 1)))
  op_goes op (began child first) is own birth comes knows over = fork_goes child (events.ForkBegin who.proc child) is comes
  op_goes op (passed_page child from page begun up) is own birth comes knows over = fork_goes child (events.ForkPage who.proc child page) is comes
  op_goes op (shared_page child page begun) is own birth comes knows over = fork_goes child (events.ForkPage who.proc child page) is comes
  op_goes op (copied_word child page word to begun less) is own birth comes knows over = fork_goes child (events.ForkWord who.proc child page word) is comes
  op_goes op (mapped page n rights first free) is own birth comes knows over = both_go ops p s place g (Some op) is (events.Map who.actor who.proc page n rights) (answers.Plain) tt tt
  op_goes op (protected page n rights first free) is own birth comes knows over = both_go ops p s place g (Some op) is (events.Protect who.actor who.proc page n rights) (answers.Plain) tt tt
  op_goes op (loaded page word value first free) is own birth comes knows over = both_go ops p s place g (Some op) is (events.Load who.actor who.proc page word value) (answers.Value value) tt tt
  op_goes op (filled_slot mirror proc page same first free) is own birth comes knows over = both_go ops p s place g (Some op) is (events.MirrorFill who.actor mirror who.proc page) (answers.Plain) tt tt
  op_goes op (looked mirror word value first) is own birth comes knows over = both_go ops p s place g (Some op) is (events.Look who.actor mirror word value) (answers.Value value) tt tt
  op_goes op (stored page word value first free) is own birth comes knows over = both_go ops p s place g (Some op) is (events.Store who.actor who.proc page word value) (answers.Plain) tt tt
  op_goes op (gave handle to first free) is own birth comes knows over = both_go ops p s place g (Some op) is (events.Give who.actor handle to) (answers.Plain) tt tt
  op_goes op (took_over handle first) is own birth comes knows over = both_go ops p s place g (Some op) is (events.Take who.actor handle) (answers.Plain) tt tt
  op_goes op (got_one handle page first free) is own birth comes knows over = done_goes ops p s place g (Some op) is (answers.Plain) tt
  op_goes op (put_back handle first free) is own birth comes knows over = done_goes ops p s place g (Some op) is (answers.Plain) tt
  op_goes op (lacked_frame handle page n want fast h e long begun none free) is own birth comes knows over = done_goes ops p s place g (Some op) is (answers.NoFrame) tt
  op_goes op (found_unmovable handle page n want fast h e count long begun none free) is own birth comes knows over = done_goes ops p s place g (Some op) is (answers.Unmovable count) tt
  op_goes op (pinned_page handle page n want fast from slow tries less more free) is own birth comes knows over = event_goes ops p s place g (Some op) is (events.PinTry who.actor who.proc (page + pages_got s who.actor) want.write) tt tt
  op_goes op (pinned_short handle page n want fast got cause from had same some less end refusal right) is own birth comes knows over = both_go ops p s place g (Some op) is (events.PinOk who.actor handle) (answers.Short got n cause) tt tt
  op_goes op (kept_all handle page n want sequence all had) is own birth comes knows over = both_go ops p s place g (Some op) is (events.PinOk who.actor handle) (answers.Pinned n) tt tt
  op_goes op (unpinned_last handle none free last) is own birth comes knows over = both_go ops p s place g (Some op) is (events.Unpin who.actor handle) (answers.Plain) tt tt
  op_goes op (moved_word handle outward slot parts value more free) is own birth comes knows over = event_goes ops p s place g (Some op) is (moves_word who.actor handle outward (word_at parts place.far) (slot + place.far) value) tt tt
  op_goes op (moved_last handle outward slot parts value last free) is own birth comes knows over = both_go ops p s place g (Some op) is (moves_word who.actor handle outward (word_at parts place.far) (slot + place.far) value) (answers.Words) tt tt
  op_goes op (placed_frame proc page zone e begun free) is own birth comes knows over = done_goes ops p s place g (Some op) is (answers.Plain) tt
  op_goes op (found_no_frame proc page zone e begun free) is own birth comes knows over = done_goes ops p s place g (Some op) is (answers.NoFrame) tt
  op_goes op (found_busy proc page zone e count begun free) is own birth comes knows over = done_goes ops p s place g (Some op) is (answers.Busy count) tt
  op_goes op (ended child from begun) is own birth comes knows over = both_go ops p s place g (Some op) is (events.ForkEnd who.proc child) (answers.Plain) tt tt
  op_goes op (failed_share child page begun) is own birth comes knows over = both_go ops p s place g (Some op) is (events.ForkFail child) (answers.NoFrame) tt tt
  op_goes op (failed_fork child page begun) is own birth comes knows over = both_go ops p s place g (Some op) is (events.ForkFail child) (answers.NoFrame) tt tt
  op_goes op turn is own birth comes knows over = silent_goes ops p s place g (Some op) is tt tt

-- and a turn of any actor
pub turn_goes : (ops : List Op) (p : ℕ) (g : Going) (references : References) {s : PlainState} {who : Doer} {place : Place} {op : Option Op} {waiting : Option Waiting} {from to : JobPlace} {whats : List What} → TurnAt s references who place op waiting from whats to → slice_get ops place.answered ≡ op → who.proc ≡ process_of_op p op → ((o : Op) → op ≡ Some o → ForkComes s p g o whats) → Knows s p g → Over op place.far g → Goes ops p s place g whats
turn_goes ops p g references {s = s} {place = place} (idles waiting at) is own comes knows over = ((at_op ops p s place g None is s g Idle tt, tt), over_op ops p s place g None is place.far (added s p g) tt)
turn_goes ops p g references {s = s} {place = place} (waits op waiting at) is own comes knows over =
    ((at_op ops p s place g (Some op) is s g (Wait waiting) tt, tt), over_op ops p s place g (Some op) is place.far (added s p g) (over_added s p (Some op) place.far g over))
turn_goes ops p g references {s = s} {who = who} {place = place} (goes op whats from to birth living turn) is own comes knows over =
    op_goes ops s references who place p g op turn is own living (comes op refl) knows over
turn_goes ops p g references {s = s} {place = place} (unborn_refused op birth first refusal) is own comes knows over = done_goes ops p s place g (Some op) is answers.Unborn tt
turn_goes ops p g references {s = s} {place = place} (unborn_fork child birth fails first) is own comes knows over =
    both_go ops p s place g (Some (Fork child)) is (events.ForkFail child) answers.Unborn tt tt
