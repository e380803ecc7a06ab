-- Whatever notes of a pin's shape say ends it.
use Rattle.std.proofs.Common.{◌≡◌, ℕ, ◌+◌, ◌-◌, ◌<◌, ◌==◌, ◌&&◌, nat_lt, ◌⊎◌, inl, inr, Bool, true, false, List, [], ◌∷◌, Some, zero, suc, refl, sym, ◌∙◌, ap, subst, arith, eq-eqb}
use Rattle.std.proofs.lemmas.Bool.Decides.{nat_tests}
use Rattle.gup_base.specs.declared.entry.Want.{Want}
use Rattle.gup_plain.specs.Note.{NoteValue}
use Rattle.gup_plain.specs.declared.answer.Answer.{Answer}
use Rattle.gup_plain.specs.declared.answer.Answer.TheVariants as answers
use Rattle.gup_plain.specs.declared.answer.Cause.{Cause}
use Rattle.gup_plain.specs.declared.answer.Cause.TheVariants as causes
use Rattle.gup_plain.specs.declared.event.PlainEvent.{PlainEvent}
use Rattle.gup_plain.specs.declared.event.PlainEvent.TheVariants as events
use Rattle.gup_plain.specs.declared.note.What.{What}
use Rattle.gup_plain.specs.declared.note.What.TheVariants.{Silent, Event, Done}
use Rattle.gup_script.specs.declared.op.Op.{Op}
use Rattle.gup_script.specs.declared.op.Op.TheVariants.{Pin}
use Rattle.gup_spec_journal.specs.Follows.{Who, IsTurn, Then, Turns, refuses, TriesIn, RefusesPage, takes_page, Stop, at_entry, at_frame, at_entry_again, at_mark, stops_at, drops_pages, DropsAll, StopsWalk, WalksOn, Walks, RefusesFirst, RefusesFast, RefusesPin, EndsPin, EndsShort, PinsPages, PinsAll}
use Rattle.gup_spec_journal.specs.Plain.{refusal_by_cause}
use Rattle.gup_check_course.specs.declared.course.Course.{Course}
use Rattle.gup_check_course.specs.declared.course.Course.TheVariants.{Start, Walking, Stopped, Dropping, Slow, Short, Closing}
use Rattle.gup_check_course.specs.declared.course.Step.TheVariants.{On}
use Rattle.gup_check_course.specs.Arcs.{Arc, on_answer, begins, taken, next_of, made, dropped, stopped, first_try, refuses_at, refuses_later, tries, makes, stops, drops, ends_pin}
use Rattle.gup_check_course.proofs.Finish.{event_taken, answer_taken, passed_over}
use Rattle.gup_check_course.proofs.Passing.{Passes, Ends, then_ends, silent_passes, event_passes, answer_ends, both_end, three_end, third_ends, third_passes}
use Rattle.gup_check_course.proofs.Reaching.{lt_is, unequal, handle_made, refused_slowly, last_dropped, more_dropped, page_dropped}

-- one page

tries_pass : (who : Who) (op : Op) (want : Want) (whats : List What) (from to : Course) → Passes who op (IsTurn who whats) from to → Passes who op (TriesIn who want whats) from to
tries_pass who op want whats from to passes notes (inl is) = passes notes is
tries_pass who op want whats from to passes notes (inr is) = third_passes who op whats from to passes notes is.1

tries_end : (who : Who) (op : Op) (want : Want) (whats : List What) (from : Course) → Ends who op (IsTurn who whats) from → Ends who op (TriesIn who want whats) from
tries_end who op want whats from ends notes (inl is) = ends notes is
tries_end who op want whats from ends notes (inr is) = third_ends who op whats from ends notes is.1

page_refused : (who : Who) (op : Op) (want : Want) (answer : Answer) (whats : List What) (from : Course) → Ends who op (IsTurn who whats) from → Ends who op (RefusesPage who want answer whats) from
page_refused who op want (answers.Unmovable count) whats from ends notes is = third_ends who op whats from ends notes is.1
page_refused who op want answers.NoFrame whats from ends notes is = tries_end who op want whats from ends notes is
page_refused who op want answer whats from ends notes is = ends notes is

ends_pin_is : (want : Want) (cause : Cause) → EndsPin want cause → ends_pin want cause ≡ true
ends_pin_is want (causes.Unmovable count) ends = ends
ends_pin_is want cause ends = refl

all_made : (k n : ℕ) → k ≡ n → made k n ≡ Closing (answers.Pinned n)
all_made k n is = rw (eq-eqb k n is) refl

few_made : (k n : ℕ) → k < n → made k n ≡ Short k
few_made k n less = rw (unequal k n less) refl

-- Pages are tried from here on: the next one, behind which the course is one of these, or the handle is made.
abbrev TriesFrom : Who → (handle page n : ℕ) → Want → (fast : Bool) → (family : ℕ → Course) → Course → (k : ℕ) → Type 0
TriesFrom who handle page n want fast family course k =
    (k < n → next_of who (Pin handle page n want fast) course (Event (events.PinTry who.actor who.proc (page + k) want.write)) ≡ Some (On (family (k + 1))))
    × (0 < k → next_of who (Pin handle page n want fast) course (Event (events.PinOk who.actor handle)) ≡ Some (On (made k n)))

short_end : (who : Who) (handle page n : ℕ) (want : Want) (fast : Bool) (family : ℕ → Course) (course : Course) (k : ℕ) → k < n → TriesFrom who handle page n want fast family course k → Ends who (Pin handle page n want fast) (EndsShort who handle n want k) course
short_end who handle page n want fast family course k less from notes is =
    let op : Op = Pin handle page n want fast in
    let cause : Cause = is.1 in
    page_refused who op want (refusal_by_cause cause) (Event (events.PinOk who.actor handle) ∷ Done (answers.Short k n cause) ∷ []) course
    (both_end who op (events.PinOk who.actor handle) (answers.Short k n cause) course (Short k)
    (from.1 is.0 ∙ ap (λ (c : Course). Some (On c)) (few_made k n less))
    (answer_taken (ends_pin want cause) (answers.Short k n cause) [] (ends_pin_is want cause is.2)))
    notes is.3

pages_end : (who : Who) (handle page n : ℕ) (want : Want) (fast : Bool) (family : ℕ → Course) → ((k : ℕ) → TriesFrom who handle page n want fast family (family (k + 1)) (k + 1)) → (got left : ℕ) (course : Course) → got + left ≡ n → TriesFrom who handle page n want fast family course got → Ends who (Pin handle page n want fast) (PinsPages who handle page n want got left) course
pages_end who handle page n want fast family later got zero course all from notes is = absurd is
pages_end who handle page n want fast family later got (suc zero) course all from notes (inl is) =
    let op : Op = Pin handle page n want fast in
    let try : PlainEvent = events.PinTry who.actor who.proc (page + got) want.write in
    tries_end who op want (Event try ∷ Event (events.PinOk who.actor handle) ∷ Done (answers.Pinned n) ∷ []) course
    (three_end who op try (events.PinOk who.actor handle) (answers.Pinned n) course (family (got + 1)) (Closing (answers.Pinned n)) (from.0 (omega arith))
    ((later got).1 (omega arith) ∙ ap (λ (c : Course). Some (On c)) (all_made (got + 1) n (omega arith))) (answer_taken true (answers.Pinned n) [] refl))
    notes is
pages_end who handle page n want fast family later got (suc zero) course all from notes (inr is) =
    short_end who handle page n want fast family course got (omega arith) from notes is
pages_end who handle page n want fast family later got (suc (suc left)) course all from notes (inl is) =
    let op : Op = Pin handle page n want fast in
    let try : PlainEvent = events.PinTry who.actor who.proc (page + got) want.write in
    then_ends who op (TriesIn who want (Event try ∷ [])) (PinsPages who handle page n want (got + 1) (suc left)) course (family (got + 1))
    (tries_pass who op want (Event try ∷ []) course (family (got + 1)) (event_passes who op try course (family (got + 1)) (from.0 (omega arith))))
    (pages_end who handle page n want fast family later (got + 1) (suc left) (family (got + 1)) (omega arith) (later got)) notes is
pages_end who handle page n want fast family later got (suc (suc left)) course all from notes (inr is) =
    short_end who handle page n want fast family course got (omega arith) from notes is

-- where a page is tried

page_tried : (who : Who) (page n : ℕ) (want : Want) (k : ℕ) (course : ℕ → Course) (later : List Arc) → k < n → taken (Event (events.PinTry who.actor who.proc (page + k) want.write)) (tries who page n want k course ∷ later) ≡ Some (On (course (k + 1)))
page_tried who page n want k course later less = event_taken (nat_lt k n) (events.PinTry who.actor who.proc (page + k) want.write) (course (k + 1)) later (lt_is k n less)

slow_tries : (who : Who) (handle page n : ℕ) (want : Want) (fast : Bool) (k : ℕ) → TriesFrom who handle page n want fast Slow (Slow k) k
slow_tries who handle page n want fast k =
    let op : Op = Pin handle page n want fast in
    let refused : Arc = on_answer (refuses_at op k answers.Plain) answers.Plain in
    (page_tried who page n want k Slow (makes who handle n k ∷ refused ∷ []), handle_made who handle page n want k Slow (refused ∷ []))

walk_tries : (who : Who) (handle page n : ℕ) (want : Want) (fast : Bool) (k : ℕ) → TriesFrom who handle page n want fast Walking (Walking k) k
walk_tries who handle page n want fast k = (
  page_tried who page n want k Walking (makes who handle n k ∷ stops who page k ∷ drops who page 0 k ∷ []),
  handle_made who handle page n want k Walking (stops who page k ∷ drops who page 0 k ∷ []),
)

stop_tries : (who : Who) (handle page n : ℕ) (want : Want) (fast : Bool) (k : ℕ) → TriesFrom who handle page n want fast Slow (Stopped k) k
stop_tries who handle page n want fast k =
    (page_tried who page n want k Slow (makes who handle n k ∷ drops who page 0 k ∷ []), handle_made who handle page n want k Slow (drops who page 0 k ∷ []))

start_tries : (who : Who) (handle page n : ℕ) (want : Want) (fast : Bool) → TriesFrom who handle page n want fast (first_try fast) Start 0
start_tries who handle page n want fast = (page_tried who page n want 0 (first_try fast) [], λ some. absurd (omega arith))

-- a pin that goes slowly

pub slow_end : (who : Who) (handle page n : ℕ) (want : Want) → Ends who (Pin handle page n want false) (PinsPages who handle page n want 0 n) Start
slow_end who handle page n want =
    pages_end who handle page n want false Slow (λ k. slow_tries who handle page n want false (k + 1)) 0 n Start (omega arith) (start_tries who handle page n want false)

-- A pin that walks.

-- where it stands with so many pages
abbrev walked : ℕ → Course
walked zero = Start
walked k = Walking k

-- what is left to slow turns ends it from where it has stopped, whether that was said or not
abbrev EndSlowly : Who → Op → (n : ℕ) → (Slowly : (got left : ℕ) → List NoteValue → Type 0) → (at : ℕ → Course) → Type 0
EndSlowly who op n Slowly at = (got left : ℕ) → 0 < left → got + left ≡ n → Ends who op (Slowly got left) (at got)

drop_left : (who : Who) (handle page n : ℕ) (want : Want) (kept : ℕ) (Slowly : (got left : ℕ) → List NoteValue → Type 0) → Ends who (Pin handle page n want true) (Slowly 0 n) (Slow 0) → (first j left : ℕ) → first ≡ page + j → j + left ≡ kept → Ends who (Pin handle page n want true) (Turns who (drops_pages who.actor first left) (Slowly 0 n)) (dropped j kept)
drop_left who handle page n want kept Slowly slowly first j zero at all =
    subst (Ends who (Pin handle page n want true) (Slowly 0 n)) (sym (last_dropped j kept (omega arith))) slowly
drop_left who handle page n want kept Slowly slowly first j (suc left) at all =
    let op : Op = Pin handle page n want true in
    subst (Ends who op (Turns who (drops_pages who.actor first (suc left)) (Slowly 0 n))) (sym (more_dropped j kept (omega arith)))
    (then_ends who op (IsTurn who (Event (events.PinDrop who.actor first) ∷ [])) (Turns who (drops_pages who.actor (first + 1) left) (Slowly 0 n)) (Dropping j kept) (dropped (j + 1) kept)
    (event_passes who op (events.PinDrop who.actor first) (Dropping j kept) (dropped (j + 1) kept)
    (ap (λ (p : ℕ). next_of who op (Dropping j kept) (Event (events.PinDrop who.actor p))) at ∙ page_dropped who handle page n want true j kept (omega arith)))
    (drop_left who handle page n want kept Slowly slowly (first + 1) (j + 1) left (omega arith) (omega arith)))

-- all are dropped, from a course on where the first of them may be dropped
drop_all : (who : Who) (handle page n : ℕ) (want : Want) (Slowly : (got left : ℕ) → List NoteValue → Type 0) → Ends who (Pin handle page n want true) (Slowly 0 n) (Slow 0) → (kept : ℕ) (course : Course) → (kept ≡ 0 → Ends who (Pin handle page n want true) (Slowly 0 n) course) → (0 < kept → next_of who (Pin handle page n want true) course (Event (events.PinDrop who.actor page)) ≡ Some (On (dropped 1 kept))) → Ends who (Pin handle page n want true) (DropsAll who page n kept Slowly) course
drop_all who handle page n want Slowly slowly zero course none some =
    let op : Op = Pin handle page n want true in
    then_ends who op (IsTurn who (Silent ∷ [])) (Slowly 0 n) course course (silent_passes who op course) (none refl)
drop_all who handle page n want Slowly slowly (suc kept) course none some =
    let op : Op = Pin handle page n want true in
    then_ends who op (IsTurn who (Silent ∷ [])) (Turns who (drops_pages who.actor page (suc kept)) (Slowly 0 n)) course course (silent_passes who op course)
    (then_ends who op (IsTurn who (Event (events.PinDrop who.actor page) ∷ [])) (Turns who (drops_pages who.actor (page + 1) kept) (Slowly 0 n)) course (dropped 1 (suc kept))
    (event_passes who op (events.PinDrop who.actor page) course (dropped 1 (suc kept)) (some (omega arith)))
    (drop_left who handle page n want (suc kept) Slowly slowly (page + 1) 1 kept refl (omega arith)))

-- the first page is the first that is dropped

drop_first : (who : Who) (page k : ℕ) (later : List Arc) → 0 < k → taken (Event (events.PinDrop who.actor page)) (drops who page 0 k ∷ later) ≡ Some (On (dropped 1 k))
drop_first who page k later some =
    (let same : page ≡ page + 0 = omega arith in ap (λ (p : ℕ). taken (Event (events.PinDrop who.actor p)) (drops who page 0 k ∷ later)) same)
    ∙ event_taken (nat_lt 0 k) (events.PinDrop who.actor (page + 0)) (dropped (0 + 1) k) later (lt_is 0 k some)

-- or it is the last that was taken, as well
stop_first : (who : Who) (page : ℕ) (later : List Arc) → taken (Event (events.PinDrop who.actor page)) (stops who page 1 ∷ later) ≡ Some (On (Slow 0))
stop_first who page later =
    (let same : page ≡ page + 0 = omega arith in ap (λ (p : ℕ). taken (Event (events.PinDrop who.actor p)) (stops who page 1 ∷ later)) same)
    ∙ event_taken (nat_lt 0 1) (events.PinDrop who.actor (page + 0)) (Slow 0) later refl

unlike_last : (actor page k : ℕ) → 1 < k → ((actor == actor) && (page == page + (k - 1))) ≡ false
unlike_last actor page k more = grind (arith, nat_tests)

walk_drops : (who : Who) (handle page n : ℕ) (want : Want) (k : ℕ) → 0 < k → next_of who (Pin handle page n want true) (Walking k) (Event (events.PinDrop who.actor page)) ≡ Some (On (dropped 1 k))
walk_drops who handle page n want k some =
    let event : What = Event (events.PinDrop who.actor page) in
    let late : List Arc = drops who page 0 k ∷ [] in
    passed_over event (tries who page n want k Walking) (makes who handle n k ∷ stops who page k ∷ late) refl
    ∙ passed_over event (makes who handle n k) (stops who page k ∷ late) refl ∙ by_number k some
  where
    by_number : (k : ℕ) → 0 < k → taken (Event (events.PinDrop who.actor page)) (stops who page k ∷ drops who page 0 k ∷ []) ≡ Some (On (dropped 1 k))
    by_number zero some = absurd (omega arith)
    by_number (suc zero) some = stop_first who page (drops who page 0 1 ∷ [])
    by_number (suc (suc k)) some =
        passed_over (Event (events.PinDrop who.actor page)) (stops who page (suc (suc k))) (drops who page 0 (suc (suc k)) ∷ []) (unlike_last who.actor page (suc (suc k)) (omega arith))
        ∙ drop_first who page (suc (suc k)) [] (omega arith)

stop_drops : (who : Who) (handle page n : ℕ) (want : Want) (k : ℕ) → 0 < k → next_of who (Pin handle page n want true) (Stopped k) (Event (events.PinDrop who.actor page)) ≡ Some (On (dropped 1 k))
stop_drops who handle page n want k some =
    let event : What = Event (events.PinDrop who.actor page) in
    let late : List Arc = drops who page 0 k ∷ [] in
    passed_over event (tries who page n want k Slow) (makes who handle n k ∷ late) refl
    ∙ passed_over event (makes who handle n k) late refl ∙ drop_first who page k [] some

-- the mark of the page that it took last
stops_at_mark : (who : Who) (handle page n : ℕ) (want : Want) (k : ℕ) → next_of who (Pin handle page n want true) (Walking (k + 1)) (Event (events.PinDrop who.actor (page + k))) ≡ Some (On (stopped k))
stops_at_mark who handle page n want k =
    let event : What = Event (events.PinDrop who.actor (page + k)) in
    let late : List Arc = drops who page 0 (k + 1) ∷ [] in
    let same : k ≡ k + 1 - 1 = omega arith in
    passed_over event (tries who page n want (k + 1) Walking) (makes who handle n (k + 1) ∷ stops who page (k + 1) ∷ late) refl
    ∙ passed_over event (makes who handle n (k + 1)) (stops who page (k + 1) ∷ late) refl
    ∙ ap (λ (j : ℕ). taken (Event (events.PinDrop who.actor (page + j))) (stops who page (k + 1) ∷ late)) same
    ∙ event_taken (nat_lt 0 (k + 1)) (events.PinDrop who.actor (page + (k + 1 - 1))) (stopped (k + 1 - 1)) late (lt_is 0 (k + 1) (omega arith))
    ∙ ap (λ (j : ℕ). Some (On (stopped j))) (sym same)

-- The walk, for whatever comes behind it.

stops_walk : (who : Who) (handle page n : ℕ) (want : Want) (Slowly : (got left : ℕ) → List NoteValue → Type 0) → Ends who (Pin handle page n want true) (Slowly 0 n) (Slow 0) → (kept left : ℕ) (course : Course) → Ends who (Pin handle page n want true) (Slowly kept left) course → (kept ≡ 0 → Ends who (Pin handle page n want true) (Slowly 0 n) course) → (0 < kept → next_of who (Pin handle page n want true) course (Event (events.PinDrop who.actor page)) ≡ Some (On (dropped 1 kept))) → Ends who (Pin handle page n want true) (StopsWalk who page n Slowly kept left) course
stops_walk who handle page n want Slowly slowly kept left course on none some notes (inl is) =
    let op : Op = Pin handle page n want true in
    then_ends who op (IsTurn who (Silent ∷ [])) (Slowly kept left) course course (silent_passes who op course) on notes is
stops_walk who handle page n want Slowly slowly kept left course on none some notes (inr is) =
    drop_all who handle page n want Slowly slowly kept course none some notes is

-- two turns in which nothing is said
silent_twice : (who : Who) (op : Op) (Rest : List NoteValue → Type 0) (at : Course) → Ends who op Rest at → Ends who op (Turns who ((Silent ∷ []) ∷ (Silent ∷ []) ∷ []) Rest) at
silent_twice who op Rest at ends =
    then_ends who op (IsTurn who (Silent ∷ [])) (Then (IsTurn who (Silent ∷ [])) Rest) at at (silent_passes who op at)
    (then_ends who op (IsTurn who (Silent ∷ [])) Rest at at (silent_passes who op at) ends)

-- the turns of a page that is taken
takes_end : (who : Who) (op : Op) (page : ℕ) (write : Bool) (Rest : List NoteValue → Type 0) (from to : Course) → next_of who op from (Event (events.PinTry who.actor who.proc page write)) ≡ Some (On to) → Ends who op Rest to → Ends who op (Turns who (takes_page who page write) Rest) from
takes_end who op page write Rest from to goes ends =
    let try : PlainEvent = events.PinTry who.actor who.proc page write in
    silent_twice who op (Then (IsTurn who (Event try ∷ [])) (Then (IsTurn who (Silent ∷ [])) Rest)) from
    (then_ends who op (IsTurn who (Event try ∷ [])) (Then (IsTurn who (Silent ∷ [])) Rest) from to (event_passes who op try from to goes)
    (then_ends who op (IsTurn who (Silent ∷ [])) Rest to to (silent_passes who op to) ends))

-- the next page is taken from wherever the walk stands
walked_tries : (who : Who) (handle page n : ℕ) (want : Want) (k : ℕ) → TriesFrom who handle page n want true Walking (walked k) k
walked_tries who handle page n want zero = start_tries who handle page n want true
walked_tries who handle page n want (suc k) = walk_tries who handle page n want true (suc k)

stopped_tries : (who : Who) (handle page n : ℕ) (want : Want) (k : ℕ) → TriesFrom who handle page n want true Slow (stopped k) k
stopped_tries who handle page n want zero = slow_tries who handle page n want true 0
stopped_tries who handle page n want (suc k) = stop_tries who handle page n want true (suc k)

walked_drops : (who : Who) (handle page n : ℕ) (want : Want) (k : ℕ) → 0 < k → next_of who (Pin handle page n want true) (walked k) (Event (events.PinDrop who.actor page)) ≡ Some (On (dropped 1 k))
walked_drops who handle page n want zero some = absurd (omega arith)
walked_drops who handle page n want (suc k) some = walk_drops who handle page n want (suc k) some

stopped_drops : (who : Who) (handle page n : ℕ) (want : Want) (k : ℕ) → 0 < k → next_of who (Pin handle page n want true) (stopped k) (Event (events.PinDrop who.actor page)) ≡ Some (On (dropped 1 k))
stopped_drops who handle page n want zero some = absurd (omega arith)
stopped_drops who handle page n want (suc k) some = stop_drops who handle page n want (suc k) some

walked_next : (k : ℕ) → walked (k + 1) ≡ Walking (k + 1)
walked_next k = (let next : k + 1 ≡ suc k = omega arith in ap walked next ∙ sym (ap (λ (j : ℕ). Walking j) next))

walks_end : (who : Who) (handle page n : ℕ) (want : Want) → 0 < n → (All : List NoteValue → Type 0) (Slowly : (got left : ℕ) → List NoteValue → Type 0) → Ends who (Pin handle page n want true) All (walked n) → EndSlowly who (Pin handle page n want true) n Slowly walked → EndSlowly who (Pin handle page n want true) n Slowly stopped → (kept left : ℕ) → kept + left ≡ n → Ends who (Pin handle page n want true) (WalksOn who page n want.write All Slowly kept left) (walked kept)
walks_end who handle page n want pages All Slowly whole on off kept left all notes is = by_left left kept all notes is
  where
    op : Op
    op = Pin handle page n want true

    again : Ends who op (Slowly 0 n) (Slow 0)
    again = off 0 n pages (omega arith)

    -- from a course with none kept
    none_kept : (at : ℕ → Course) → EndSlowly who op n Slowly at → (kept : ℕ) → kept ≡ 0 → Ends who op (Slowly 0 n) (at kept)
    none_kept at slowly kept none = subst (λ (k : ℕ). Ends who op (Slowly 0 n) (at k)) (sym none) (slowly 0 n pages (omega arith))

    -- it stops without a word
    silently : (kept left : ℕ) → 0 < left → kept + left ≡ n → Ends who op (StopsWalk who page n Slowly kept left) (walked kept)
    silently kept left more all =
        stops_walk who handle page n want Slowly again kept left (walked kept) (on kept left more all) (none_kept walked on kept)
        (walked_drops who handle page n want kept)

    -- or at the mark
    at_its_mark : (kept left : ℕ) → 0 < left → kept + left ≡ n → Ends who op (StopsWalk who page n Slowly kept left) (stopped kept)
    at_its_mark kept left more all =
        stops_walk who handle page n want Slowly again kept left (stopped kept) (off kept left more all) (none_kept stopped off kept)
        (stopped_drops who handle page n want kept)

    dropped_all : (kept : ℕ) → Ends who op (DropsAll who page n kept Slowly) (walked kept)
    dropped_all kept =
        drop_all who handle page n want Slowly again kept (walked kept) (none_kept walked on kept) (walked_drops who handle page n want kept)

    at_stop : (stop : Stop) (kept left : ℕ) → 0 < left → kept + left ≡ n → Ends who op (Turns who (stops_at who (page + kept) want.write stop) (StopsWalk who page n Slowly kept left)) (walked kept)
    at_stop at_entry kept left more all =
        then_ends who op (IsTurn who (Silent ∷ [])) (StopsWalk who page n Slowly kept left) (walked kept) (walked kept) (silent_passes who op (walked kept)) (silently kept left more all)
    at_stop at_frame kept left more all = silent_twice who op (StopsWalk who page n Slowly kept left) (walked kept) (silently kept left more all)
    at_stop at_entry_again kept left more all =
        silent_twice who op (Turns who ((Silent ∷ []) ∷ (Silent ∷ []) ∷ []) (StopsWalk who page n Slowly kept left)) (walked kept)
        (silent_twice who op (StopsWalk who page n Slowly kept left) (walked kept) (silently kept left more all))
    at_stop at_mark kept left more all =
        let drop : PlainEvent = events.PinDrop who.actor (page + kept) in
        takes_end who op (page + kept) want.write (Then (IsTurn who (Event drop ∷ [])) (StopsWalk who page n Slowly kept left)) (walked kept) (Walking (kept + 1))
        ((walked_tries who handle page n want kept).0 (omega arith))
        (then_ends who op (IsTurn who (Event drop ∷ [])) (StopsWalk who page n Slowly kept left) (Walking (kept + 1)) (stopped kept)
        (event_passes who op drop (Walking (kept + 1)) (stopped kept) (stops_at_mark who handle page n want kept)) (at_its_mark kept left more all))

    by_left : (left kept : ℕ) → kept + left ≡ n → Ends who op (WalksOn who page n want.write All Slowly kept left) (walked kept)
    by_left zero kept all notes (inl is) = subst (λ (k : ℕ). Ends who op All (walked k)) (let same : n ≡ kept = omega arith in same) whole notes is
    by_left zero kept all notes (inr is) = dropped_all kept notes is
    by_left (suc left) kept all notes (inl is) =
        takes_end who op (page + kept) want.write (WalksOn who page n want.write All Slowly (kept + 1) left) (walked kept) (Walking (kept + 1))
        ((walked_tries who handle page n want kept).0 (omega arith))
        (subst (Ends who op (WalksOn who page n want.write All Slowly (kept + 1) left)) (walked_next kept) (by_left left (kept + 1) (omega arith))) notes is
    by_left (suc left) kept all notes (inr is) = at_stop is.0 kept (suc left) (omega arith) all notes is.1

walk_ends : (who : Who) (handle page n : ℕ) (want : Want) → 0 < n → (All : List NoteValue → Type 0) (Slowly : (got left : ℕ) → List NoteValue → Type 0) → Ends who (Pin handle page n want true) All (walked n) → EndSlowly who (Pin handle page n want true) n Slowly walked → EndSlowly who (Pin handle page n want true) n Slowly stopped → Ends who (Pin handle page n want true) (Walks who page n want.write All Slowly) Start
walk_ends who handle page n want pages All Slowly whole on off =
    silent_twice who (Pin handle page n want true) Begun Start begun
  where
    Begun : List NoteValue → Type 0
    Begun rest = Slowly 0 n rest ⊎ WalksOn who page n want.write All Slowly 0 n rest

    begun : Ends who (Pin handle page n want true) Begun Start
    begun notes (inl odd) = on 0 n pages (omega arith) notes odd
    begun notes (inr even) = walks_end who handle page n want pages All Slowly whole on off 0 n (omega arith) notes even

-- a walk that keeps all pages, or goes on slowly

all_kept : (who : Who) (handle page n : ℕ) (want : Want) → 0 < n → Ends who (Pin handle page n want true) (PinsAll who handle n) (walked n)
all_kept who handle page n want pages =
    both_end who (Pin handle page n want true) (events.PinOk who.actor handle) (answers.Pinned n) (walked n) (Closing (answers.Pinned n))
    ((walked_tries who handle page n want n).1 pages ∙ ap (λ (c : Course). Some (On c)) (all_made n n refl)) (answer_taken true (answers.Pinned n) [] refl)

pub fast_end : (who : Who) (handle page n : ℕ) (want : Want) → 0 < n → Ends who (Pin handle page n want true) (Walks who page n want.write (PinsAll who handle n) (PinsPages who handle page n want)) Start
fast_end who handle page n want pages =
    walk_ends who handle page n want pages (PinsAll who handle n) (PinsPages who handle page n want) (all_kept who handle page n want pages)
    (λ got left more all.
    pages_end who handle page n want true Walking (λ k. walk_tries who handle page n want true (k + 1)) got left (walked got) all (walked_tries who handle page n want got))
    (λ got left more all.
    pages_end who handle page n want true Slow (λ k. slow_tries who handle page n want true (k + 1)) got left (stopped got) all (stopped_tries who handle page n want got))

-- it is refused

start_refused : (who : Who) (op : Op) (answer : Answer) → refuses op answer ≡ true → Ends who op (IsTurn who (Done answer ∷ [])) Start
start_refused who op answer may = answer_ends who op answer Start (answer_taken (refuses op answer) answer (begins who op (Done answer)) may)

first_refused : (who : Who) (handle page n : ℕ) (want : Want) (answer : Answer) (at : ℕ → Course) → Ends who (Pin handle page n want true) (IsTurn who (Done answer ∷ [])) (at 0) → EndSlowly who (Pin handle page n want true) n (RefusesFirst who want answer) at
first_refused who handle page n want answer at ends got left more all notes is =
    subst (λ (k : ℕ). Ends who (Pin handle page n want true) (RefusesPage who want answer (Done answer ∷ [])) (at k)) (sym is.0)
    (page_refused who (Pin handle page n want true) want answer (Done answer ∷ []) (at 0) ends) notes is.1

walk_refused : (who : Who) (handle page n : ℕ) (want : Want) → 0 < n → (answer : Answer) → refuses (Pin handle page n want true) answer ≡ true → refuses_later (Pin handle page n want true) answer ≡ true → Ends who (Pin handle page n want true) (Walks who page n want.write (λ rest. ⊥) (RefusesFirst who want answer)) Start
walk_refused who handle page n want pages answer may later =
    let op : Op = Pin handle page n want true in
    walk_ends who handle page n want pages (λ rest. ⊥) (RefusesFirst who want answer) (λ notes is. absurd is)
    (first_refused who handle page n want answer walked (start_refused who op answer may))
    (first_refused who handle page n want answer stopped (answer_ends who op answer (Slow 0) (refused_slowly who op handle page n want answer later)))

fast_refused : (who : Who) (handle page n : ℕ) (want : Want) → 0 < n → (answer : Answer) → refuses (Pin handle page n want true) answer ≡ true → Ends who (Pin handle page n want true) (RefusesFast who page n want answer) Start
fast_refused who handle page n want pages answers.Unborn may notes is = start_refused who (Pin handle page n want true) answers.Unborn may notes is
fast_refused who handle page n want pages answer may notes is = walk_refused who handle page n want pages answer may may notes is

pub pin_refused : (who : Who) (handle page n : ℕ) (want : Want) (fast : Bool) → 0 < n → (answer : Answer) → refuses (Pin handle page n want fast) answer ≡ true → Ends who (Pin handle page n want fast) (RefusesPin who page n want fast answer) Start
pin_refused who handle page n want false pages answer may notes is =
    page_refused who (Pin handle page n want false) want answer (Done answer ∷ []) Start (start_refused who (Pin handle page n want false) answer may) notes is
pin_refused who handle page n want true pages answer may notes is = fast_refused who handle page n want pages answer may notes is
