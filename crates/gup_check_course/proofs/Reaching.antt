-- From each course that an operation comes to it can end.
use Rattle.std.proofs.Common.{◌≡◌, ℕ, ◌+◌, ◌-◌, ◌<◌, ◌≤◌, ◌==◌, ◌&&◌, nat_lt, nat_le, inl, inr, cond, Bool, true, false, List, [], ◌∷◌, Some, zero, suc, refl, ◌∙◌, ap, subst, arith, eq-eqb}
use Rattle.std.proofs.lemmas.Bool.Decides.{nat_tests}
use Rattle.gup_base.specs.Parts.{Part, words_of, word_at}
use Rattle.gup_base.specs.declared.entry.Want.{Want}
use Rattle.gup_plain.specs.Event.{words}
use Rattle.gup_plain.specs.declared.answer.Answer.{Answer}
use Rattle.gup_plain.specs.declared.answer.Answer.TheVariants as answers
use Rattle.gup_plain.specs.declared.answer.Cause.TheVariants as causes
use Rattle.gup_plain.specs.declared.event.PlainEvent.{PlainEvent}
use Rattle.gup_plain.specs.declared.event.PlainEvent.TheVariants as events
use Rattle.gup_plain.specs.declared.note.What.{What}
use Rattle.gup_plain.specs.declared.note.What.TheVariants.{Event, Done}
use Rattle.gup_script.specs.Limits.{most_words}
use Rattle.gup_script.specs.Valid.{IsOp}
use Rattle.gup_script.specs.declared.op.Op.{Op}
use Rattle.gup_script.specs.declared.op.Op.TheVariants.{Map, Unmap, Protect, Discard, Load, Store, Pin, Unpin, Give, Take, Get, Put, Transfer, Mirror, Look, Fork, Exit, Move}
use Rattle.gup_spec_journal.specs.Follows.{Who, refuses, moves_word}
use Rattle.gup_check_course.specs.declared.course.Course.{Course}
use Rattle.gup_check_course.specs.declared.course.Course.TheVariants.{Start, Taking, Moved, Forking, Copying, Walking, Stopped, Dropping, Slow, Short, Closing}
use Rattle.gup_check_course.specs.declared.course.Step.{Step}
use Rattle.gup_check_course.specs.declared.course.Step.TheVariants.{On, Ended}
use Rattle.gup_check_course.specs.Arcs.{Arc, on_event, on_answer, arcs, begins, taken, next_of, moved, made, dropped, stopped, copied, first_try, has_word, refuses_at, refuses_later, takes_down, tries, makes, stops, drops, goes_slowly}
use Rattle.gup_check_course.proofs.Finish.{Finishes, Among, among, event_taken, answer_taken, passed_over, ends_with, goes_with}

-- the courses that an operation comes to
abbrev pub Fits : Op → Course → Type 0
Fits op Start = Unit {0}
Fits op (Closing answer) = Unit {0}
Fits (Unmap page n) (Taking next) = Unit {0}
Fits (Discard page n) (Taking next) = Unit {0}
Fits Exit (Taking next) = Unit {0}
Fits (Transfer handle outward slot parts) (Moved k) = k < words_of parts
Fits (Fork child) (Forking from) = Unit {0}
Fits (Fork child) (Copying page word) = word < words
Fits (Pin handle page n want fast) (Walking k) = (0 < k) × (k ≤ n)
Fits (Pin handle page n want fast) (Stopped k) = (0 < k) × (k < n)
Fits (Pin handle page n want fast) (Dropping j k) = (j < k) × (k ≤ n)
Fits (Pin handle page n want fast) (Slow k) = k ≤ n
Fits (Pin handle page n want fast) (Short k) = Unit {0}
Fits op course = ⊥

abbrev FitsBehind : Op → Step → Type 0
FitsBehind op (On course) = Fits op course
FitsBehind op Ended = Unit {0}

abbrev AllFit : Op → List Arc → Type 0
AllFit op [] = Unit {0}
AllFit op (here ∷ later) = (here.allowed ≡ true → FitsBehind op here.step) × AllFit op later

one_fits : (op : Op) (what : What) (step : Step) (these : List Arc) → AllFit op these → Among what step these → FitsBehind op step
one_fits op what step [] fit is = absurd is
one_fits op what step (here ∷ later) fit (inl is) = subst (FitsBehind op) is.2 (fit.0 is.0)
one_fits op what step (here ∷ later) fit (inr is) = one_fits op what step later fit.1 is

pub lt_true : (m n : ℕ) → nat_lt m n ≡ true → m < n
lt_true m n is = grind (arith, nat_tests)

pub word_within : (parts : List Part) (k : ℕ) → has_word parts k ≡ true → k < words_of parts
word_within parts k is = grind (arith, nat_tests)

moved_fits : (handle : ℕ) (outward : Bool) (slot : ℕ) (parts : List Part) (k : ℕ) → has_word parts k ≡ true → Fits (Transfer handle outward slot parts) (moved (k + 1) (words_of parts))
moved_fits handle outward slot parts k may = by_test ((k + 1) == words_of parts) refl
  where
    by_test : (test : Bool) → ((k + 1) == words_of parts) ≡ test → Fits (Transfer handle outward slot parts) (cond test (Closing answers.Words) (Moved (k + 1)))
    by_test true is = tt
    by_test false is = let less : k < words_of parts = word_within parts k may in grind (arith, nat_tests)

copied_fits : (child page word all : ℕ) → nat_lt word all ≡ true → (test : Bool) → ((word + 1) == all) ≡ test → all ≡ words → Fits (Fork child) (cond test (Forking (page + 1)) (Copying page (word + 1)))
copied_fits child page word all may true is whole = tt
copied_fits child page word all may false is whole = subst (λ (n : ℕ). word + 1 < n) whole (grind (arith, nat_tests))

made_fits : (handle page n : ℕ) (want : Want) (fast : Bool) (k : ℕ) → Fits (Pin handle page n want fast) (made k n)
made_fits handle page n want fast k = by_test (k == n)
  where
    by_test : (test : Bool) → Fits (Pin handle page n want fast) (cond test (Closing (answers.Pinned n)) (Short k))
    by_test true = tt
    by_test false = tt

dropped_fits : (handle page n : ℕ) (want : Want) (fast : Bool) (j k : ℕ) → k ≤ n → nat_lt j k ≡ true → Fits (Pin handle page n want fast) (dropped (j + 1) k)
dropped_fits handle page n want fast j k within may = by_test ((j + 1) == k) refl
  where
    by_test : (test : Bool) → ((j + 1) == k) ≡ test → Fits (Pin handle page n want fast) (cond test (Slow 0) (Dropping (j + 1) k))
    by_test true is = omega arith
    by_test false is = (grind (arith, nat_tests), within)

stopped_fits : (handle page n : ℕ) (want : Want) (fast : Bool) (k : ℕ) → k < n → Fits (Pin handle page n want fast) (stopped k)
stopped_fits handle page n want fast zero within = omega arith
stopped_fits handle page n want fast (suc k) within = (omega arith, within)

tried_fits : (handle page n : ℕ) (want : Want) (fast first : Bool) → nat_lt 0 n ≡ true → Fits (Pin handle page n want fast) (first_try first (0 + 1))
tried_fits handle page n want fast true may = let some : 0 < n = lt_true 0 n may in (omega arith, omega arith)
tried_fits handle page n want fast false may = let some : 0 < n = lt_true 0 n may in omega arith

all_fit : (who : Who) (op : Op) (course : Course) (what : What) → Fits op course → AllFit op (arcs who op course what)
all_fit who op (Closing answer) what fits = (λ may. tt, tt)
all_fit who (Load page word) Start what fits = (λ may. tt, (λ may. tt, tt))
all_fit who (Store page word value) Start what fits = (λ may. tt, (λ may. tt, tt))
all_fit who (Map page n rights) Start what fits = (λ may. tt, (λ may. tt, tt))
all_fit who (Protect page n rights) Start what fits = (λ may. tt, (λ may. tt, tt))
all_fit who (Unmap page n) Start what fits = (λ may. tt, (λ may. tt, (λ may. tt, tt)))
all_fit who (Discard page n) Start what fits = (λ may. tt, (λ may. tt, (λ may. tt, tt)))
all_fit who (Pin handle page n want fast) Start what fits = (λ may. tt, (λ may. tried_fits handle page n want fast fast may, tt))
all_fit who (Unpin handle) Start what fits = (λ may. tt, (λ may. tt, tt))
all_fit who (Give handle to) Start what fits = (λ may. tt, (λ may. tt, tt))
all_fit who (Take handle) Start what fits = (λ may. tt, (λ may. tt, tt))
all_fit who (Get handle page) Start what fits = (λ may. tt, (λ may. tt, tt))
all_fit who (Put handle) Start what fits = (λ may. tt, (λ may. tt, tt))
all_fit who (Transfer handle outward slot parts) Start what fits = (λ may. tt, (λ may. moved_fits handle outward slot parts 0 may, tt))
all_fit who (Mirror mirror proc page) Start what fits = (λ may. tt, (λ may. tt, tt))
all_fit who (Look mirror word) Start what fits = (λ may. tt, (λ may. tt, tt))
all_fit who (Move proc page zone) Start what fits = (λ may. tt, (λ may. tt, tt))
all_fit who (Fork child) Start what fits = (λ may. tt, (λ may. tt, (λ may. tt, tt)))
all_fit who Exit Start what fits = (λ may. tt, (λ may. tt, (λ may. tt, tt)))
all_fit who (Unmap page n) (Taking next) what fits = (λ may. tt, (λ may. tt, tt))
all_fit who (Discard page n) (Taking next) what fits = (λ may. tt, (λ may. tt, tt))
all_fit who Exit (Taking next) what fits = (λ may. tt, (λ may. tt, tt))
all_fit who (Transfer handle outward slot parts) (Moved k) what fits = (λ may. moved_fits handle outward slot parts k may, tt)
all_fit who (Fork child) (Forking from) what fits = (λ may. tt, (λ may. omega arith, (λ may. tt, (λ may. tt, tt))))
all_fit who (Fork child) (Copying page word) what fits = (λ may. copied_fits child page word words may ((word + 1) == words) refl refl, tt)
all_fit who (Pin handle page n want fast) (Walking k) what fits = (
  λ may. (let more : k < n = lt_true k n may in (omega arith, omega arith)),
  (
    λ may. made_fits handle page n want fast k,
    (
      λ may. (let some : 0 < k = fits.0 in let few : k ≤ n = fits.1 in stopped_fits handle page n want fast (k - 1) (omega arith)),
      (λ may. dropped_fits handle page n want fast 0 k fits.1 may, tt),
    ),
  ),
)
all_fit who (Pin handle page n want fast) (Stopped k) what fits = (
  λ may. (let more : k < n = lt_true k n may in omega arith),
  (
    λ may. made_fits handle page n want fast k,
    (λ may. (let few : k < n = fits.1 in dropped_fits handle page n want fast 0 k (omega arith) may), tt),
  ),
)
all_fit who (Pin handle page n want fast) (Dropping j k) what fits = (λ may. dropped_fits handle page n want fast j k fits.1 may, tt)
all_fit who (Pin handle page n want fast) (Slow k) what fits =
    (λ may. (let more : k < n = lt_true k n may in omega arith), (λ may. made_fits handle page n want fast k, (λ may. tt, tt)))
all_fit who (Pin handle page n want fast) (Short k) what fits = (λ may. tt, tt)
all_fit who op course what fits = absurd fits

pub fits_on : (who : Who) (op : Op) (course on : Course) (what : What) → Fits op course → next_of who op course what ≡ Some (On on) → Fits op on
fits_on who op course on what fits is =
    one_fits op what (On on) (arcs who op course what) (all_fit who op course what fits) (among what (On on) (arcs who op course what) is)

-- The end of each.

abbrev Ending : Who → Op → Course → Type 0
Ending who op course = (whats : List What) × Finishes who op course whats

answered : (who : Who) (op : Op) (course : Course) (answer : Answer) → next_of who op course (Done answer) ≡ Some Ended → Ending who op course
answered who op course answer is = (Done answer ∷ [], ends_with who op course (Done answer) is)

behind_event : (who : Who) (op : Op) (course on : Course) (what : What) → next_of who op course what ≡ Some (On on) → Ending who op on → Ending who op course
behind_event who op course on what is ending = (what ∷ ending.0, goes_with who op course on what ending.0 is ending.1)

closes : (who : Who) (op : Op) (answer : Answer) → Ending who op (Closing answer)
closes who op answer = answered who op (Closing answer) answer (answer_taken true answer [] refl)

pub lt_is : (m n : ℕ) → m < n → nat_lt m n ≡ true
lt_is m n less = grind (arith, nat_tests)

-- a transfer moves what is left

pub word_there : (parts : List Part) (k : ℕ) → k < words_of parts → words_of parts ≤ most_words → has_word parts k ≡ true
word_there parts k more few = grind (arith, nat_tests)

pub word_moved : (who : Who) (handle : ℕ) (outward : Bool) (slot : ℕ) (parts : List Part) (k value : ℕ) → k < words_of parts → words_of parts ≤ most_words → next_of who (Transfer handle outward slot parts) (Moved k) (Event (moves_word who.actor handle outward (word_at parts k) (slot + k) value)) ≡ Some (On (moved (k + 1) (words_of parts)))
word_moved who handle true slot parts k value more few =
    event_taken (has_word parts k) (moves_word who.actor handle true (word_at parts k) (slot + k) value) (moved (k + 1) (words_of parts)) [] (word_there parts k more few)
word_moved who handle false slot parts k value more few =
    event_taken (has_word parts k) (moves_word who.actor handle false (word_at parts k) (slot + k) value) (moved (k + 1) (words_of parts)) [] (word_there parts k more few)

pub unequal : (m n : ℕ) → m < n → (m == n) ≡ false
unequal m n less = grind (arith, nat_tests)

pub last_moved : (k all : ℕ) → k ≡ all → moved k all ≡ Closing answers.Words
last_moved k all is = rw (eq-eqb k all is) refl

pub more_moved : (k all : ℕ) → k < all → moved k all ≡ Moved k
more_moved k all less = rw (unequal k all less) refl

moves_left : (who : Who) (handle : ℕ) (outward : Bool) (slot : ℕ) (parts : List Part) (left k : ℕ) → k + suc left ≡ words_of parts → words_of parts ≤ most_words → Ending who (Transfer handle outward slot parts) (Moved k)
moves_left who handle outward slot parts zero k all few =
    let op : Op = Transfer handle outward slot parts in
    behind_event who op (Moved k) (Closing answers.Words) (Event (moves_word who.actor handle outward (word_at parts k) (slot + k) 0))
    (word_moved who handle outward slot parts k 0 (omega arith) few ∙ ap (λ (c : Course). Some (On c)) (last_moved (k + 1) (words_of parts) (omega arith)))
    (closes who op answers.Words)
moves_left who handle outward slot parts (suc left) k all few =
    let op : Op = Transfer handle outward slot parts in
    behind_event who op (Moved k) (Moved (k + 1)) (Event (moves_word who.actor handle outward (word_at parts k) (slot + k) 0))
    (word_moved who handle outward slot parts k 0 (omega arith) few ∙ ap (λ (c : Course). Some (On c)) (more_moved (k + 1) (words_of parts) (omega arith)))
    (moves_left who handle outward slot parts left (k + 1) (omega arith) few)

pub gap_between : (m n : ℕ) → m < n → (left : ℕ) × (m + suc left ≡ n)
gap_between m n less = (n - m - 1, omega arith)

-- pages are taken down

pub down_answered : (event : ℕ → PlainEvent) (next end : ℕ) → taken (Done answers.Plain) (takes_down event next end (Done answers.Plain)) ≡ Some Ended
down_answered event next end =
    passed_over (Done answers.Plain) (on_event (nat_le next 0 && nat_lt 0 end) (event 0) (Taking (0 + 1))) (on_answer true answers.Plain ∷ []) refl
    ∙ answer_taken true answers.Plain [] refl

-- a fork

pub fork_fails : (who : Who) (child from : ℕ) → next_of who (Fork child) (Forking from) (Event (events.ForkFail child)) ≡ Some (On (Closing answers.NoFrame))
fork_fails who child from =
    let fail : Arc = on_event true (events.ForkFail child) (Closing answers.NoFrame) in
    let rest : List Arc = on_event true (events.ForkEnd who.proc child) (Closing answers.Plain) ∷ fail ∷ [] in
    let word : Arc = on_event (nat_le from 0) (events.ForkWord who.proc child 0 0) (Copying 0 1) in
    let page : Arc = on_event (nat_le from 0) (events.ForkPage who.proc child 0) (Forking (0 + 1)) in
    passed_over (Event (events.ForkFail child)) page (word ∷ rest) refl ∙ passed_over (Event (events.ForkFail child)) word rest refl
    ∙ event_taken true (events.ForkFail child) (Closing answers.NoFrame) [] refl

fork_ends : (who : Who) (child from : ℕ) → Ending who (Fork child) (Forking from)
fork_ends who child from =
    behind_event who (Fork child) (Forking from) (Closing answers.NoFrame) (Event (events.ForkFail child)) (fork_fails who child from) (closes who (Fork child) answers.NoFrame)

pub last_copied : (page word : ℕ) → word ≡ words → copied page word ≡ Forking (page + 1)
last_copied page word is = rw (eq-eqb word words is) refl

pub more_copied : (page word : ℕ) → word < words → copied page word ≡ Copying page word
more_copied page word less = rw (unequal word words less) refl

pub word_copied : (who : Who) (child page word : ℕ) → word < words → next_of who (Fork child) (Copying page word) (Event (events.ForkWord who.proc child page word)) ≡ Some (On (copied page (word + 1)))
word_copied who child page word less = event_taken (nat_lt word words) (events.ForkWord who.proc child page word) (copied page (word + 1)) [] (lt_is word words less)

copies_left : (who : Who) (child page left word : ℕ) → word + suc left ≡ words → Ending who (Fork child) (Copying page word)
copies_left who child page zero word all =
    behind_event who (Fork child) (Copying page word) (Forking (page + 1)) (Event (events.ForkWord who.proc child page word))
    (word_copied who child page word (omega arith) ∙ ap (λ (c : Course). Some (On c)) (last_copied page (word + 1) (omega arith)))
    (fork_ends who child (page + 1))
copies_left who child page (suc left) word all =
    behind_event who (Fork child) (Copying page word) (Copying page (word + 1)) (Event (events.ForkWord who.proc child page word))
    (word_copied who child page word (omega arith) ∙ ap (λ (c : Course). Some (On c)) (more_copied page (word + 1) (omega arith)))
    (copies_left who child page left (word + 1) (omega arith))

-- a pin

short_ends : (who : Who) (handle page n : ℕ) (want : Want) (fast : Bool) (k : ℕ) → Ending who (Pin handle page n want fast) (Short k)
short_ends who handle page n want fast k =
    answered who (Pin handle page n want fast) (Short k) (answers.Short k n causes.Missing) (answer_taken true (answers.Short k n causes.Missing) [] refl)

made_ends : (who : Who) (handle page n : ℕ) (want : Want) (fast : Bool) (k : ℕ) → Ending who (Pin handle page n want fast) (made k n)
made_ends who handle page n want fast k = by_test (k == n)
  where
    by_test : (test : Bool) → Ending who (Pin handle page n want fast) (cond test (Closing (answers.Pinned n)) (Short k))
    by_test true = closes who (Pin handle page n want fast) (answers.Pinned n)
    by_test false = short_ends who handle page n want fast k

-- where a page can be tried, the handle can be made, whatever else can come
pub handle_made : (who : Who) (handle page n : ℕ) (want : Want) (k : ℕ) (course : ℕ → Course) (later : List Arc) → 0 < k → taken (Event (events.PinOk who.actor handle)) (tries who page n want k course ∷ makes who handle n k ∷ later) ≡ Some (On (made k n))
handle_made who handle page n want k course later some =
    passed_over (Event (events.PinOk who.actor handle)) (tries who page n want k course) (makes who handle n k ∷ later) refl
    ∙ event_taken (nat_lt 0 k) (events.PinOk who.actor handle) (made k n) later (lt_is 0 k some)

walk_ends : (who : Who) (handle page n : ℕ) (want : Want) (fast : Bool) (k : ℕ) → 0 < k → Ending who (Pin handle page n want fast) (Walking k)
walk_ends who handle page n want fast k some =
    behind_event who (Pin handle page n want fast) (Walking k) (made k n) (Event (events.PinOk who.actor handle))
    (handle_made who handle page n want k Walking (stops who page k ∷ drops who page 0 k ∷ []) some) (made_ends who handle page n want fast k)

stop_ends : (who : Who) (handle page n : ℕ) (want : Want) (fast : Bool) (k : ℕ) → 0 < k → Ending who (Pin handle page n want fast) (Stopped k)
stop_ends who handle page n want fast k some =
    behind_event who (Pin handle page n want fast) (Stopped k) (made k n) (Event (events.PinOk who.actor handle))
    (handle_made who handle page n want k Slow (drops who page 0 k ∷ []) some) (made_ends who handle page n want fast k)

-- a refusal where it goes slowly
pub refused_slowly : (who : Who) (op : Op) (handle page n : ℕ) (want : Want) (answer : Answer) → refuses_later op answer ≡ true → taken (Done answer) (goes_slowly who op handle page n want 0 (Done answer)) ≡ Some Ended
refused_slowly who op handle page n want answer may =
    let refused : Arc = on_answer (refuses_at op 0 answer) answer in
    passed_over (Done answer) (tries who page n want 0 Slow) (makes who handle n 0 ∷ refused ∷ []) refl
    ∙ passed_over (Done answer) (makes who handle n 0) (refused ∷ []) refl ∙ answer_taken (refuses_at op 0 answer) answer [] may

slow_ends : (who : Who) (handle page n : ℕ) (want : Want) (fast : Bool) (k : ℕ) → Ending who (Pin handle page n want fast) (Slow k)
slow_ends who handle page n want fast zero =
    answered who (Pin handle page n want fast) (Slow 0) answers.Missing (refused_slowly who (Pin handle page n want fast) handle page n want answers.Missing refl)
slow_ends who handle page n want fast (suc k) =
    let op : Op = Pin handle page n want fast in
    behind_event who op (Slow (suc k)) (made (suc k) n) (Event (events.PinOk who.actor handle))
    (handle_made who handle page n want (suc k) Slow (on_answer (refuses_at op (suc k) answers.Plain) answers.Plain ∷ []) (omega arith)) (made_ends who handle page n want fast (suc k))

pub last_dropped : (j k : ℕ) → j ≡ k → dropped j k ≡ Slow 0
last_dropped j k is = rw (eq-eqb j k is) refl

pub more_dropped : (j k : ℕ) → j < k → dropped j k ≡ Dropping j k
more_dropped j k less = rw (unequal j k less) refl

pub page_dropped : (who : Who) (handle page n : ℕ) (want : Want) (fast : Bool) (j k : ℕ) → j < k → next_of who (Pin handle page n want fast) (Dropping j k) (Event (events.PinDrop who.actor (page + j))) ≡ Some (On (dropped (j + 1) k))
page_dropped who handle page n want fast j k less = event_taken (nat_lt j k) (events.PinDrop who.actor (page + j)) (dropped (j + 1) k) [] (lt_is j k less)

drops_left : (who : Who) (handle page n : ℕ) (want : Want) (fast : Bool) (left j k : ℕ) → j + suc left ≡ k → Ending who (Pin handle page n want fast) (Dropping j k)
drops_left who handle page n want fast zero j k all =
    let op : Op = Pin handle page n want fast in
    behind_event who op (Dropping j k) (Slow 0) (Event (events.PinDrop who.actor (page + j)))
    (page_dropped who handle page n want fast j k (omega arith) ∙ ap (λ (c : Course). Some (On c)) (last_dropped (j + 1) k (omega arith)))
    (slow_ends who handle page n want fast 0)
drops_left who handle page n want fast (suc left) j k all =
    let op : Op = Pin handle page n want fast in
    behind_event who op (Dropping j k) (Dropping (j + 1) k) (Event (events.PinDrop who.actor (page + j)))
    (page_dropped who handle page n want fast j k (omega arith) ∙ ap (λ (c : Course). Some (On c)) (more_dropped (j + 1) k (omega arith)))
    (drops_left who handle page n want fast left (j + 1) k (omega arith))

-- what hasn't begun may be refused

refused : (who : Who) (op : Op) (answer : Answer) → refuses op answer ≡ true → Ending who op Start
refused who op answer may = answered who op Start answer (answer_taken (refuses op answer) answer (begins who op (Done answer)) may)

start_ends : (who : Who) (op : Op) → Ending who op Start
start_ends who (Transfer handle outward slot parts) = refused who (Transfer handle outward slot parts) answers.NotHeld refl
start_ends who (Look mirror word) = refused who (Look mirror word) answers.Stale refl
start_ends who (Fork child) =
    behind_event who (Fork child) Start (Closing answers.Unborn) (Event (events.ForkFail child))
    (event_taken true (events.ForkFail child) (Closing answers.Unborn) [] refl) (closes who (Fork child) answers.Unborn)
start_ends who op = refused who op answers.Unborn refl

pub finishable : (who : Who) (op : Op) (course : Course) → IsOp op → Fits op course → Ending who op course
finishable who op Start valid fits = start_ends who op
finishable who op (Closing answer) valid fits = closes who op answer
finishable who (Unmap page n) (Taking next) valid fits =
    answered who (Unmap page n) (Taking next) answers.Plain (down_answered (events.Unmap who.actor who.proc) next (page + n))
finishable who (Discard page n) (Taking next) valid fits =
    answered who (Discard page n) (Taking next) answers.Plain (down_answered (events.Discard who.actor who.proc) next (page + n))
finishable who Exit (Taking next) valid fits = answered who Exit (Taking next) answers.Plain refl
finishable who (Transfer handle outward slot parts) (Moved k) valid fits =
    let gap = gap_between k (words_of parts) fits in moves_left who handle outward slot parts gap.0 k gap.1 valid.0.2
finishable who (Fork child) (Forking from) valid fits = fork_ends who child from
finishable who (Fork child) (Copying page word) valid fits =
    let gap = gap_between word words fits in copies_left who child page gap.0 word gap.1
finishable who (Pin handle page n want fast) (Walking k) valid fits = walk_ends who handle page n want fast k fits.0
finishable who (Pin handle page n want fast) (Stopped k) valid fits = stop_ends who handle page n want fast k fits.0
finishable who (Pin handle page n want fast) (Dropping j k) valid fits =
    let gap = gap_between j k fits.0 in drops_left who handle page n want fast gap.0 j k gap.1
finishable who (Pin handle page n want fast) (Slow k) valid fits = slow_ends who handle page n want fast k
finishable who (Pin handle page n want fast) (Short k) valid fits = short_ends who handle page n want fast k
finishable who op course valid fits = absurd fits
