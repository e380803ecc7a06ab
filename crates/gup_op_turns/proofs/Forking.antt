-- The events of a turn of a fork are the fork's own, or a frame is taken for a copy. They are of no pin, and leave other processes,
-- other births, and where other forks stand.
use Rattle.std.proofs.Common.{◌≡◌, ℕ, ◌+◌, Bool, true, false, List, [], ◌∷◌, nat_lt, Option, Some, None, zero, suc, refl, ap, ◌∙◌, arith}
use Rattle.gup_base.specs.declared.entry.Allowed.TheVariants.{Any}
use Rattle.std.proofs.lemmas.Bool.Decides.{nat_tests}
use Rattle.gup_base.specs.declared.entry.Entry.{Entry}
use Rattle.gup_plain.specs.Event.{page_numbers, words}
use Rattle.gup_space.specs.Space.{SpaceValue}
use Rattle.gup_space.specs.Shows.{ShowsSpace}
use Rattle.gup_fork.proofs.ForkAfter.{IsForkEvent, beginning, counting, lowering, unmarking, giving, passing, ending, writing, placing, failing_at, putting}
use Rattle.gup_fork.proofs.ForkLemmas.{leaves_others, job_stays, birth_stays}
use Rattle.gup_spec_events.specs.State.{CoreState, Job, idle, forking, ForkStep, between, counted, copying}
use Rattle.gup_spec_events.specs.Event.{CoreEvent, happens, take_frame, run, has_tables}
use Rattle.gup_spec_events.specs.Failure.{are_gone, puts_entry, puts_entries}
use Rattle.gup_spec_turns.specs.ForkTurns.{page_turn, next_page, next_turn, failed_at, share_turn, frame_turn, copy_turn, copying_turn, fork_step_turn, fork_turn}
use Rattle.gup_spec_turns.specs.CoreTurn.{frame_for}
use Rattle.gup_spec_turns.specs.JobPlace.{job_place, place_in}
use Rattle.gup_op_turns.proofs.Owning.{AreAll, through, two_lists, pins_of}

-- an event of a turn of a fork of process p into c by actor a
pub data IsForking (a p c : ℕ) : CoreEvent → Type 0 where
  forks : (e : CoreEvent) → IsForkEvent a p c e → IsForking a p c e
  takes : (f : ℕ) → IsForking a p c (take_frame a f)

abbrev pub AreForking : (a p c : ℕ) → List CoreEvent → Type 0
AreForking a p c es = AreAll (IsForking a p c) es

-- ---- the turns

page_own : (s : CoreState) (a p c : ℕ) (done : List ℕ) (page : ℕ) (entry : Option Entry) → AreForking a p c (page_turn s a p c done page entry).events
page_own s a p c done page None = (forks _ (passing done page), tt)
page_own s a p c done page (Some e) = (forks _ (counting done page e _), tt)

next_own : (s : CoreState) (a p c : ℕ) (done : List ℕ) (next : Option ℕ) → AreForking a p c (next_turn s a p c done next).events
next_own s a p c done None = (forks _ (ending done), tt)
next_own s a p c done (Some page) = page_own s a p c done page (s.entry p page)

-- a failure gives back the references of the child's entries
put_own : (a p c : ℕ) (done : List ℕ) (page : ℕ) (entry : Option Entry) (ends : Bool) → AreForking a p c (puts_entry a p c done page entry ends)
put_own a p c done page None ends = tt
put_own a p c done page (Some e) ends = (forks _ (putting done page e ends), tt)

puts_own : (a p c : ℕ) (done : List ℕ) (entry : ℕ → Option Entry) (first n : ℕ) → AreForking a p c (puts_entries a p c done entry first n)
puts_own a p c done entry first zero = tt
puts_own a p c done entry first (suc n) =
    let ends = are_gone entry (first + 1) n in
    two_lists (IsForking a p c) (puts_entry a p c done first (entry first) ends) (puts_entries a p c done entry (first + 1) n) (put_own a p c done first (entry first) ends) (puts_own a p c done entry (first + 1) n)

failed_own : (s : CoreState) (a p c : ℕ) (done : List ℕ) (step : ForkStep) → AreForking a p c (failed_at s a p c done step).events
failed_own s a p c done step =
    (forks _ (failing_at done step (are_gone (s.entry c) 0 page_numbers)), puts_own a p c done (s.entry c) 0 page_numbers)

share_own : (s : CoreState) (a p c : ℕ) (done : List ℕ) (page : ℕ) (entry : Option Entry) (may : Bool) → AreForking a p c (share_turn s a p c done page entry may).events
share_own s a p c done page entry true =
    (forks _ (lowering done page _ _), (forks _ (unmarking done page _ false), (forks _ (giving done page _ false), tt)))
share_own s a p c done page entry false = failed_own s a p c done (counted page)

frame_own : (s : CoreState) (a p c : ℕ) (done : List ℕ) (page word : ℕ) (free : Option ℕ) → AreForking a p c (frame_turn s a p c done page word free).events
frame_own s a p c done page word None = failed_own s a p c done (copying page word)
frame_own s a p c done page word (Some f) = (takes f, tt)

copy_own : (s : CoreState) (a p c : ℕ) (done : List ℕ) (page word to : ℕ) (more : Bool) → AreForking a p c (copy_turn s a p c done page word to more).events
copy_own s a p c done page word to true = (forks _ (writing done page word to _), tt)
copy_own s a p c done page word to false = (forks _ (placing done page to _), tt)

copying_own : (s : CoreState) (a p c : ℕ) (done : List ℕ) (page word : ℕ) (prepared : Option ℕ) → AreForking a p c (copying_turn s a p c done page word prepared).events
copying_own s a p c done page word None = frame_own s a p c done page word (frame_for s c page Any)
copying_own s a p c done page word (Some to) = copy_own s a p c done page word to (nat_lt word words)

step_own : (s : CoreState) (a p c : ℕ) (done : List ℕ) (step : ForkStep) → AreForking a p c (fork_step_turn s a p c done step).events
step_own s a p c done between = next_own s a p c done (next_page (s.right c) done)
step_own s a p c done (counted page) = share_own s a p c done page (s.entry p page) (has_tables s c page)
step_own s a p c done (copying page word) = copying_own s a p c done page word (s.prepared a)
step_own s a p c done step = tt

pub fork_is_own : (s : CoreState) (a p c : ℕ) (job : Job) → AreForking a p c (fork_turn s a p c job).events
fork_is_own s a p c (forking q d done step) = step_own s a p c done step
fork_is_own s a p c idle = (forks _ beginning, tt)
fork_is_own s a p c job = tt

-- ---- what they leave

fork_leaves_pins : (a p c : ℕ) (s : CoreState) {e : CoreEvent} → IsForkEvent a p c e → pins_of (happens s e) ≡ pins_of s
fork_leaves_pins a p c s beginning = refl
fork_leaves_pins a p c s event = refl

forking_leaves_pins : (a p c : ℕ) (s : CoreState) {e : CoreEvent} → IsForking a p c e → pins_of (happens s e) ≡ pins_of s
forking_leaves_pins a p c s (forks e own) = fork_leaves_pins a p c s own
forking_leaves_pins a p c s (takes f) = refl

pub fork_leave_pins : (a p c : ℕ) (s : CoreState) (es : List CoreEvent) → AreForking a p c es → pins_of (run s es) ≡ pins_of s
fork_leave_pins a p c s es own = through (IsForking a p c) pins_of (λ x e is. forking_leaves_pins a p c x is) s es own

-- of other processes

forking_leaves : (a p c q : ℕ) (space : SpaceValue) (s : CoreState) {e : CoreEvent} → (p ≡ q → ⊥) → (c ≡ q → ⊥) → IsForking a p c e → ShowsSpace q space s → ShowsSpace q space (happens s e)
forking_leaves a p c q space s parent child (forks e own) h = leaves_others a p c q space s parent child own h
forking_leaves a p c q space s parent child (takes f) h =
    record { right = h.right; pages = h.pages; entry = h.entry; sequence = h.sequence; has_pinned = h.has_pinned; structure = h.structure; table = h.table; walks = h.walks; place = h.place; retired = h.retired }

pub fork_leaves_others : (a p c q : ℕ) (space : SpaceValue) (s : CoreState) (es : List CoreEvent) → (p ≡ q → ⊥) → (c ≡ q → ⊥) → AreForking a p c es → ShowsSpace q space s → ShowsSpace q space (run s es)
fork_leaves_others a p c q space s [] parent child own h = h
fork_leaves_others a p c q space s (e ∷ es) parent child own h =
    fork_leaves_others a p c q space (happens s e) es parent child own.1 (forking_leaves a p c q space s parent child own.0 h)

forking_births : (a p c q : ℕ) (s : CoreState) {e : CoreEvent} → (c ≡ q → ⊥) → IsForking a p c e → (happens s e).birth q ≡ s.birth q
forking_births a p c q s other (forks e own) = birth_stays a p c q s other own
forking_births a p c q s other (takes f) = refl

pub fork_births_stay : (a p c q : ℕ) (s : CoreState) (es : List CoreEvent) → (c ≡ q → ⊥) → AreForking a p c es → (run s es).birth q ≡ s.birth q
fork_births_stay a p c q s es other own = through (IsForking a p c) (λ x. x.birth q) (λ x e is. forking_births a p c q x other is) s es own

-- of other actors: their jobs, and the frames that they have prepared

fork_frame : (a p c b : ℕ) (s : CoreState) {e : CoreEvent} → (a ≡ b → ⊥) → IsForkEvent a p c e → (happens s e).prepared b ≡ s.prepared b
fork_frame a p c b s other (placing done page to rights) = grind (arith, nat_tests)
fork_frame a p c b s other event = refl

forking_place : (a p c b : ℕ) (s : CoreState) {e : CoreEvent} → (a ≡ b → ⊥) → IsForking a p c e → place_in (happens s e) b ≡ place_in s b
forking_place a p c b s other (forks e own) =
    ap (λ job. job_place job ((happens s e).prepared b)) (job_stays a p c b s other own) ∙ ap (λ f. job_place (s.job b) f) (fork_frame a p c b s other own)
forking_place a p c b s other (takes f) =
    let same : (happens s (take_frame a f)).prepared b ≡ s.prepared b = grind (arith, nat_tests) in
    ap (λ g. job_place (s.job b) g) same

pub fork_places_stay : (a p c b : ℕ) (s : CoreState) (es : List CoreEvent) → (a ≡ b → ⊥) → AreForking a p c es → place_in (run s es) b ≡ place_in s b
fork_places_stay a p c b s es other own = through (IsForking a p c) (λ x. place_in x b) (λ x e is. forking_place a p c b x other is) s es own
