-- A fork's events leave every process but the parent and the child as it is, and what they make of these two and of frames
-- is shown.
use Rattle.std.specs.Prelude.{◌≡◌, ℕ, true, false, List, [], ◌∷◌, Option, None}
use Rattle.std.proofs.Common.{refl, sym, ap, subst, ◌∙◌, arith}
use Rattle.std.proofs.lemmas.Bool.Decides.{nat_tests}
use Rattle.gup_plain.specs.Pages.{mapped_pages}
use Rattle.gup_plain.specs.Put.{put}
use Rattle.gup_frames.specs.Frames.{FramesValue}
use Rattle.gup_space.specs.Shows.{ShowsFrames, ShowsSpace}
use Rattle.gup_space.specs.Space.{SpaceValue}
use Rattle.gup_space.proofs.ShowsLemmas.{shown_as}
use Rattle.gup_spec_events.specs.State.{CoreState, ForkStep, between, counted, lowered, cleared, copying, failing}
use Rattle.gup_spec_events.specs.Event.{CoreEvent, happens, run}
use Rattle.gup_fork.specs.Forks.{ForkChange, AreForkEvents, table_behind}
use Rattle.gup_fork.proofs.ForkAfter.{IsForkEvent, beginning, counting, lowering, unmarking, giving, passing, ending, writing, placing, failing_at, putting, AreOfFork, frames_behind, parent_behind, child_behind, all_frames_behind, all_parent_behind, all_child_behind, IsMadeByFork, IsShownByFork}

own_lock : (k : ℕ) (holder : Option ℕ) (f : ℕ → Option ℕ) → put k holder f k ≡ holder
own_lock k holder f = grind (arith, nat_tests)

own_count : (k n : ℕ) (f : ℕ → ℕ) → put k n f k ≡ n
own_count k n f = grind (arith, nat_tests)

other_count : (k j n : ℕ) (f : ℕ → ℕ) → (j ≡ k → ⊥) → put k n f j ≡ f j
other_count k j n f apart = grind (arith, nat_tests)

-- the table lock after a failure
own_table : (p : ℕ) (step : ForkStep) (f : ℕ → Option ℕ) → put p (elim step [ between ↦ f p | counted page ↦ None | lowered page ↦ None | cleared page ↦ None | copying page word ↦ None | failing ↦ None ]) f p ≡ table_behind step (f p)
own_table p between f = own_lock p (f p) f
own_table p (counted page) f = own_lock p None f
own_table p (lowered page) f = own_lock p None f
own_table p (cleared page) f = own_lock p None f
own_table p (copying page word) f = own_lock p None f
own_table p failing f = own_lock p None f

-- ---- other processes, other actors

pub leaves_others : (a p c q : ℕ) (space : SpaceValue) (s : CoreState) {e : CoreEvent} → (p ≡ q → ⊥) → (c ≡ q → ⊥) → IsForkEvent a p c e → ShowsSpace q space s → ShowsSpace q space (happens s e)
leaves_others a p c q space s parent child beginning h =
    record { right = λ g. grind (arith, nat_tests, h.right g); pages = grind (arith, nat_tests, h.pages); entry = h.entry; sequence = grind (arith, nat_tests, h.sequence); has_pinned = h.has_pinned; structure = grind (arith, nat_tests, h.structure); table = h.table; walks = h.walks; place = h.place; retired = h.retired }
leaves_others a p c q space s parent child (counting done page entry copies) h =
    record { right = h.right; pages = h.pages; entry = h.entry; sequence = h.sequence; has_pinned = h.has_pinned; structure = h.structure; table = grind (arith, nat_tests, h.table); walks = h.walks; place = h.place; retired = h.retired }
leaves_others a p c q space s parent child (lowering done page f writable) h =
    record { right = h.right; pages = h.pages; entry = λ g. grind (arith, nat_tests, h.entry g); sequence = h.sequence; has_pinned = h.has_pinned; structure = h.structure; table = h.table; walks = h.walks; place = h.place; retired = h.retired }
leaves_others a p c q space s parent child (unmarking done page f writable) h =
    record { right = h.right; pages = h.pages; entry = h.entry; sequence = h.sequence; has_pinned = h.has_pinned; structure = h.structure; table = h.table; walks = h.walks; place = h.place; retired = h.retired }
leaves_others a p c q space s parent child (giving done page f writable) h =
    record { right = h.right; pages = h.pages; entry = λ g. grind (arith, nat_tests, h.entry g); sequence = h.sequence; has_pinned = h.has_pinned; structure = h.structure; table = grind (arith, nat_tests, h.table); walks = h.walks; place = h.place; retired = h.retired }
leaves_others a p c q space s parent child (passing done page) h =
    record { right = h.right; pages = h.pages; entry = h.entry; sequence = h.sequence; has_pinned = h.has_pinned; structure = h.structure; table = h.table; walks = h.walks; place = h.place; retired = h.retired }
leaves_others a p c q space s parent child (ending done) h =
    record { right = h.right; pages = h.pages; entry = h.entry; sequence = grind (arith, nat_tests, h.sequence); has_pinned = h.has_pinned; structure = grind (arith, nat_tests, h.structure); table = h.table; walks = h.walks; place = h.place; retired = h.retired }
leaves_others a p c q space s parent child (writing done page word to e) h =
    record { right = h.right; pages = h.pages; entry = h.entry; sequence = h.sequence; has_pinned = h.has_pinned; structure = h.structure; table = h.table; walks = h.walks; place = h.place; retired = h.retired }
leaves_others a p c q space s parent child (placing done page to rights) h =
    record { right = h.right; pages = h.pages; entry = λ g. grind (arith, nat_tests, h.entry g); sequence = h.sequence; has_pinned = h.has_pinned; structure = h.structure; table = grind (arith, nat_tests, h.table); walks = h.walks; place = h.place; retired = h.retired }
leaves_others a p c q space s parent child (failing_at done step true) h =
    record { right = λ g. grind (arith, nat_tests, h.right g); pages = grind (arith, nat_tests, h.pages); entry = h.entry; sequence = grind (arith, nat_tests, h.sequence); has_pinned = h.has_pinned; structure = grind (arith, nat_tests, h.structure); table = grind (arith, nat_tests, h.table); walks = h.walks; place = h.place; retired = h.retired }
leaves_others a p c q space s parent child (failing_at done step false) h =
    record { right = λ g. grind (arith, nat_tests, h.right g); pages = grind (arith, nat_tests, h.pages); entry = h.entry; sequence = grind (arith, nat_tests, h.sequence); has_pinned = h.has_pinned; structure = h.structure; table = grind (arith, nat_tests, h.table); walks = h.walks; place = h.place; retired = h.retired }
leaves_others a p c q space s parent child (putting done page e true) h =
    record { right = h.right; pages = h.pages; entry = λ g. grind (arith, nat_tests, h.entry g); sequence = h.sequence; has_pinned = h.has_pinned; structure = grind (arith, nat_tests, h.structure); table = h.table; walks = h.walks; place = h.place; retired = h.retired }
leaves_others a p c q space s parent child (putting done page e false) h =
    record { right = h.right; pages = h.pages; entry = λ g. grind (arith, nat_tests, h.entry g); sequence = h.sequence; has_pinned = h.has_pinned; structure = h.structure; table = h.table; walks = h.walks; place = h.place; retired = h.retired }

pub job_stays : (a p c b : ℕ) (s : CoreState) {e : CoreEvent} → (a ≡ b → ⊥) → IsForkEvent a p c e → (happens s e).job b ≡ s.job b
job_stays a p c b s other beginning = grind (arith, nat_tests)
job_stays a p c b s other (counting done page entry copies) = grind (arith, nat_tests)
job_stays a p c b s other (lowering done page f writable) = grind (arith, nat_tests)
job_stays a p c b s other (unmarking done page f writable) = grind (arith, nat_tests)
job_stays a p c b s other (giving done page f writable) = grind (arith, nat_tests)
job_stays a p c b s other (passing done page) = grind (arith, nat_tests)
job_stays a p c b s other (ending done) = grind (arith, nat_tests)
job_stays a p c b s other (writing done page word to e) = grind (arith, nat_tests)
job_stays a p c b s other (placing done page to rights) = grind (arith, nat_tests)
job_stays a p c b s other (failing_at done step ends) = grind (arith, nat_tests)
job_stays a p c b s other (putting done page e true) = grind (arith, nat_tests)
job_stays a p c b s other (putting done page e false) = refl

pub birth_stays : (a p c q : ℕ) (s : CoreState) {e : CoreEvent} → (c ≡ q → ⊥) → IsForkEvent a p c e → (happens s e).birth q ≡ s.birth q
birth_stays a p c q s other beginning = grind (arith, nat_tests)
birth_stays a p c q s other (counting done page entry copies) = refl
birth_stays a p c q s other (lowering done page f writable) = refl
birth_stays a p c q s other (unmarking done page f writable) = refl
birth_stays a p c q s other (giving done page f writable) = refl
birth_stays a p c q s other (passing done page) = refl
birth_stays a p c q s other (ending done) = grind (arith, nat_tests)
birth_stays a p c q s other (writing done page word to e) = refl
birth_stays a p c q s other (placing done page to rights) = refl
birth_stays a p c q s other (failing_at done step ends) = grind (arith, nat_tests)
birth_stays a p c q s other (putting done page e ends) = refl

pub births_stay : (a p c q : ℕ) (s : CoreState) (es : List CoreEvent) → (c ≡ q → ⊥) → AreOfFork a p c es → (run s es).birth q ≡ s.birth q
births_stay a p c q s [] other of = refl
births_stay a p c q s (e ∷ es) other of = births_stay a p c q (happens s e) es other of.1 ∙ birth_stays a p c q s other of.0

-- ---- frames, the parent and the child

pub shows_frames : (a p c : ℕ) (frames : FramesValue) (s : CoreState) {e : CoreEvent} → IsForkEvent a p c e → ShowsFrames frames s → ShowsFrames (frames_behind e frames) (happens s e)
shows_frames a p c frames s beginning h =
    record { movable = h.movable; normal = h.normal; count = h.count; mark = h.mark; word = h.word; needs_tables = h.needs_tables }
shows_frames a p c frames s (counting done page entry copies) h =
    record { movable = h.movable; normal = h.normal; count = h.count; mark = h.mark; word = h.word; needs_tables = h.needs_tables }
shows_frames a p c frames s (lowering done page f writable) h =
    record { movable = h.movable; normal = h.normal; count = h.count; mark = h.mark; word = h.word; needs_tables = h.needs_tables }
shows_frames a p c frames s (unmarking done page f writable) h =
    record { movable = h.movable; normal = h.normal; count = h.count; mark = λ g. grind (arith, nat_tests, h.mark g); word = h.word; needs_tables = h.needs_tables }
shows_frames a p c frames s (giving done page f writable) h =
    record { movable = h.movable; normal = h.normal; count = λ g. grind (arith, nat_tests, h.count g, h.count f); mark = h.mark; word = h.word; needs_tables = h.needs_tables }
shows_frames a p c frames s (passing done page) h =
    record { movable = h.movable; normal = h.normal; count = h.count; mark = h.mark; word = h.word; needs_tables = h.needs_tables }
shows_frames a p c frames s (ending done) h =
    record { movable = h.movable; normal = h.normal; count = h.count; mark = h.mark; word = h.word; needs_tables = h.needs_tables }
shows_frames a p c frames s (writing done page word to e) h =
    record { movable = h.movable; normal = h.normal; count = h.count; mark = h.mark; word = λ g w. grind (arith, nat_tests, h.word g w, h.word e.frame word); needs_tables = h.needs_tables }
shows_frames a p c frames s (placing done page to rights) h =
    record { movable = h.movable; normal = h.normal; count = h.count; mark = λ g. grind (arith, nat_tests, h.mark g); word = h.word; needs_tables = h.needs_tables }
shows_frames a p c frames s (failing_at done step ends) h =
    record { movable = h.movable; normal = h.normal; count = h.count; mark = h.mark; word = h.word; needs_tables = h.needs_tables }
shows_frames a p c frames s (putting done page e ends) h =
    record { movable = h.movable; normal = h.normal; count = λ g. grind (arith, nat_tests, h.count g, h.count e.frame); mark = λ g. grind (arith, nat_tests, h.mark g, h.mark e.frame, h.count e.frame); word = h.word; needs_tables = h.needs_tables }

pub shows_parent : (a p c : ℕ) (parent : SpaceValue) (s : CoreState) {e : CoreEvent} → (p ≡ c → ⊥) → IsForkEvent a p c e → ShowsSpace p parent s → ShowsSpace p (parent_behind e parent) (happens s e)
shows_parent a p c parent s apart beginning h =
    record { right = λ g. grind (arith, nat_tests, h.right g); pages = other_count c p (mapped_pages (s.right p)) s.pages apart ∙ h.pages; entry = h.entry; sequence = grind (arith, nat_tests, h.sequence); has_pinned = h.has_pinned; structure = grind (arith, nat_tests, h.structure); table = h.table; walks = h.walks; place = h.place; retired = h.retired }
shows_parent a p c parent s apart (counting done page entry copies) h =
    record { right = h.right; pages = h.pages; entry = h.entry; sequence = h.sequence; has_pinned = h.has_pinned; structure = h.structure; table = grind (arith, nat_tests, h.table); walks = h.walks; place = h.place; retired = h.retired }
shows_parent a p c parent s apart (lowering done page f writable) h =
    record { right = h.right; pages = h.pages; entry = λ g. grind (arith, nat_tests, h.entry g); sequence = h.sequence; has_pinned = h.has_pinned; structure = h.structure; table = h.table; walks = h.walks; place = h.place; retired = h.retired }
shows_parent a p c parent s apart (unmarking done page f writable) h =
    record { right = h.right; pages = h.pages; entry = h.entry; sequence = h.sequence; has_pinned = h.has_pinned; structure = h.structure; table = h.table; walks = h.walks; place = h.place; retired = h.retired }
shows_parent a p c parent s apart (giving done page f writable) h =
    record { right = h.right; pages = h.pages; entry = λ g. grind (arith, nat_tests, h.entry g); sequence = h.sequence; has_pinned = h.has_pinned; structure = h.structure; table = grind (arith, nat_tests, h.table); walks = h.walks; place = h.place; retired = h.retired }
shows_parent a p c parent s apart (passing done page) h =
    record { right = h.right; pages = h.pages; entry = h.entry; sequence = h.sequence; has_pinned = h.has_pinned; structure = h.structure; table = h.table; walks = h.walks; place = h.place; retired = h.retired }
shows_parent a p c parent s apart (ending done) h =
    record { right = h.right; pages = h.pages; entry = h.entry; sequence = grind (arith, nat_tests, h.sequence); has_pinned = h.has_pinned; structure = grind (arith, nat_tests, h.structure); table = h.table; walks = h.walks; place = h.place; retired = h.retired }
shows_parent a p c parent s apart (writing done page word to e) h =
    record { right = h.right; pages = h.pages; entry = h.entry; sequence = h.sequence; has_pinned = h.has_pinned; structure = h.structure; table = h.table; walks = h.walks; place = h.place; retired = h.retired }
shows_parent a p c parent s apart (placing done page to rights) h =
    record { right = h.right; pages = h.pages; entry = λ g. grind (arith, nat_tests, h.entry g); sequence = h.sequence; has_pinned = h.has_pinned; structure = h.structure; table = grind (arith, nat_tests, h.table); walks = h.walks; place = h.place; retired = h.retired }
shows_parent a p c parent s apart (failing_at done step true) h =
    record { right = λ g. grind (arith, nat_tests, h.right g); pages = grind (arith, nat_tests, h.pages); entry = h.entry; sequence = grind (arith, nat_tests, h.sequence); has_pinned = h.has_pinned; structure = own_lock p None s.structure; table = own_table p step s.table ∙ ap (table_behind step) h.table; walks = h.walks; place = h.place; retired = h.retired }
shows_parent a p c parent s apart (failing_at done step false) h =
    record { right = λ g. grind (arith, nat_tests, h.right g); pages = grind (arith, nat_tests, h.pages); entry = h.entry; sequence = grind (arith, nat_tests, h.sequence); has_pinned = h.has_pinned; structure = h.structure; table = own_table p step s.table ∙ ap (table_behind step) h.table; walks = h.walks; place = h.place; retired = h.retired }
shows_parent a p c parent s apart (putting done page e true) h =
    record { right = h.right; pages = h.pages; entry = λ g. grind (arith, nat_tests, h.entry g); sequence = h.sequence; has_pinned = h.has_pinned; structure = own_lock p None s.structure; table = h.table; walks = h.walks; place = h.place; retired = h.retired }
shows_parent a p c parent s apart (putting done page e false) h =
    record { right = h.right; pages = h.pages; entry = λ g. grind (arith, nat_tests, h.entry g); sequence = h.sequence; has_pinned = h.has_pinned; structure = h.structure; table = h.table; walks = h.walks; place = h.place; retired = h.retired }

pub shows_child : (a p c : ℕ) (parent child : SpaceValue) (s : CoreState) {e : CoreEvent} → (p ≡ c → ⊥) → IsForkEvent a p c e → ShowsSpace p parent s → ShowsSpace c child s → ShowsSpace c (child_behind e parent child) (happens s e)
shows_child a p c parent child s apart beginning of h =
    record { right = λ g. grind (arith, nat_tests, of.right g); pages = own_count c (mapped_pages (s.right p)) s.pages ∙ ap mapped_pages (λ i g. of.right g i); entry = h.entry; sequence = grind (arith, nat_tests, h.sequence); has_pinned = h.has_pinned; structure = grind (arith, nat_tests, h.structure); table = h.table; walks = h.walks; place = h.place; retired = h.retired }
shows_child a p c parent child s apart (counting done page entry copies) of h =
    record { right = h.right; pages = h.pages; entry = h.entry; sequence = h.sequence; has_pinned = h.has_pinned; structure = h.structure; table = grind (arith, nat_tests, h.table); walks = h.walks; place = h.place; retired = h.retired }
shows_child a p c parent child s apart (lowering done page f writable) of h =
    record { right = h.right; pages = h.pages; entry = λ g. grind (arith, nat_tests, h.entry g); sequence = h.sequence; has_pinned = h.has_pinned; structure = h.structure; table = h.table; walks = h.walks; place = h.place; retired = h.retired }
shows_child a p c parent child s apart (unmarking done page f writable) of h =
    record { right = h.right; pages = h.pages; entry = h.entry; sequence = h.sequence; has_pinned = h.has_pinned; structure = h.structure; table = h.table; walks = h.walks; place = h.place; retired = h.retired }
shows_child a p c parent child s apart (giving done page f writable) of h =
    record { right = h.right; pages = h.pages; entry = λ g. grind (arith, nat_tests, h.entry g); sequence = h.sequence; has_pinned = h.has_pinned; structure = h.structure; table = grind (arith, nat_tests, h.table); walks = h.walks; place = h.place; retired = h.retired }
shows_child a p c parent child s apart (passing done page) of h =
    record { right = h.right; pages = h.pages; entry = h.entry; sequence = h.sequence; has_pinned = h.has_pinned; structure = h.structure; table = h.table; walks = h.walks; place = h.place; retired = h.retired }
shows_child a p c parent child s apart (ending done) of h =
    record { right = h.right; pages = h.pages; entry = h.entry; sequence = grind (arith, nat_tests, h.sequence); has_pinned = h.has_pinned; structure = grind (arith, nat_tests, h.structure); table = h.table; walks = h.walks; place = h.place; retired = h.retired }
shows_child a p c parent child s apart (writing done page word to e) of h =
    record { right = h.right; pages = h.pages; entry = h.entry; sequence = h.sequence; has_pinned = h.has_pinned; structure = h.structure; table = h.table; walks = h.walks; place = h.place; retired = h.retired }
shows_child a p c parent child s apart (placing done page to rights) of h =
    record { right = h.right; pages = h.pages; entry = λ g. grind (arith, nat_tests, h.entry g); sequence = h.sequence; has_pinned = h.has_pinned; structure = h.structure; table = grind (arith, nat_tests, h.table); walks = h.walks; place = h.place; retired = h.retired }
shows_child a p c parent child s apart (failing_at done step true) of h =
    record { right = λ g. grind (arith, nat_tests, h.right g); pages = grind (arith, nat_tests, h.pages); entry = h.entry; sequence = grind (arith, nat_tests, h.sequence); has_pinned = h.has_pinned; structure = grind (arith, nat_tests, h.structure); table = grind (arith, nat_tests, h.table); walks = h.walks; place = h.place; retired = h.retired }
shows_child a p c parent child s apart (failing_at done step false) of h =
    record { right = λ g. grind (arith, nat_tests, h.right g); pages = grind (arith, nat_tests, h.pages); entry = h.entry; sequence = grind (arith, nat_tests, h.sequence); has_pinned = h.has_pinned; structure = h.structure; table = grind (arith, nat_tests, h.table); walks = h.walks; place = h.place; retired = h.retired }
shows_child a p c parent child s apart (putting done page e true) of h =
    record { right = h.right; pages = h.pages; entry = λ g. grind (arith, nat_tests, h.entry g); sequence = h.sequence; has_pinned = h.has_pinned; structure = grind (arith, nat_tests, h.structure); table = h.table; walks = h.walks; place = h.place; retired = h.retired }
shows_child a p c parent child s apart (putting done page e false) of h =
    record { right = h.right; pages = h.pages; entry = λ g. grind (arith, nat_tests, h.entry g); sequence = h.sequence; has_pinned = h.has_pinned; structure = h.structure; table = h.table; walks = h.walks; place = h.place; retired = h.retired }

pub show_frames : (a p c : ℕ) (frames : FramesValue) (s : CoreState) (es : List CoreEvent) → AreOfFork a p c es → ShowsFrames frames s → ShowsFrames (all_frames_behind es frames) (run s es)
show_frames a p c frames s [] own h = h
show_frames a p c frames s (e ∷ es) own h =
    show_frames a p c (frames_behind e frames) (happens s e) es own.1 (shows_frames a p c frames s own.0 h)

pub show_parent : (a p c : ℕ) (parent : SpaceValue) (s : CoreState) (es : List CoreEvent) → (p ≡ c → ⊥) → AreOfFork a p c es → ShowsSpace p parent s → ShowsSpace p (all_parent_behind es parent) (run s es)
show_parent a p c parent s [] apart own h = h
show_parent a p c parent s (e ∷ es) apart own h =
    show_parent a p c (parent_behind e parent) (happens s e) es apart own.1 (shows_parent a p c parent s apart own.0 h)

pub show_child : (a p c : ℕ) (parent child : SpaceValue) (s : CoreState) (es : List CoreEvent) → (p ≡ c → ⊥) → AreOfFork a p c es → ShowsSpace p parent s → ShowsSpace c child s → ShowsSpace c (all_child_behind es parent child) (run s es)
show_child a p c parent child s [] apart own of h = h
show_child a p c parent child s (e ∷ es) apart own of h =
    show_child a p c (parent_behind e parent) (child_behind e parent child) (happens s e) es apart own.1 (shows_parent a p c parent s apart own.0 of) (shows_child a p c parent child s apart own.0 of h)

-- A call whose change is what these events make is those events.
pub are_fork_events : (k : ForkChange) (a : ℕ) (events : (p c : ℕ) → List CoreEvent) → ((p c : ℕ) → IsMadeByFork k a p c (events p c)) → AreForkEvents k events
are_fork_events k a events made s p c apart frames parent child =
    let by : IsMadeByFork k a p c (events p c) = made p c in
    let behind : CoreState = run s (events p c) in (
      subst (λ (f : FramesValue). ShowsFrames f behind) (sym by.frames) (show_frames a p c k.old_frames s (events p c) by.own frames),
      subst (λ (x : SpaceValue). ShowsSpace p x behind) (sym by.parent) (show_parent a p c k.old_parent s (events p c) apart by.own parent),
      subst (λ (x : SpaceValue). ShowsSpace c x behind) (sym by.child) (show_child a p c k.old_parent k.old_child s (events p c) apart by.own parent child),
    )

-- the same, where the child's rights and entries need only be the same page by page
pub are_shown_fork_events : (k : ForkChange) (a : ℕ) (events : (p c : ℕ) → List CoreEvent) → ((p c : ℕ) → IsShownByFork k a p c (events p c)) → AreForkEvents k events
are_shown_fork_events k a events made s p c apart frames parent child =
    let by : IsShownByFork k a p c (events p c) = made p c in
    let behind : CoreState = run s (events p c) in (
      subst (λ (f : FramesValue). ShowsFrames f behind) (sym by.frames) (show_frames a p c k.old_frames s (events p c) by.own frames),
      subst (λ (x : SpaceValue). ShowsSpace p x behind) (sym by.parent) (show_parent a p c k.old_parent s (events p c) apart by.own parent),
      shown_as c (all_child_behind (events p c) k.old_parent k.old_child) k.new_child behind by.child (show_child a p c k.old_parent k.old_child s (events p c) apart by.own parent child),
    )
