-- A move's events leave every process but its own as it is, and what they make of that one and of frames is shown.
use Rattle.std.specs.Prelude.{◌≡◌, ℕ, List, [], ◌∷◌, Option, Some, None}
use Rattle.std.proofs.Common.{sym, subst, arith}
use Rattle.std.proofs.lemmas.Bool.Decides.{nat_tests}
use Rattle.gup_base.specs.declared.entry.Allowed.{Allowed}
use Rattle.gup_base.specs.declared.entry.Entry.{Entry}
use Rattle.gup_plain.specs.Put.{put}
use Rattle.gup_frames.specs.Frames.{FramesValue}
use Rattle.gup_space.specs.Shows.{ShowsFrames, ShowsSpace, Change}
use Rattle.gup_space.specs.Space.{SpaceValue}
use Rattle.gup_spec_events.specs.State.{CoreState, one}
use Rattle.gup_spec_events.specs.Event.{CoreEvent, happens, run}
use Rattle.gup_move.specs.Moves.{AreMoveEvents, places}
use Rattle.gup_move.proofs.MoveAfter.{IsMoveEvent, clearing, counting, taking, placing, putting, restoring, AreOfMove, frames_behind, space_behind, all_frames_behind, all_space_behind, IsMadeByMove}

own_lock : (p : ℕ) (holder : Option ℕ) (f : ℕ → Option ℕ) → put p holder f p ≡ holder
own_lock p holder f = grind (arith, nat_tests)

-- the events that place a page are of a move of it
pub places_own : (a p page : ℕ) (e : Entry) (allowed : Allowed) (free : Option ℕ) → AreOfMove p (places a p page e allowed free)
places_own a p page e allowed None = (restoring a page e allowed one, tt)
places_own a p page e allowed (Some f) = (taking a f, (placing a page f e allowed, (putting a e.frame, tt)))

-- ---- other processes

pub leaves_other : (p q : ℕ) (space : SpaceValue) (s : CoreState) {e : CoreEvent} → (p ≡ q → ⊥) → IsMoveEvent p e → ShowsSpace q space s → ShowsSpace q space (happens s e)
leaves_other p q space s other (clearing a page e allowed) h =
    record { right = h.right; pages = h.pages; entry = λ g. grind (arith, nat_tests, h.entry g); sequence = h.sequence; has_pinned = h.has_pinned; structure = h.structure; table = grind (arith, nat_tests, h.table); walks = h.walks; place = h.place; retired = h.retired }
leaves_other p q space s other (counting a page e allowed count) h =
    record { right = h.right; pages = h.pages; entry = h.entry; sequence = h.sequence; has_pinned = h.has_pinned; structure = h.structure; table = h.table; walks = h.walks; place = h.place; retired = h.retired }
leaves_other p q space s other (taking a f) h =
    record { right = h.right; pages = h.pages; entry = h.entry; sequence = h.sequence; has_pinned = h.has_pinned; structure = h.structure; table = h.table; walks = h.walks; place = h.place; retired = h.retired }
leaves_other p q space s other (placing a page f e allowed) h =
    record { right = h.right; pages = h.pages; entry = λ g. grind (arith, nat_tests, h.entry g); sequence = h.sequence; has_pinned = h.has_pinned; structure = h.structure; table = grind (arith, nat_tests, h.table); walks = h.walks; place = h.place; retired = h.retired }
leaves_other p q space s other (putting a f) h =
    record { right = h.right; pages = h.pages; entry = h.entry; sequence = h.sequence; has_pinned = h.has_pinned; structure = h.structure; table = h.table; walks = h.walks; place = h.place; retired = h.retired }
leaves_other p q space s other (restoring a page e allowed count) h =
    record { right = h.right; pages = h.pages; entry = λ g. grind (arith, nat_tests, h.entry g); sequence = h.sequence; has_pinned = h.has_pinned; structure = h.structure; table = grind (arith, nat_tests, h.table); walks = h.walks; place = h.place; retired = h.retired }

-- and so do lists of them
pub leave_other : (p q : ℕ) (space : SpaceValue) (s : CoreState) (es : List CoreEvent) → (p ≡ q → ⊥) → AreOfMove p es → ShowsSpace q space s → ShowsSpace q space (run s es)
leave_other p q space s [] other own h = h
leave_other p q space s (e ∷ es) other own h =
    leave_other p q space (happens s e) es other own.1 (leaves_other p q space s other own.0 h)

-- ---- frames and the process after events of a move

shows_frames : (p : ℕ) (frames : FramesValue) (s : CoreState) {e : CoreEvent} → IsMoveEvent p e → ShowsFrames frames s → ShowsFrames (frames_behind e frames) (happens s e)
shows_frames p frames s (clearing a page e allowed) h =
    record { movable = h.movable; normal = h.normal; count = h.count; mark = h.mark; word = h.word; needs_tables = h.needs_tables }
shows_frames p frames s (counting a page e allowed count) h =
    record { movable = h.movable; normal = h.normal; count = h.count; mark = h.mark; word = h.word; needs_tables = h.needs_tables }
shows_frames p frames s (taking a f) h =
    record { movable = h.movable; normal = h.normal; count = λ g. grind (arith, nat_tests, h.count g); mark = λ g. grind (arith, nat_tests, h.mark g); word = λ g w. grind (arith, nat_tests, h.word g w); needs_tables = h.needs_tables }
shows_frames p frames s (placing a page f e allowed) h =
    record { movable = h.movable; normal = h.normal; count = h.count; mark = λ g. grind (arith, nat_tests, h.mark g, h.mark e.frame); word = λ g w. grind (arith, nat_tests, h.word g w, h.word e.frame w); needs_tables = h.needs_tables }
shows_frames p frames s (putting a f) h =
    record { movable = h.movable; normal = h.normal; count = λ g. grind (arith, nat_tests, h.count g, h.count f); mark = λ g. grind (arith, nat_tests, h.mark g, h.mark f, h.count f); word = h.word; needs_tables = h.needs_tables }
shows_frames p frames s (restoring a page e allowed count) h =
    record { movable = h.movable; normal = h.normal; count = h.count; mark = h.mark; word = h.word; needs_tables = h.needs_tables }

shows_space : (p : ℕ) (space : SpaceValue) (s : CoreState) {e : CoreEvent} → IsMoveEvent p e → ShowsSpace p space s → ShowsSpace p (space_behind e space) (happens s e)
shows_space p space s (clearing a page e allowed) h =
    record { right = h.right; pages = h.pages; entry = λ g. grind (arith, nat_tests, h.entry g); sequence = h.sequence; has_pinned = h.has_pinned; structure = h.structure; table = own_lock p _ s.table; walks = h.walks; place = h.place; retired = h.retired }
shows_space p space s (counting a page e allowed count) h =
    record { right = h.right; pages = h.pages; entry = h.entry; sequence = h.sequence; has_pinned = h.has_pinned; structure = h.structure; table = h.table; walks = h.walks; place = h.place; retired = h.retired }
shows_space p space s (taking a f) h =
    record { right = h.right; pages = h.pages; entry = h.entry; sequence = h.sequence; has_pinned = h.has_pinned; structure = h.structure; table = h.table; walks = h.walks; place = h.place; retired = h.retired }
shows_space p space s (placing a page f e allowed) h =
    record { right = h.right; pages = h.pages; entry = λ g. grind (arith, nat_tests, h.entry g); sequence = h.sequence; has_pinned = h.has_pinned; structure = h.structure; table = own_lock p _ s.table; walks = h.walks; place = h.place; retired = h.retired }
shows_space p space s (putting a f) h =
    record { right = h.right; pages = h.pages; entry = h.entry; sequence = h.sequence; has_pinned = h.has_pinned; structure = h.structure; table = h.table; walks = h.walks; place = h.place; retired = h.retired }
shows_space p space s (restoring a page e allowed count) h =
    record { right = h.right; pages = h.pages; entry = λ g. grind (arith, nat_tests, h.entry g); sequence = h.sequence; has_pinned = h.has_pinned; structure = h.structure; table = own_lock p _ s.table; walks = h.walks; place = h.place; retired = h.retired }

show_frames : (p : ℕ) (frames : FramesValue) (s : CoreState) (es : List CoreEvent) → AreOfMove p es → ShowsFrames frames s → ShowsFrames (all_frames_behind es frames) (run s es)
show_frames p frames s [] own h = h
show_frames p frames s (e ∷ es) own h =
    show_frames p (frames_behind e frames) (happens s e) es own.1 (shows_frames p frames s own.0 h)

show_space : (p : ℕ) (space : SpaceValue) (s : CoreState) (es : List CoreEvent) → AreOfMove p es → ShowsSpace p space s → ShowsSpace p (all_space_behind es space) (run s es)
show_space p space s [] own h = h
show_space p space s (e ∷ es) own h =
    show_space p (space_behind e space) (happens s e) es own.1 (shows_space p space s own.0 h)

-- A call whose change is what these events make is those events.
pub are_move_events : (k : Change) (events : (p : ℕ) → List CoreEvent) → ((p : ℕ) → IsMadeByMove k p (events p)) → AreMoveEvents k events
are_move_events k events made s p frames space =
    let by : IsMadeByMove k p (events p) = made p in
    let behind : CoreState = run s (events p) in (
      subst (λ (f : FramesValue). ShowsFrames f behind) (sym by.frames) (show_frames p k.old_frames s (events p) by.own frames),
      subst (λ (x : SpaceValue). ShowsSpace p x behind) (sym by.space) (show_space p k.old_space s (events p) by.own space),
    )
