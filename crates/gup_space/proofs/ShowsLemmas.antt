-- Events of one process leave every other process as it is, and what they make of it and of frames is shown.
use Rattle.std.specs.Prelude.{◌≡◌, ℕ, List, [], ◌∷◌, None}
use Rattle.std.proofs.Common.{sym, ap, subst, ◌∙◌, arith}
use Rattle.std.proofs.lemmas.Bool.Decides.{nat_tests}
use Rattle.gup_space.specs.Space.{SpaceValue}
use Rattle.gup_frames.specs.Frames.{FramesValue}
use Rattle.gup_space.specs.Shows.{ShowsFrames, ShowsSpace, Change, unlocked, AreEvents}
use Rattle.gup_space.proofs.After.{IsOf, taking, filling, counting, marking_it, upgrading, breaking, putting, dropping, discarding, mapping, lowering, protecting, loading, storing, flagging, pinning, making, unpinning, giving, taking_over, getting, putting_back, moving_out, moving_in, AreOf, frames_after, space_after, all_frames_after, all_space_after, IsShownAs, IsMadeBy}
use Rattle.gup_spec_events.specs.State.{CoreState}
use Rattle.gup_spec_events.specs.Event.{CoreEvent, happens, run}

pub leaves_other : (p q : ℕ) (space : SpaceValue) (s : CoreState) {e : CoreEvent} → (p ≡ q → ⊥) → IsOf p e → ShowsSpace q space s → ShowsSpace q space (happens s e)
leaves_other p q space s other (taking a f) h =
    record { right = h.right; pages = h.pages; entry = h.entry; sequence = h.sequence; has_pinned = h.has_pinned; structure = h.structure; table = h.table; walks = h.walks; place = h.place; retired = h.retired }
leaves_other p q space s other (filling a page f) h =
    record { right = h.right; pages = h.pages; entry = λ g. grind (arith, nat_tests, h.entry g); sequence = h.sequence; has_pinned = h.has_pinned; structure = h.structure; table = h.table; walks = h.walks; place = h.place; retired = h.retired }
leaves_other p q space s other (counting a page f writable) h =
    record { right = h.right; pages = h.pages; entry = h.entry; sequence = h.sequence; has_pinned = h.has_pinned; structure = h.structure; table = grind (arith, nat_tests, h.table); walks = h.walks; place = h.place; retired = h.retired }
leaves_other p q space s other (marking_it a page f) h =
    record { right = h.right; pages = h.pages; entry = h.entry; sequence = h.sequence; has_pinned = h.has_pinned; structure = h.structure; table = grind (arith, nat_tests, h.table); walks = h.walks; place = h.place; retired = h.retired }
leaves_other p q space s other (upgrading a page f) h =
    record { right = h.right; pages = h.pages; entry = λ g. grind (arith, nat_tests, h.entry g); sequence = h.sequence; has_pinned = h.has_pinned; structure = h.structure; table = h.table; walks = h.walks; place = h.place; retired = h.retired }
leaves_other p q space s other (breaking a page old new was writable) h =
    record { right = h.right; pages = h.pages; entry = λ g. grind (arith, nat_tests, h.entry g); sequence = h.sequence; has_pinned = h.has_pinned; structure = h.structure; table = h.table; walks = h.walks; place = h.place; retired = h.retired }
leaves_other p q space s other (putting a f) h =
    record { right = h.right; pages = h.pages; entry = h.entry; sequence = h.sequence; has_pinned = h.has_pinned; structure = h.structure; table = h.table; walks = h.walks; place = h.place; retired = h.retired }
leaves_other p q space s other (dropping a page was) h =
    record { right = λ g. grind (arith, nat_tests, h.right g); pages = grind (arith, nat_tests, h.pages); entry = λ g. grind (arith, nat_tests, h.entry g); sequence = h.sequence; has_pinned = h.has_pinned; structure = h.structure; table = h.table; walks = h.walks; place = h.place; retired = h.retired }
leaves_other p q space s other (discarding a page was) h =
    record { right = h.right; pages = h.pages; entry = λ g. grind (arith, nat_tests, h.entry g); sequence = h.sequence; has_pinned = h.has_pinned; structure = h.structure; table = h.table; walks = h.walks; place = h.place; retired = h.retired }
leaves_other p q space s other (mapping a page n rights) h =
    record { right = λ g. grind (arith, nat_tests, h.right g); pages = grind (arith, nat_tests, h.pages); entry = h.entry; sequence = h.sequence; has_pinned = h.has_pinned; structure = h.structure; table = h.table; walks = h.walks; place = h.place; retired = h.retired }
leaves_other p q space s other (lowering a page f) h =
    record { right = h.right; pages = h.pages; entry = λ g. grind (arith, nat_tests, h.entry g); sequence = h.sequence; has_pinned = h.has_pinned; structure = h.structure; table = h.table; walks = h.walks; place = h.place; retired = h.retired }
leaves_other p q space s other (protecting a page n rights) h =
    record { right = λ g. grind (arith, nat_tests, h.right g); pages = h.pages; entry = h.entry; sequence = h.sequence; has_pinned = h.has_pinned; structure = h.structure; table = h.table; walks = h.walks; place = h.place; retired = h.retired }
leaves_other p q space s other (loading a page word f value) h = h
leaves_other p q space s other (storing a page word f value) h =
    record { right = h.right; pages = h.pages; entry = h.entry; sequence = h.sequence; has_pinned = h.has_pinned; structure = h.structure; table = h.table; walks = h.walks; place = h.place; retired = h.retired }
leaves_other p q space s other (flagging a) h =
    record { right = h.right; pages = h.pages; entry = h.entry; sequence = h.sequence; has_pinned = grind (arith, nat_tests, h.has_pinned); structure = h.structure; table = h.table; walks = h.walks; place = h.place; retired = h.retired }
leaves_other p q space s other (pinning a page e write long) h =
    record { right = h.right; pages = h.pages; entry = h.entry; sequence = h.sequence; has_pinned = h.has_pinned; structure = h.structure; table = h.table; walks = h.walks; place = h.place; retired = h.retired }
leaves_other p q space s other (making a k) h =
    record { right = h.right; pages = h.pages; entry = h.entry; sequence = h.sequence; has_pinned = h.has_pinned; structure = h.structure; table = h.table; walks = h.walks; place = h.place; retired = h.retired }
leaves_other p q space s other (unpinning a k f left) h =
    record { right = h.right; pages = h.pages; entry = h.entry; sequence = h.sequence; has_pinned = h.has_pinned; structure = h.structure; table = h.table; walks = h.walks; place = h.place; retired = h.retired }
leaves_other p q space s other (giving a k to) h =
    record { right = h.right; pages = h.pages; entry = h.entry; sequence = h.sequence; has_pinned = h.has_pinned; structure = h.structure; table = h.table; walks = h.walks; place = h.place; retired = h.retired }
leaves_other p q space s other (taking_over a k) h =
    record { right = h.right; pages = h.pages; entry = h.entry; sequence = h.sequence; has_pinned = h.has_pinned; structure = h.structure; table = h.table; walks = h.walks; place = h.place; retired = h.retired }
leaves_other p q space s other (getting a page f k writable) h =
    record { right = h.right; pages = h.pages; entry = h.entry; sequence = h.sequence; has_pinned = h.has_pinned; structure = h.structure; table = h.table; walks = h.walks; place = h.place; retired = h.retired }
leaves_other p q space s other (putting_back a f k) h =
    record { right = h.right; pages = h.pages; entry = h.entry; sequence = h.sequence; has_pinned = h.has_pinned; structure = h.structure; table = h.table; walks = h.walks; place = h.place; retired = h.retired }
leaves_other p q space s other (moving_out a k index slot f value) h =
    record { right = h.right; pages = h.pages; entry = h.entry; sequence = h.sequence; has_pinned = h.has_pinned; structure = h.structure; table = h.table; walks = h.walks; place = h.place; retired = h.retired }
leaves_other p q space s other (moving_in a k index slot f value) h =
    record { right = h.right; pages = h.pages; entry = h.entry; sequence = h.sequence; has_pinned = h.has_pinned; structure = h.structure; table = h.table; walks = h.walks; place = h.place; retired = h.retired }

-- and so do lists of them
pub leave_other : (p q : ℕ) (space : SpaceValue) (s : CoreState) (es : List CoreEvent) → (p ≡ q → ⊥) → AreOf p es → ShowsSpace q space s → ShowsSpace q space (run s es)
leave_other p q space s [] other of h = h
leave_other p q space s (e ∷ es) other of h =
    leave_other p q space (happens s e) es other of.1 (leaves_other p q space s other of.0 h)

-- ---- frames and a process after events of that process

pub shows_frames : (p : ℕ) (frames : FramesValue) (s : CoreState) {e : CoreEvent} → IsOf p e → ShowsFrames frames s → ShowsFrames (frames_after e frames) (happens s e)
shows_frames p frames s (taking a f) h =
    record { movable = h.movable; normal = h.normal; count = λ g. grind (arith, nat_tests, h.count g); mark = λ g. grind (arith, nat_tests, h.mark g); word = λ g w. grind (arith, nat_tests, h.word g w); needs_tables = h.needs_tables }
shows_frames p frames s (filling a page f) h =
    record { movable = h.movable; normal = h.normal; count = h.count; mark = λ g. grind (arith, nat_tests, h.mark g); word = h.word; needs_tables = h.needs_tables }
shows_frames p frames s (counting a page f writable) h =
    record { movable = h.movable; normal = h.normal; count = h.count; mark = h.mark; word = h.word; needs_tables = h.needs_tables }
shows_frames p frames s (marking_it a page f) h =
    record { movable = h.movable; normal = h.normal; count = h.count; mark = λ g. grind (arith, nat_tests, h.mark g); word = h.word; needs_tables = h.needs_tables }
shows_frames p frames s (upgrading a page f) h =
    record { movable = h.movable; normal = h.normal; count = h.count; mark = h.mark; word = h.word; needs_tables = h.needs_tables }
shows_frames p frames s (breaking a page old new was writable) h =
    record { movable = h.movable; normal = h.normal; count = h.count; mark = λ g. grind (arith, nat_tests, h.mark g); word = λ g w. grind (arith, nat_tests, h.word g w, h.word old w); needs_tables = h.needs_tables }
shows_frames p frames s (putting a f) h =
    record { movable = h.movable; normal = h.normal; count = λ g. grind (arith, nat_tests, h.count g, h.count f); mark = λ g. grind (arith, nat_tests, h.mark g, h.mark f, h.count f); word = h.word; needs_tables = h.needs_tables }
shows_frames p frames s (dropping a page was) h =
    record { movable = h.movable; normal = h.normal; count = h.count; mark = h.mark; word = h.word; needs_tables = h.needs_tables }
shows_frames p frames s (discarding a page was) h =
    record { movable = h.movable; normal = h.normal; count = h.count; mark = h.mark; word = h.word; needs_tables = h.needs_tables }
shows_frames p frames s (mapping a page n rights) h =
    record { movable = h.movable; normal = h.normal; count = h.count; mark = h.mark; word = h.word; needs_tables = h.needs_tables }
shows_frames p frames s (lowering a page f) h =
    record { movable = h.movable; normal = h.normal; count = h.count; mark = h.mark; word = h.word; needs_tables = h.needs_tables }
shows_frames p frames s (protecting a page n rights) h =
    record { movable = h.movable; normal = h.normal; count = h.count; mark = h.mark; word = h.word; needs_tables = h.needs_tables }
shows_frames p frames s (loading a page word f value) h =
    record { movable = h.movable; normal = h.normal; count = h.count; mark = h.mark; word = h.word; needs_tables = h.needs_tables }
shows_frames p frames s (storing a page word f value) h =
    record { movable = h.movable; normal = h.normal; count = h.count; mark = h.mark; word = λ g w. grind (arith, nat_tests, h.word g w); needs_tables = h.needs_tables }
shows_frames p frames s (flagging a) h =
    record { movable = h.movable; normal = h.normal; count = h.count; mark = h.mark; word = h.word; needs_tables = h.needs_tables }
shows_frames p frames s (pinning a page e write long) h =
    record { movable = h.movable; normal = h.normal; count = λ g. grind (arith, nat_tests, h.count g, h.count e.frame); mark = h.mark; word = h.word; needs_tables = h.needs_tables }
shows_frames p frames s (making a k) h =
    record { movable = h.movable; normal = h.normal; count = h.count; mark = h.mark; word = h.word; needs_tables = h.needs_tables }
shows_frames p frames s (unpinning a k f left) h =
    record { movable = h.movable; normal = h.normal; count = λ g. grind (arith, nat_tests, h.count g, h.count f); mark = λ g. grind (arith, nat_tests, h.mark g, h.mark f, h.count f); word = h.word; needs_tables = h.needs_tables }
shows_frames p frames s (giving a k to) h =
    record { movable = h.movable; normal = h.normal; count = h.count; mark = h.mark; word = h.word; needs_tables = h.needs_tables }
shows_frames p frames s (taking_over a k) h =
    record { movable = h.movable; normal = h.normal; count = h.count; mark = h.mark; word = h.word; needs_tables = h.needs_tables }
shows_frames p frames s (getting a page f k writable) h =
    record { movable = h.movable; normal = h.normal; count = λ g. grind (arith, nat_tests, h.count g, h.count f); mark = h.mark; word = h.word; needs_tables = h.needs_tables }
shows_frames p frames s (putting_back a f k) h =
    record { movable = h.movable; normal = h.normal; count = λ g. grind (arith, nat_tests, h.count g, h.count f); mark = λ g. grind (arith, nat_tests, h.mark g, h.mark f, h.count f); word = h.word; needs_tables = h.needs_tables }
shows_frames p frames s (moving_out a k index slot f value) h =
    record { movable = h.movable; normal = h.normal; count = h.count; mark = h.mark; word = h.word; needs_tables = h.needs_tables }
shows_frames p frames s (moving_in a k index slot f value) h =
    record { movable = h.movable; normal = h.normal; count = h.count; mark = h.mark; word = λ g w. grind (arith, nat_tests, h.word g w); needs_tables = h.needs_tables }

pub shows_space : (p : ℕ) (space : SpaceValue) (s : CoreState) {e : CoreEvent} → IsOf p e → ShowsSpace p space s → ShowsSpace p (space_after e space) (happens s e)
shows_space p space s (taking a f) h =
    record { right = h.right; pages = h.pages; entry = h.entry; sequence = h.sequence; has_pinned = h.has_pinned; structure = h.structure; table = h.table; walks = h.walks; place = h.place; retired = h.retired }
shows_space p space s (filling a page f) h =
    record { right = h.right; pages = h.pages; entry = λ g. grind (arith, nat_tests, h.entry g); sequence = h.sequence; has_pinned = h.has_pinned; structure = h.structure; table = h.table; walks = h.walks; place = h.place; retired = h.retired }
shows_space p space s (counting a page f writable) h =
    record { right = h.right; pages = h.pages; entry = h.entry; sequence = h.sequence; has_pinned = h.has_pinned; structure = h.structure; table = grind (arith, nat_tests, h.table); walks = h.walks; place = h.place; retired = h.retired }
shows_space p space s (marking_it a page f) h =
    record { right = h.right; pages = h.pages; entry = h.entry; sequence = h.sequence; has_pinned = h.has_pinned; structure = h.structure; table = grind (arith, nat_tests, h.table); walks = h.walks; place = h.place; retired = h.retired }
shows_space p space s (upgrading a page f) h =
    record { right = h.right; pages = h.pages; entry = λ g. grind (arith, nat_tests, h.entry g); sequence = h.sequence; has_pinned = h.has_pinned; structure = h.structure; table = h.table; walks = h.walks; place = h.place; retired = h.retired }
shows_space p space s (breaking a page old new was writable) h =
    record { right = h.right; pages = h.pages; entry = λ g. grind (arith, nat_tests, h.entry g); sequence = h.sequence; has_pinned = h.has_pinned; structure = h.structure; table = h.table; walks = h.walks; place = h.place; retired = h.retired }
shows_space p space s (putting a f) h =
    record { right = h.right; pages = h.pages; entry = h.entry; sequence = h.sequence; has_pinned = h.has_pinned; structure = h.structure; table = h.table; walks = h.walks; place = h.place; retired = h.retired }
shows_space p space s (dropping a page was) h =
    record { right = λ g. grind (arith, nat_tests, h.right g); pages = grind (arith, nat_tests, h.pages); entry = λ g. grind (arith, nat_tests, h.entry g); sequence = h.sequence; has_pinned = h.has_pinned; structure = h.structure; table = h.table; walks = h.walks; place = h.place; retired = h.retired }
shows_space p space s (discarding a page was) h =
    record { right = h.right; pages = h.pages; entry = λ g. grind (arith, nat_tests, h.entry g); sequence = h.sequence; has_pinned = h.has_pinned; structure = h.structure; table = h.table; walks = h.walks; place = h.place; retired = h.retired }
shows_space p space s (mapping a page n rights) h =
    record { right = λ g. grind (arith, nat_tests, h.right g); pages = grind (arith, nat_tests, h.pages); entry = h.entry; sequence = h.sequence; has_pinned = h.has_pinned; structure = h.structure; table = h.table; walks = h.walks; place = h.place; retired = h.retired }
shows_space p space s (lowering a page f) h =
    record { right = h.right; pages = h.pages; entry = λ g. grind (arith, nat_tests, h.entry g); sequence = h.sequence; has_pinned = h.has_pinned; structure = h.structure; table = h.table; walks = h.walks; place = h.place; retired = h.retired }
shows_space p space s (protecting a page n rights) h =
    record { right = λ g. grind (arith, nat_tests, h.right g); pages = h.pages; entry = h.entry; sequence = h.sequence; has_pinned = h.has_pinned; structure = h.structure; table = h.table; walks = h.walks; place = h.place; retired = h.retired }
shows_space p space s (loading a page word f value) h =
    record { right = h.right; pages = h.pages; entry = h.entry; sequence = h.sequence; has_pinned = h.has_pinned; structure = h.structure; table = h.table; walks = h.walks; place = h.place; retired = h.retired }
shows_space p space s (storing a page word f value) h =
    record { right = h.right; pages = h.pages; entry = h.entry; sequence = h.sequence; has_pinned = h.has_pinned; structure = h.structure; table = h.table; walks = h.walks; place = h.place; retired = h.retired }
shows_space p space s (flagging a) h =
    record { right = h.right; pages = h.pages; entry = h.entry; sequence = h.sequence; has_pinned = grind (arith, nat_tests, h.has_pinned); structure = h.structure; table = h.table; walks = h.walks; place = h.place; retired = h.retired }
shows_space p space s (pinning a page e write long) h =
    record { right = h.right; pages = h.pages; entry = h.entry; sequence = h.sequence; has_pinned = h.has_pinned; structure = h.structure; table = h.table; walks = h.walks; place = h.place; retired = h.retired }
shows_space p space s (making a k) h =
    record { right = h.right; pages = h.pages; entry = h.entry; sequence = h.sequence; has_pinned = h.has_pinned; structure = h.structure; table = h.table; walks = h.walks; place = h.place; retired = h.retired }
shows_space p space s (unpinning a k f left) h =
    record { right = h.right; pages = h.pages; entry = h.entry; sequence = h.sequence; has_pinned = h.has_pinned; structure = h.structure; table = h.table; walks = h.walks; place = h.place; retired = h.retired }
shows_space p space s (giving a k to) h =
    record { right = h.right; pages = h.pages; entry = h.entry; sequence = h.sequence; has_pinned = h.has_pinned; structure = h.structure; table = h.table; walks = h.walks; place = h.place; retired = h.retired }
shows_space p space s (taking_over a k) h =
    record { right = h.right; pages = h.pages; entry = h.entry; sequence = h.sequence; has_pinned = h.has_pinned; structure = h.structure; table = h.table; walks = h.walks; place = h.place; retired = h.retired }
shows_space p space s (getting a page f k writable) h =
    record { right = h.right; pages = h.pages; entry = h.entry; sequence = h.sequence; has_pinned = h.has_pinned; structure = h.structure; table = h.table; walks = h.walks; place = h.place; retired = h.retired }
shows_space p space s (putting_back a f k) h =
    record { right = h.right; pages = h.pages; entry = h.entry; sequence = h.sequence; has_pinned = h.has_pinned; structure = h.structure; table = h.table; walks = h.walks; place = h.place; retired = h.retired }
shows_space p space s (moving_out a k index slot f value) h =
    record { right = h.right; pages = h.pages; entry = h.entry; sequence = h.sequence; has_pinned = h.has_pinned; structure = h.structure; table = h.table; walks = h.walks; place = h.place; retired = h.retired }
shows_space p space s (moving_in a k index slot f value) h =
    record { right = h.right; pages = h.pages; entry = h.entry; sequence = h.sequence; has_pinned = h.has_pinned; structure = h.structure; table = h.table; walks = h.walks; place = h.place; retired = h.retired }

pub show_frames : (p : ℕ) (frames : FramesValue) (s : CoreState) (es : List CoreEvent) → AreOf p es → ShowsFrames frames s → ShowsFrames (all_frames_after es frames) (run s es)
show_frames p frames s [] of h = h
show_frames p frames s (e ∷ es) of h =
    show_frames p (frames_after e frames) (happens s e) es of.1 (shows_frames p frames s of.0 h)

pub show_space : (p : ℕ) (space : SpaceValue) (s : CoreState) (es : List CoreEvent) → AreOf p es → ShowsSpace p space s → ShowsSpace p (all_space_after es space) (run s es)
show_space p space s [] of h = h
show_space p space s (e ∷ es) of h =
    show_space p (space_after e space) (happens s e) es of.1 (shows_space p space s of.0 h)

pub shown_as : (p : ℕ) (space other : SpaceValue) (s : CoreState) → IsShownAs space other → ShowsSpace p space s → ShowsSpace p other s
shown_as p space other s same h =
    record {
      right = λ g. h.right g ∙ same.right g;
      pages = h.pages ∙ same.pages;
      entry = λ g. h.entry g ∙ same.entry g;
      sequence = h.sequence ∙ same.sequence;
      has_pinned = h.has_pinned ∙ same.has_pinned;
      structure = h.structure ∙ same.structure;
      table = h.table ∙ same.table;
      walks = h.walks ∙ same.walks;
      place = h.place ∙ same.place;
      retired = h.retired ∙ same.retired;
    }

pub same_shown : (space other : SpaceValue) → space ≡ other → IsShownAs space other
same_shown space other same =
    record {
      right = λ g. ap (λ (x : SpaceValue). x.right g) same;
      pages = ap (λ (x : SpaceValue). x.pages) same;
      entry = λ g. ap (λ (x : SpaceValue). x.entry g) same;
      sequence = ap (λ (x : SpaceValue). x.sequence) same;
      has_pinned = ap (λ (x : SpaceValue). x.has_pinned) same;
      structure = ap (λ (x : SpaceValue). x.structure) same;
      table = ap (λ (x : SpaceValue). x.table) same;
      walks = ap (λ (x : SpaceValue). x.walks) same;
      place = ap (λ (x : SpaceValue). x.place) same;
      retired = ap (λ (x : SpaceValue). x.retired) same;
    }

-- A call whose change is made by events is those events.
pub are_events : (c : Change) (events : (a p : ℕ) → List CoreEvent) → ((a p : ℕ) → IsMadeBy c p (events a p)) → AreEvents c events
are_events c events made =
    record {
      table = (made 0 0).table;
      lead = λ s a p frames space.
          let by : IsMadeBy c p (events a p) = made a p in
          let behind : ShowsFrames (all_frames_after (events a p) c.old_frames) (run s (events a p)) = show_frames p c.old_frames s (events a p) by.own frames in (
            subst (λ (f : FramesValue). ShowsFrames f (run s (events a p))) (sym by.frames) behind,
            shown_as p (all_space_after (events a p) (unlocked c.old_space)) (unlocked c.new_space) (run s (events a p)) by.space (show_space p (unlocked c.old_space) s (events a p) by.own space),
          );
    }

-- From a state that shows what was, the table lock free there, the events of a call lead to one that shows what is.
pub events_lead : {c : Change} {events : (a p : ℕ) → List CoreEvent} → AreEvents c events → (s : CoreState) (a p : ℕ)
    → ShowsFrames c.old_frames s → ShowsSpace p c.old_space s → s.table p ≡ None
    → ShowsFrames c.new_frames (run s (events a p)) × ShowsSpace p c.new_space (run s (events a p))
events_lead {c = c} are s a p frames space free =
    let before : ShowsSpace p (unlocked c.old_space) s =
    record { right = space.right; pages = space.pages; entry = space.entry; sequence = space.sequence; has_pinned = space.has_pinned; structure = space.structure; table = free; walks = space.walks; place = space.place; retired = space.retired } in
    let led = are.lead s a p frames before in (
      led.0,
      record {
        right = led.1.right;
        pages = led.1.pages;
        entry = led.1.entry;
        sequence = led.1.sequence;
        has_pinned = led.1.has_pinned;
        structure = led.1.structure;
        table = led.1.table ∙ sym free ∙ space.table ∙ sym are.table;
        walks = led.1.walks;
        place = led.1.place;
        retired = led.1.retired;
      },
    )
