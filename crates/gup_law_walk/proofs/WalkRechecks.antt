-- A walk reads the word above again, and then the entry, of which it has grabbed the frame: one of them is another. Or the entry was
-- the same, and the walk reads the mark of the frame that it has taken.
use Rattle.std.proofs.Common.{◌≡◌, ℕ, ◌+◌, ◌<◌, Bool, true, false, List, length, refl, ap, sym, ◌∙◌, arith}
use Rattle.std.specs.Prelude.{Some, slice_get, if◌then◌else◌, ◌||◌}
use Rattle.gup_base.specs.declared.entry.Entry.{Entry}
use Rattle.gup_plain.specs.Put.{put}
use Rattle.gup_spec_events.specs.State.{CoreState, Taken, walking, ready, grabbed, rechecked, differed, refused}
use Rattle.gup_spec_events.specs.Event.{Can, recheck_above, recheck_other, read_mark}
use Rattle.gup_law_base.specs.Sound.{Walking, IsSound, Simulates}
use Rattle.gup_law_base.proofs.Numbers.{by_number}
use Rattle.gup_law_walk.proofs.Switches.{IsWalk}
use Rattle.gup_law_walk.proofs.Steps.{walk_of, rests, walk_known, next_step}

-- another entry was read, and the grab is still there
differs : (s : CoreState) (a p : ℕ) (write long : Bool) (sequence page : ℕ) (path : List ℕ) (entry : Entry) → IsSound s → s.job a ≡ walking p write long sequence (grabbed page path entry) → IsSound (record s { job = put a (walking p write long sequence (differed entry.frame)) s.job })
differs s a p write long sequence page path entry (v, h) in-walk =
    let old : Walking = walk_of p write long sequence (grabbed page path entry) in
    let was : IsWalk v s (s.taken a) old = walk_known v s h a p write long sequence (grabbed page path entry) in-walk in
    let walk : IsWalk v s (s.taken a) (walk_of p write long sequence (differed entry.frame)) = rests v s (s.taken a) old was refl (differed entry.frame) (λ e. absurd (cc)) refl refl refl (λ k t. was.kept k t refl) in
    (_, next_step v s h a p write long sequence (grabbed page path entry) in-walk sequence (differed entry.frame) refl (λ closed. absurd (cc)) walk)

-- the word above leads to the path's last table still, and the walk goes on with its grab; or the table was taken out
pub simulates-recheck_above : (s : CoreState) (a p : ℕ) (write long : Bool) (sequence page : ℕ) (path : List ℕ) (entry : Entry) (same : Bool) → IsSound s → Can s (recheck_above a p write long sequence page path entry same) → Simulates s (recheck_above a p write long sequence page path entry same)
simulates-recheck_above s a p write long sequence page path entry same (v, h) c =
    record { sound = go same; can = tt; same = refl }
  where
    was : IsWalk v s (s.taken a) (walk_of p write long sequence (grabbed page path entry))
    was = walk_known v s h a p write long sequence (grabbed page path entry) c.0

    go : (leads : Bool) → IsSound (record s { job = put a (walking p write long sequence (if leads then grabbed page path entry else differed entry.frame)) s.job })
    go true = (_, next_step v s h a p write long sequence (grabbed page path entry) c.0 sequence (grabbed page path entry) refl (λ closed. absurd (cc)) was)
    go false = differs s a p write long sequence page path entry (v, h) c.0

-- the entry is another
pub simulates-recheck_other : (s : CoreState) (a p : ℕ) (write long : Bool) (sequence page : ℕ) (path : List ℕ) (entry : Entry) → IsSound s → Can s (recheck_other a p write long sequence page path entry) → Simulates s (recheck_other a p write long sequence page path entry)
simulates-recheck_other s a p write long sequence page path entry sound c =
    record { sound = differs s a p write long sequence page path entry sound c.0; can = tt; same = refl }

-- the page taken last is marked where its entry was writable, or the mark was read
pub simulates-read_mark : (s : CoreState) (a p : ℕ) (write long : Bool) (sequence page : ℕ) (entry : Entry) (mark : Bool) → IsSound s → Can s (read_mark a p write long sequence page entry mark) → Simulates s (read_mark a p write long sequence page entry mark)
simulates-read_mark s a p write long sequence page entry mark (v, h) c =
    record { sound = go (entry.writable || mark) refl; can = tt; same = refl }
  where
    was : IsWalk v s (s.taken a) (walk_of p write long sequence (rechecked page entry))
    was = walk_known v s h a p write long sequence (rechecked page entry) c.0

    last_marked : (k : ℕ) (t : Taken) (writable : Bool) → entry.writable ≡ writable → (writable || mark) ≡ true → sequence ≡ s.sequence p → slice_get (s.taken a) k ≡ Some t → k + 1 ≡ length (s.taken a) → s.mark t.frame ≡ true
    last_marked k t true is found now at last = was.writable k t entry refl is now at last
    last_marked k t false is found now at last =
        ap s.mark (was.last k t entry refl at last) ∙ (sym c.1 ∙ found)

    kept : (entry.writable || mark) ≡ true → (k : ℕ) (t : Taken) → sequence ≡ s.sequence p → slice_get (s.taken a) k ≡ Some t → k + 0 < length (s.taken a) → s.mark t.frame ≡ true
    kept found k t now at within =
        by_number (k + 1) (length (s.taken a)) (last_marked k t entry.writable refl found now at) (λ apart. was.kept k t refl now at (omega (arith, within, apart)))

    go : (keeps : Bool) → (entry.writable || mark) ≡ keeps → IsSound (record s { job = put a (walking p write long sequence (if keeps then ready else refused)) s.job })
    go true found = (_, next_step v s h a p write long sequence (rechecked page entry) c.0 sequence ready refl (λ closed. absurd (cc)) (rests v s (s.taken a) (walk_of p write long sequence (rechecked page entry)) was refl ready (λ e. absurd (cc)) refl refl refl (kept found)))
    go false lost = (_, next_step v s h a p write long sequence (rechecked page entry) c.0 sequence refused refl (λ closed. absurd (cc)) (rests v s (s.taken a) (walk_of p write long sequence (rechecked page entry)) was refl refused (λ e. absurd (cc)) refl refl refl (λ k t. was.kept k t refl)))
