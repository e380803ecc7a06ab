-- A walk reads down a page's path, and the page's entry at its end, and grabs its frame or misses it.
use Rattle.std.proofs.Common.{◌≡◌, ℕ, ◌+◌, ◌<◌, ◌≤◌, Bool, true, false, List, [], ◌∷◌, length, refl, ap, sym, ◌∙◌, subst, arith}
use Rattle.std.specs.Prelude.{Option, Some, None, slice_get, if◌then◌else◌, ◌&&◌, ◌||◌, not, nat_lt}
use Rattle.std.proofs.lemmas.Bool.Decides.{nat_tests}
use Rattle.gup_base.specs.declared.entry.Entry.{Entry}
use Rattle.gup_plain.specs.Put.{put}
use Rattle.gup_spec_events.specs.State.{CoreState, Taken, Job, walking, WalkStep, entered, reading, read, grabbed, stopped}
use Rattle.gup_spec_events.specs.Event.{Can, bias, is_wrong, IsUntaken, step_at, step_led, step_read, read_link, read_entry, grab_frame, miss_frame}
use Rattle.gup_spec_events.specs.Invariant.{is_inside, step_frame}
use Rattle.gup_law_base.specs.Sound.{View, Walking, walk_frame, is_open, tried_page, tried_entry, rechecked_entry, unkept, IsSoundBy, IsSound, Simulates}
use Rattle.gup_law_base.proofs.Clauses.{Grabs, CountIs}
use Rattle.gup_law_base.proofs.Tally.{tally_grab}
use Rattle.gup_law_base.proofs.PinLists.{all_untaken}
use Rattle.gup_law_walk.proofs.Switches.{IsWalk, actor_is, switched, switched_view, switches}
use Rattle.gup_law_walk.proofs.Steps.{walking_light, walk_of, in_walk, rests, tries, walk_seen, walk_known, walk_light, number_stays, next_step}

-- an entry that isn't wrong is writable where the pages are to be written, and normal where they are kept for long
right_writes : (write writable rest : Bool) → ((write && not writable) || rest) ≡ false → write ≡ true → writable ≡ true
right_writes true true rest right needs = refl
right_writes true false rest right needs = absurd (cc)
right_writes false writable rest right needs = absurd (cc)

right_normal : (wrong long : Bool) (f m : ℕ) → (wrong || (long && nat_lt f m)) ≡ false → long ≡ true → m ≤ f
right_normal true long f m right needs = absurd (cc)
right_normal false true f m right needs = grind (arith, nat_tests)
right_normal false false f m right needs = absurd (cc)

-- A walk that has come down a path so far is between its readings of the sequence, keeps all that it has taken, and has grabbed nothing.
record IsComing (step : WalkStep) : Type 0 where
  inside : is_inside step ≡ true
  keeps : unkept step ≡ 0
  free : step_frame step ≡ None

coming : (page : ℕ) (path : List ℕ) → IsComing (step_at page path)
coming page [] = record { inside = refl; keeps = refl; free = refl }
coming page (table ∷ path) = record { inside = refl; keeps = refl; free = refl }

module _ (s : CoreState) (a p : ℕ) (write long : Bool) (sequence page : ℕ) (path : List ℕ) (v : View) (h : IsSoundBy v s) (in-walk : s.job a ≡ walking p write long sequence (step_at page path)) where
  abbrev old : Walking
  old = walk_of p write long sequence (step_at page path)

  walk : IsWalk v s (s.taken a) old
  walk = walk_known v s h a p write long sequence (step_at page path) in-walk

  -- it goes on with a step that tries no page as yet
  goes : (step : WalkStep) → (step ≡ entered → ⊥) → rechecked_entry step ≡ None → tried_page step ≡ None → tried_entry step ≡ None → unkept step ≡ 0 → step_frame step ≡ None → is_open (Some (walk_of p write long sequence step)) ≡ true → IsSound (record s { job = put a (walking p write long sequence step) s.job })
  goes step begun checked page-none entry-none keeps free opened =
      let kept = λ (k : ℕ) (t : Taken) (now : sequence ≡ s.sequence p) (is : slice_get (s.taken a) k ≡ Some t) (within : k + unkept step < length (s.taken a)). walk.kept k t (coming page path).inside now is (subst (λ n. k + n < length (s.taken a)) (keeps ∙ sym (coming page path).keeps) within) in
      (_, next_step v s h a p write long sequence (step_at page path) in-walk sequence step ((coming page path).free ∙ sym free) (λ closed. absurd (cc)) (rests v s (s.taken a) old walk (coming page path).inside step begun checked page-none entry-none kept))

  stops : IsSound (record s { job = put a (walking p write long sequence stopped) s.job })
  stops = goes stopped (λ e. absurd (cc)) refl refl refl refl refl refl

  -- a word leads it on
  leads : (next : Option ℕ) → IsSound (record s { job = put a (walking p write long sequence (step_led page path next)) s.job })
  leads None = stops
  leads (Some table) = goes (reading page (table ∷ path)) (λ e. absurd (cc)) refl refl refl refl refl refl

  module _ (untaken : IsUntaken (s.taken a) page) where
    reads : (e : Entry) → is_wrong s write long e ≡ false → IsSound (record s { job = put a (walking p write long sequence (read page path e)) s.job })
    reads e right =
        (_, next_step v s h a p write long sequence (step_at page path) in-walk sequence (read page path e) (coming page path).free (λ closed. absurd (cc)) (tries v s (s.taken a) old walk (coming page path).inside (read page path e) (λ e. absurd (cc)) refl page e refl refl (sym (coming page path).keeps) (λ k t. all_untaken (s.taken a) k t page untaken) (right_writes write e.writable (long && nat_lt e.frame s.movable) right) (right_normal (write && not e.writable) long e.frame s.movable right)))

    by_entry : (e : Entry) (wrong : Bool) → is_wrong s write long e ≡ wrong → IsSound (record s { job = put a (walking p write long sequence (if wrong then stopped else read page path e)) s.job })
    by_entry e true wrong = stops
    by_entry e false right = reads e right

    ends : (was : Option Entry) → IsSound (record s { job = put a (walking p write long sequence (step_read s write long page path was)) s.job })
    ends None = stops
    ends (Some e) = by_entry e (is_wrong s write long e) refl

-- the walk is led on, or stops
pub simulates-read_link : (s : CoreState) (a p : ℕ) (write long : Bool) (sequence page : ℕ) (path : List ℕ) (next : Option ℕ) → IsSound s → Can s (read_link a p write long sequence page path next) → Simulates s (read_link a p write long sequence page path next)
simulates-read_link s a p write long sequence page path next (v, h) c =
    record { sound = leads s a p write long sequence page path v h c.0 next; can = tt; same = refl }

-- the page is none that was taken, and its entry is right for the pin; or else the walk stops
pub simulates-read_entry : (s : CoreState) (a p : ℕ) (write long : Bool) (sequence page : ℕ) (path : List ℕ) (was : Option Entry) → IsSound s → Can s (read_entry a p write long sequence page path was) → Simulates s (read_entry a p write long sequence page path was)
simulates-read_entry s a p write long sequence page path was (v, h) c =
    record { sound = ends s a p write long sequence page path v h c.0 c.3 was; can = tt; same = refl }

-- a grab is a part of the count that no other clause speaks of
pub simulates-grab_frame : (s : CoreState) (a p : ℕ) (write long : Bool) (sequence page : ℕ) (path : List ℕ) (entry : Entry) → IsSound s → Can s (grab_frame a p write long sequence page path entry) → Simulates s (grab_frame a p write long sequence page path entry)
simulates-grab_frame s a p write long sequence page path entry (v, h) c =
    let f : ℕ = entry.frame in
    let job : Job = walking p write long sequence (grabbed page path entry) in
    let old : Walking = walk_of p write long sequence (read page path entry) in
    let new : Walking = walk_of p write long sequence (grabbed page path entry) in
    let count : ℕ → ℕ = put f (s.count f + bias) s.count in
    let more : ℕ → ℕ = put f (v.grabs f + bias) v.grabs in
    let S : CoreState = switched v s h a job s.walks count v.references more s.taken in
    let V : View = switched_view v s h a job s.walks count v.references more s.taken in
    let was : IsWalk v s (s.taken a) old = walk_known v s h a p write long sequence (read page path entry) c.0 in
    let walk : IsWalk v s (s.taken a) new = tries v s (s.taken a) old was refl (grabbed page path entry) (λ e. absurd (cc)) refl page entry refl refl refl (λ k t. was.untaken k page t refl) (was.writes entry refl) (was.normal entry refl) in
    let grabs : Grabs V S = tally_grab v.grabs v.walks a f (Some new) (ap (λ o. walk_frame o) (walk_seen v s h a p write long sequence (read page path entry) c.0)) refl h.grabs in
    let count_is : CountIs V S = λ u. grind (arith, nat_tests, h.count_is u) in
    let sound : IsSoundBy V S = switches v s h a job s.walks count v.references more s.taken (walk_light v s h a p write long sequence (read page path entry) c.0) (walking_light p write long sequence (grabbed page path entry)) (λ b apart. refl) h.references grabs count_is h.prepared_once h.moving_once (number_stays v s h a p write long sequence (read page path entry) c.0 sequence (grabbed page path entry)) (in_walk v s (s.taken a) new (actor_is v s h a).pages (λ closed. absurd (cc)) walk) in
    record { sound = (V, sound); can = tt; same = refl }

-- the frame was free, or its count too high
pub simulates-miss_frame : (s : CoreState) (a p : ℕ) (write long : Bool) (sequence page : ℕ) (path : List ℕ) (entry : Entry) → IsSound s → Can s (miss_frame a p write long sequence page path entry) → Simulates s (miss_frame a p write long sequence page path entry)
simulates-miss_frame s a p write long sequence page path entry (v, h) c =
    let old : Walking = walk_of p write long sequence (read page path entry) in
    let was : IsWalk v s (s.taken a) old = walk_known v s h a p write long sequence (read page path entry) c in
    let walk : IsWalk v s (s.taken a) (walk_of p write long sequence stopped) = rests v s (s.taken a) old was refl stopped (λ e. absurd (cc)) refl refl refl (λ k t. was.kept k t refl) in
    record { sound = (_, next_step v s h a p write long sequence (read page path entry) c sequence stopped refl (λ closed. absurd (cc)) walk); can = tt; same = refl }
