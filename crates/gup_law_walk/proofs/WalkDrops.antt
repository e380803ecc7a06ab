-- A walk drops what it has to: a frame whose entry was another, the last page that it has taken, the first of all.
use Rattle.std.proofs.Common.{◌≡◌, ℕ, ◌+◌, ◌-◌, ◌<◌, ◌≤◌, ◌==◌, Bool, true, false, List, [], ◌∷◌, ◌++◌, length, suc, refl, ap, sym, ◌∙◌, subst, arith}
use Rattle.std.specs.Prelude.{Some, None, slice_get}
use Rattle.std.proofs.lemmas.Bool.Decides.{nat_tests}
use Rattle.gup_plain.specs.Put.{put}
use Rattle.gup_spec_events.specs.State.{CoreState, Taken, Job, walking, WalkStep, entered, differed, refused, stopped, dropping, over}
use Rattle.gup_spec_events.specs.Event.{Can, happens, bias, writes_taken, long_taken, step_left, without_references, drop_grab, drop_last, drop_first}
use Rattle.gup_spec_events.specs.Invariant.{is_inside, step_frame}
use Rattle.gup_law_base.specs.Sound.{View, Walking, walk_frame, is_open, tried_page, tried_entry, rechecked_entry, unkept, held, Tally, IsSoundBy, IsSound, Simulates}
use Rattle.gup_law_base.proofs.Clauses.{References, Grabs, CountIs, PreparedOnce, MovingOnce}
use Rattle.gup_law_base.proofs.Rows.{at_end, at_longer, at_within}
use Rattle.gup_law_base.proofs.Tally.{changed, tally_is, tally_step, tally_drop, number_here}
use Rattle.gup_law_base.proofs.Lonely.{taken_counts, taken_alone, grab_counts, grab_alone}
use Rattle.gup_law_walk.proofs.Switches.{ArePages, AreSettled, IsWalk, IsActor, actor_is, switched, switched_view, switches, put_there}
use Rattle.gup_law_walk.proofs.Steps.{walking_light, walk_of, in_walk, rests, walk_seen, walk_known, walk_light, number_stays}
use Rattle.gup_law_walk.proofs.TallyTaken.{tally_last, tally_first}
use Rattle.gup_law_walk.proofs.FreedFrames.{freed}
use Rattle.gup_law_walk.proofs.PlainPending.{told_contains, told_last, told_first, told_less}

-- where the grab was the last reference, nobody else holds the frame
pub simulates-drop_grab : (s : CoreState) (a p : ℕ) (write long : Bool) (sequence f : ℕ) → IsSound s → Can s (drop_grab a p write long sequence f) → Simulates s (drop_grab a p write long sequence f)
simulates-drop_grab s a p write long sequence f (v, h) c =
    let job : Job = walking p write long sequence stopped in
    let old : Walking = walk_of p write long sequence (differed f) in
    let new : Walking = walk_of p write long sequence stopped in
    let seen : walk_frame (v.walks a) ≡ Some f = ap walk_frame (walk_seen v s h a p write long sequence (differed f) c) in
    let was : IsWalk v s (s.taken a) old = walk_known v s h a p write long sequence (differed f) c in
    let walk : IsWalk v s (s.taken a) new = rests v s (s.taken a) old was refl stopped (λ e. absurd (cc)) refl refl refl (λ k t. was.kept k t refl) in
    let count : ℕ → ℕ = put f (s.count f - bias) s.count in
    let fewer : ℕ → ℕ = put f (v.grabs f - bias) v.grabs in
    let S : CoreState = switched v s h a job s.walks count v.references fewer s.taken in
    let V : View = switched_view v s h a job s.walks count v.references fewer s.taken in
    let weighs : bias ≤ v.grabs f = grab_counts v s h a f seen in
    let grabs : Grabs V S = tally_drop v.grabs v.walks a f (Some new) seen refl h.grabs in
    let count_is : CountIs V S = λ u. grind (arith, nat_tests, h.count_is u) in
    let dropped : IsSoundBy V S = switches v s h a job s.walks count v.references fewer s.taken (walk_light v s h a p write long sequence (differed f) c) (walking_light p write long sequence stopped) (λ b apart. refl) h.references grabs count_is h.prepared_once h.moving_once (number_stays v s h a p write long sequence (differed f) c sequence stopped) (in_walk v s (s.taken a) new (actor_is v s h a).pages (λ closed. absurd (cc)) walk) in
    let none : (s.count f == bias) ≡ true → v.references f ≡ 0 = λ free. (grab_alone v s h a f seen (grind (arith, nat_tests))).0 in
    let sound : IsSoundBy V (happens s (drop_grab a p write long sequence f)) = freed V S dropped f (s.count f == bias) none in
    record { sound = (V, sound); can = tt; same = refl }

-- Pages are left, each of which stood among those that were taken at an index of its own.
module _ (v : View) (s : CoreState) (ts left : List Taken) (index : ℕ → ℕ) (stood : (k : ℕ) (t : Taken) → slice_get left k ≡ Some t → slice_get ts (index k) ≡ Some t) where
  pages_less : ArePages v s ts → ((j k : ℕ) → index j ≡ index k → j ≡ k) → ArePages v s left
  pages_less all one =
      record {
        made = λ k t is. all.made (index k) t (stood k t is);
        flag = λ k t is. all.flag (index k) t (stood k t is);
        names = λ k p g t is. all.names (index k) p g t (stood k t is);
        normal = λ k t is. all.normal (index k) t (stood k t is);
        write = λ k t is. all.write (index k) t (stood k t is) ∙ sym (same_write left k t is stood);
        long = λ k t is. all.long (index k) t (stood k t is) ∙ sym (same_long left k t is stood);
        apart = λ j k t u is that same. one j k (all.apart (index j) (index k) t u (stood j t is) (stood k u that) same);
      }
    where
      same_write : (us : List Taken) (k : ℕ) (t : Taken) → slice_get us k ≡ Some t → ((k : ℕ) (t : Taken) → slice_get us k ≡ Some t → slice_get ts (index k) ≡ Some t) → writes_taken us ≡ writes_taken ts
      same_write [] k t is at = absurd (cc)
      same_write (u ∷ us) k t is at = all.write (index 0) u (at 0 u refl)

      same_long : (us : List Taken) (k : ℕ) (t : Taken) → slice_get us k ≡ Some t → ((k : ℕ) (t : Taken) → slice_get us k ≡ Some t → slice_get ts (index k) ≡ Some t) → long_taken us ≡ long_taken ts
      same_long [] k t is at = absurd (cc)
      same_long (u ∷ us) k t is at = all.long (index 0) u (at 0 u refl)

  module _ (w : Walking) (walk : IsWalk v s ts w) (step : WalkStep) where
    walk_less : (step ≡ entered → ⊥) → (is_inside step ≡ true → is_inside w.step ≡ true) → tried_page step ≡ None → tried_entry step ≡ None → rechecked_entry step ≡ None → ((k : ℕ) (t : Taken) → is_inside step ≡ true → w.sequence ≡ s.sequence w.proc → slice_get left k ≡ Some t → k + unkept step < length left → s.mark t.frame ≡ true) → IsWalk v s left (record w { step = step })
    walk_less begun still page entry checked kept =
        record {
          flag = walk.flag;
          empty = λ k t first is. begun first;
          even = λ inside. walk.even (still inside);
          below = λ inside. walk.below (still inside);
          proc = λ k t is. walk.proc (index k) t (stood k t is);
          write = λ k t is. walk.write (index k) t (stood k t is);
          long = λ k t is. walk.long (index k) t (stood k t is);
          untaken = λ k g t tried. absurd (cc);
          writes = λ e tried. absurd (cc);
          normal = λ e tried. absurd (cc);
          own = λ k o t inside now is. walk.own (index k) o t (still inside) now (stood k t is);
          unowned = λ k t inside now is. walk.unowned (index k) t (still inside) now (stood k t is);
          kept = kept;
          last = λ k t e last. absurd (cc);
          writable = λ k t e last. absurd (cc);
        }

-- A page is given back: its frame may be nobody's then.
module _ (v : View) (s : CoreState) (h : IsSoundBy v s) (a p : ℕ) (write long : Bool) (sequence : ℕ) where
  abbrev without_page : (to : WalkStep) (t : Taken) (left : List Taken) → CoreState
  without_page to t left =
      record (without_references t.frame bias s) {
        job = put a (walking p write long sequence to) s.job;
        taken = put a left s.taken;
      }

  drops_page : (from to : WalkStep) (t : Taken) (at : ℕ) (left : List Taken) → s.job a ≡ walking p write long sequence from → slice_get (s.taken a) at ≡ Some t → step_frame from ≡ step_frame to → Tally (changed (Some t.frame) None bias v.references) (held s.entry v.moves s.prepared s.owed s.got s.pinned (put a left s.taken)) → ArePages v s left → (is_open (Some (walk_of p write long sequence to)) ≡ false → AreSettled v s left) → IsWalk v s left (walk_of p write long sequence to) → IsSound (without_page to t left)
  drops_page from to t at left c is same tally pages settled walk =
      let f : ℕ = t.frame in
      let job : Job = walking p write long sequence to in
      let new : Walking = walk_of p write long sequence to in
      let count : ℕ → ℕ = put f (s.count f - bias) s.count in
      let less : ℕ → ℕ = put f (v.references f - bias) v.references in
      let taken : ℕ → List Taken = put a left s.taken in
      let S : CoreState = switched v s h a job s.walks count less v.grabs taken in
      let V : View = switched_view v s h a job s.walks count less v.grabs taken in
      let weighs : bias ≤ v.references f = taken_counts v s h a at t is in
      let references : References V S = tally_is _ _ _ tally (λ d. grind (arith, nat_tests)) in
      let grabs : Grabs V S = tally_step v.grabs v.walks a (Some new) (ap walk_frame (walk_seen v s h a p write long sequence from c) ∙ same) h.grabs in
      let count_is : CountIs V S = λ u. grind (arith, nat_tests, h.count_is u) in
      let prepared_once : PreparedOnce V S = λ b u. grind (arith, nat_tests, h.prepared_once b u) in
      let moving_once : MovingOnce V S = λ b m. grind (arith, nat_tests, h.moving_once b m) in
      let actor : IsActor v s (taken a) (Some new) = subst (λ xs. IsActor v s xs (Some new)) (sym (number_here a left s.taken)) (in_walk v s left new pages settled walk) in
      let dropped : IsSoundBy V S = switches v s h a job s.walks count less v.grabs taken (walk_light v s h a p write long sequence from c) (walking_light p write long sequence to) (λ b apart. put_there a left s.taken b apart) references grabs count_is prepared_once moving_once (number_stays v s h a p write long sequence from c sequence to) actor in
      let none : (s.count f == bias) ≡ true → less f ≡ 0 = λ free. grind (arith, nat_tests, taken_alone v s h a at t is) in
      (V, freed V S dropped f (s.count f == bias) none)

-- the last page was refused, all others are kept
pub simulates-drop_last : (s : CoreState) (a p : ℕ) (write long : Bool) (sequence : ℕ) (left : List Taken) (last : Taken) → IsSound s → Can s (drop_last a p write long sequence left last) → Simulates s (drop_last a p write long sequence left last)
simulates-drop_last s a p write long sequence left last (v, h) c =
    let old : Walking = walk_of p write long sequence refused in
    let ts : List Taken = s.taken a in
    let had : ts ≡ left ++ last ∷ [] = c.1 in
    let is : slice_get ts (length left) ≡ Some last = subst (λ (us : List Taken). slice_get us (length left) ≡ Some last) (sym had) (at_end left last) in
    let stood = λ (k : ℕ) (t : Taken) (there : slice_get left k ≡ Some t). subst (λ (us : List Taken). slice_get us k ≡ Some t) (sym had) (at_longer left last k t there) in
    let was : IsWalk v s ts old = walk_known v s h a p write long sequence refused c.0 in
    let pages : ArePages v s left = pages_less v s ts left (λ k. k) stood (actor_is v s h a).pages (λ j k same. same) in
    let walk : IsWalk v s left (walk_of p write long sequence stopped) = walk_less v s ts left (λ k. k) stood old was stopped (λ e. absurd (cc)) (λ inside. refl) refl refl refl (λ k t inside now there within. was.kept k t refl now (stood k t there) (omega (arith, within, at_within ts (length left) last is))) in
    let apart = λ (k : ℕ) (t : Taken) (there : slice_get left k ≡ Some t) (same : t.page ≡ last.page). let no : ⊥ = omega (arith, at_within left k t there, h.taken_apart a k (length left) t last (stood k t there) is same) in no in
    record { sound = drops_page v s h a p write long sequence refused stopped last (length left) left c.0 is refl (tally_last _ _ _ _ _ _ _ _ a left last had h.references) pages (λ closed. absurd (cc)) walk; can = told_contains ts (length left) last is; same = told_less s a left last.page (told_last left last ts had apart) }

-- the walk is disturbed, and nothing is known of what it has taken
pub simulates-drop_first : (s : CoreState) (a p : ℕ) (write long : Bool) (sequence : ℕ) (first : Taken) (left : List Taken) → IsSound s → Can s (drop_first a p write long sequence first left) → Simulates s (drop_first a p write long sequence first left)
simulates-drop_first s a p write long sequence first left (v, h) c =
    record { sound = by_left left had; can = told_contains (s.taken a) 0 first is; same = told_less s a left first.page (told_first left first (s.taken a) had apart) }
  where
    had : s.taken a ≡ first ∷ left
    had = c.1

    is : slice_get (s.taken a) 0 ≡ Some first
    is = ap (λ (us : List Taken). slice_get us 0) c.1

    stood : (us : List Taken) → s.taken a ≡ first ∷ us → (k : ℕ) (t : Taken) → slice_get us k ≡ Some t → slice_get (s.taken a) (suc k) ≡ Some t
    stood us all k t there = ap (λ (xs : List Taken). slice_get xs (suc k)) all ∙ there

    apart : (k : ℕ) (t : Taken) → slice_get left k ≡ Some t → t.page ≡ first.page → ⊥
    apart k t there same = omega (arith, h.taken_apart a (suc k) 0 t first (stood left c.1 k t there) is same)

    was : IsWalk v s (s.taken a) (walk_of p write long sequence dropping)
    was = walk_known v s h a p write long sequence dropping c.0

    pages : (us : List Taken) → s.taken a ≡ first ∷ us → ArePages v s us
    pages us all = pages_less v s (s.taken a) us suc (stood us all) (actor_is v s h a).pages (λ j k same. omega (arith, same))

    nothing : AreSettled v s []
    nothing = record { marked = λ k t is. absurd (cc); own = λ k t is. absurd (cc); share = λ b g j fork e t forks shared there is. absurd (cc) }

    by_left : (us : List Taken) → s.taken a ≡ first ∷ us → IsSound (without_page v s h a p write long sequence (step_left us) first us)
    by_left [] all =
        drops_page v s h a p write long sequence dropping over first 0 [] c.0 is refl (tally_first _ _ _ _ _ _ _ _ a first [] all h.references) (pages [] all) (λ closed. nothing) (walk_less v s (s.taken a) [] suc (stood [] all) (walk_of p write long sequence dropping) was over (λ e. absurd (cc)) (λ inside. absurd (cc)) refl refl refl (λ k t inside. absurd (cc)))
    by_left (u ∷ us) all =
        drops_page v s h a p write long sequence dropping dropping first 0 (u ∷ us) c.0 is refl (tally_first _ _ _ _ _ _ _ _ a first (u ∷ us) all h.references) (pages (u ∷ us) all) (λ closed. absurd (cc)) (walk_less v s (s.taken a) (u ∷ us) suc (stood (u ∷ us) all) (walk_of p write long sequence dropping) was dropping (λ e. absurd (cc)) (λ inside. absurd (cc)) refl refl refl (λ k t inside. absurd (cc)))
