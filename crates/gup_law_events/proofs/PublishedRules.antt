-- What is published of a sound state follows from its clauses.
use Rattle.std.proofs.Common.{◌≡◌, ℕ, ◌+◌, ◌<◌, ◌≤◌, inl, inr, Bool, true, false, List, length, refl, ap, sym, ◌∙◌, subst, arith}
use Rattle.std.specs.Prelude.{Option, Some, None, IsSome, Contains, slice_get, not, suc}
use Rattle.gup_base.specs.declared.entry.Allowed.{Allowed}
use Rattle.gup_base.specs.declared.entry.Entry.{Entry}
use Rattle.gup_base.specs.declared.entry.Rights.{Rights}
use Rattle.gup_base.specs.declared.entry.Rights.TheVariants.{R, RW}
use Rattle.gup_plain.specs.State.{born, failed}
use Rattle.gup_spec_events.specs.State.{CoreState, Taken, Counted, one, Job, idle, marking, moving, forking, walking, ForkStep, between, counted, lowered, cleared, copying, failing, WalkStep, entered, ready, reading, read, grabbed, rechecked, differed, refused, stopped, dropping, over}
use Rattle.gup_spec_events.specs.Event.{bias, is_odd}
use Rattle.gup_spec_events.specs.Invariant.{HasCleared, IsEntry, Names, IsSettled, IsExclusive, IsSharing, IsUndisturbed, IsParted, IsUncopied, StandsFor, IsAsPinned, AwaitsMark, IsWalked, CountsWalks, AreNormal, Holds, frame_of, is_unsettled, walked_process}
use Rattle.gup_law_base.specs.Sound.{View, Moving, Forking, Walking, moving_of, forking_of, walking_of, walk_process, is_open, is_failing, unkept, shared_page, IsUncopiedBy, IsSoundBy}
use Rattle.gup_law_base.proofs.Rows.{contains_at, at_within}
use Rattle.gup_law_base.proofs.DonePages.{some_there}
use Rattle.gup_law_base.proofs.Steps.{even_apart}
use Rattle.gup_law_base.proofs.Lonely.{whole_is, handle_counts, taken_counts, grabbed_counted, mapped_names, born_mapped}
use Rattle.gup_law_events.proofs.CountIdentity.{walked_is, counts}

-- 1. Jobs, back from what they are seen as

job_moving : (job : Job) (m : Moving) → moving_of job ≡ Some m → (allowed : Allowed) × (job ≡ moving m.proc m.page m.entry allowed m.count)
job_moving (moving p page e allowed count) m is = (allowed, cc)
job_moving idle m is = absurd (cc)
job_moving (marking p page f) m is = absurd (cc)
job_moving (forking p c done step) m is = absurd (cc)
job_moving (walking p write long sequence step) m is = absurd (cc)

job_forking : (job : Job) (k : Forking) → forking_of job ≡ Some k → job ≡ forking k.proc k.child k.done k.step
job_forking (forking p c done step) k is = cc
job_forking idle k is = absurd (cc)
job_forking (marking p page f) k is = absurd (cc)
job_forking (moving p page e allowed count) k is = absurd (cc)
job_forking (walking p write long sequence step) k is = absurd (cc)

unsettled_is : (job : Job) → is_open (walking_of job) ≡ is_unsettled job
unsettled_is (walking p write long sequence step) = refl
unsettled_is idle = refl
unsettled_is (marking p page f) = refl
unsettled_is (moving p page e allowed count) = refl
unsettled_is (forking p c done step) = refl

process_is : (job : Job) → walked_process job ≡ walk_process (walking_of job)
process_is (walking p write long sequence step) = refl
process_is idle = refl
process_is (marking p page f) = refl
process_is (moving p page e allowed count) = refl
process_is (forking p c done step) = refl

sharing_is : (step : ForkStep) (page : ℕ) → IsSharing step page → shared_page step ≡ Some page
sharing_is (counted g) page is = ap (λ n. Some n) is
sharing_is (lowered g) page is = ap (λ n. Some n) is
sharing_is (cleared g) page is = ap (λ n. Some n) is
sharing_is between page is = absurd is
sharing_is (copying g n) page is = absurd is
sharing_is failing page is = absurd is

sharing_goes : (step : ForkStep) (page : ℕ) → IsSharing step page → is_failing step ≡ false
sharing_goes (counted g) page is = refl
sharing_goes (lowered g) page is = refl
sharing_goes (cleared g) page is = refl
sharing_goes between page is = refl
sharing_goes (copying g n) page is = refl
sharing_goes failing page is = absurd is

not_failing : (step : ForkStep) → (step ≡ failing → ⊥) → is_failing step ≡ false
not_failing between goes = refl
not_failing (counted page) goes = refl
not_failing (lowered page) goes = refl
not_failing (cleared page) goes = refl
not_failing (copying page n) goes = refl
not_failing failing goes = absurd (goes refl)

some_value : {X : Type 0} (o : Option X) → IsSome o → (x : X) × (o ≡ Some x)
some_value None is = absurd (cc)
some_value (Some x) is = (x, refl)

framed : (o : Option Entry) (f : ℕ) → frame_of o ≡ Some f → (e : Entry) × (o ≡ Some e) × (e.frame ≡ f)
framed None f is = absurd (cc)
framed (Some e) f is = (e, refl, cc)

module _ (v : View) (s : CoreState) (h : IsSoundBy v s) where
  -- 2. Entries

  is_moving : (a p page : ℕ) (e : Entry) (allowed : Allowed) (count : Counted) → s.job a ≡ moving p page e allowed count → v.moves a ≡ Some (record { proc = p; page = page; entry = e; count = count })
  is_moving a p page e allowed count is = h.moves_are a ∙ ap moving_of is

  is_forking : (a p c : ℕ) (done : List ℕ) (step : ForkStep) → s.job a ≡ forking p c done step → v.forks a ≡ Some (record { proc = p; child = c; done = done; step = step })
  is_forking a p c done step is = h.forks_are a ∙ ap forking_of is

  is_walking : (a p : ℕ) (write long : Bool) (sequence : ℕ) (step : WalkStep) → s.job a ≡ walking p write long sequence step → v.walks a ≡ Some (record { proc = p; write = write; long = long; sequence = sequence; step = step })
  is_walking a p write long sequence step is = h.walks_are a ∙ ap walking_of is

  -- no walk of the actor may have to drop what it has taken
  is_closed : (a : ℕ) → is_unsettled (s.job a) ≡ false → is_open (v.walks a) ≡ false
  is_closed a is = ap is_open (h.walks_are a) ∙ (unsettled_is (s.job a) ∙ is)

  entry_whole : (p page : ℕ) (e : Entry) → IsEntry s p page e → v.whole p page ≡ Some e
  entry_whole p page e (inl is) = h.whole_entry p page e is
  entry_whole p page e (inr is) =
      h.whole_moved is.0 (record { proc = p; page = page; entry = e; count = is.1.1 }) (is_moving is.0 p page e is.1.0 is.1.1 is.1.2)

  job_cleared : (a p page : ℕ) (e : Entry) (m : Moving) → v.moves a ≡ Some m → m.proc ≡ p → m.page ≡ page → m.entry ≡ e → HasCleared s a p page e
  job_cleared a p page e m is proc number entry =
      let job = job_moving (s.job a) m (sym (h.moves_are a) ∙ is) in
      let made : s.job a ≡ moving m.proc m.page m.entry job.0 m.count = job.1 in
      (job.0, m.count, cc)

  whole_entry : (p page : ℕ) (e : Entry) → v.whole p page ≡ Some e → IsEntry s p page e
  whole_entry p page e is =
      elim (whole_is v s h p page e is) [
        | inl there ↦ inl there
        | inr moved ↦ inr (moved.0, (job_cleared moved.0 p page e moved.1 moved.2 moved.3 moved.4 moved.5))
      ]

  -- 3. Settled pins

  names_is : (p page o : ℕ) → Names s p page o → v.names p page ≡ Some o
  names_is p page o is = mapped_names v s h p page is.0 ∙ ap (λ n. Some n) is.1

  settled_own : (f o : ℕ) → IsSettled s f o → s.own f ≡ Some o
  settled_own f o (inl is) = h.handle_own is.0 is.1 f is.2 ∙ is.3
  settled_own f o (inr is) =
      let at = contains_at (s.taken is.0) is.1 is.3 in
      let own : s.own is.1.frame ≡ Some is.1.object = h.taken_own is.0 at.0 is.1 at.1 (is_closed is.0 is.2) in
      subst (λ g. s.own g ≡ Some o) is.4 (own ∙ ap (λ n. Some n) is.5)

  settled_marked : (f o : ℕ) → IsSettled s f o → s.mark f ≡ true
  settled_marked f o (inl is) = h.handle_marked is.0 is.1 f is.2
  settled_marked f o (inr is) =
      let at = contains_at (s.taken is.0) is.1 is.3 in
      subst (λ g. s.mark g ≡ true) is.4 (h.taken_marked is.0 at.0 is.1 at.1 (is_closed is.0 is.2))

  settled_flag : (f o p page : ℕ) → IsSettled s f o → v.names p page ≡ Some o → s.has_pinned p ≡ true
  settled_flag f o p page (inl is) named = h.handle_flag is.0 is.1 f o p page is.2 (h.handle_own is.0 is.1 f is.2 ∙ is.3) named
  settled_flag f o p page (inr is) named =
      let at = contains_at (s.taken is.0) is.1 is.3 in
      let here = h.taken_names is.0 at.0 p page is.1 at.1 (named ∙ ap (λ n. Some n) (sym is.5)) in
      subst (λ q. s.has_pinned q ≡ true) (sym here.0) (h.taken_flag is.0 at.0 is.1 at.1)

  settled_counts : (f o : ℕ) → IsSettled s f o → bias ≤ v.references f
  settled_counts f o (inl is) = handle_counts v s h is.0 is.1 f is.2
  settled_counts f o (inr is) =
      let at = contains_at (s.taken is.0) is.1 is.3 in
      subst (λ g. bias ≤ v.references g) is.4 (taken_counts v s h is.0 at.0 is.1 at.1)

  -- a frame that is exclusively the object's, where who names the object has pinned
  as_pinned : (f o : ℕ) → s.own f ≡ Some o → ((p page : ℕ) → v.names p page ≡ Some o → s.has_pinned p ≡ true) → IsAsPinned s f o
  as_pinned f o owns flag =
      record {
        entry = λ p page named.
            let at = framed (v.whole p page) f (h.own_entry f p page o owns (names_is p page o named)) in
            (at.0, whole_entry p page at.0 at.1, at.2);
        alone = λ p page e is same.
            let there : v.whole p page ≡ Some e = entry_whole p page e is in
            let own : s.own e.frame ≡ Some o = ap s.own same ∙ owns in
            let named : v.names p page ≡ Some o = h.own_names p page o e there own in
            let lives : s.birth p ≡ born = h.flag_born p (flag p page named) in
            (born_mapped v s h p page e lives there, h.names_object p page o named);
        object = λ g u that. (
          λ same. let own : Some o ≡ Some u = sym owns ∙ (ap s.own same ∙ settled_own g u that) in let r : o ≡ u = cc in r,
          λ same. h.own_alone f g o owns (settled_own g u that ∙ ap (λ n. Some n) (sym same)),
        );
        words = λ w within. h.own_words f o w owns within;
      }

  settled_pinned : (f o : ℕ) → IsSettled s f o → IsAsPinned s f o
  settled_pinned f o settled = as_pinned f o (settled_own f o settled) (λ p page. settled_flag f o p page settled)

  -- 4. The exclusive rule

  allowed : (p page : ℕ) (e : Entry) → v.whole p page ≡ Some e → e.writable ≡ true → (s.birth p ≡ failed → ⊥) → s.right p page ≡ Some RW
  allowed p page e there writable lives = go (s.right p page) refl
    where
      go : (o : Option Rights) → s.right p page ≡ o → o ≡ Some RW
      go None none = absurd (lives (h.entry_mapped p page e there none))
      go (Some RW) some = refl
      go (Some R) some = absurd (h.entry_allowed p page e there writable some)

  one_page : (p page q g : ℕ) (d e : Entry) → v.whole p page ≡ Some d → v.whole q g ≡ Some e → d.frame ≡ e.frame → s.mark e.frame ≡ true → (p ≡ q) × (page ≡ g)
  one_page p page q g d e there also same marked =
      let first : v.names p page ≡ Some (s.object p page) = h.whole_names p page d there in
      let own : s.own e.frame ≡ v.names q g = h.marked_own q g e also marked in
      let owned : s.own d.frame ≡ v.names p page = h.marked_own p page d there (subst (λ f. s.mark f ≡ true) (sym same) marked) in
      let frames : s.own d.frame ≡ s.own e.frame = ap s.own same in
      let second : v.names q g ≡ Some (s.object p page) = sym own ∙ (sym frames ∙ (owned ∙ first)) in
      h.names_alone p page q g (s.object p page) first second

  exclusive : IsExclusive s
  exclusive =
      record {
        writable = λ p page e is w. (h.entry_marked p page e (entry_whole p page e is) w, allowed p page e (entry_whole p page e is) w);
        cleared_gone = λ a p page e is. h.moved_gone a (record { proc = p; page = page; entry = e; count = is.1 }) (is_moving a p page e is.0 is.1 is.2);
        cleared_once = λ a b p page d e is that.
            let first : s.table p ≡ Some a = h.moves_table a (record { proc = p; page = page; entry = d; count = is.1 }) (is_moving a p page d is.0 is.1 is.2) in
            let second : s.table p ≡ Some b = h.moves_table b (record { proc = p; page = page; entry = e; count = that.1 }) (is_moving b p page e that.0 that.1 that.2) in
            cc;
        one_entry = λ p page q g d e is that. one_page p page q g d e (entry_whole p page d is) (entry_whole q g e that);
        pin_marked = settled_marked;
        pin_entry = λ f o p page settled. (settled_pinned f o settled).entry p page;
        pin_alone = λ f o p page e settled. (settled_pinned f o settled).alone p page e;
        one_object = λ f g o u is. (settled_pinned f o is).object g u;
        pin_flag = λ f o p page settled named. settled_flag f o p page settled (names_is p page o named);
      }

  -- 5. Forks and movers

  unshared : (a g : ℕ) (k : Forking) (e : Entry) (o : ℕ) → v.forks a ≡ Some k → shared_page k.step ≡ Some g → v.whole k.proc g ≡ Some e → IsSettled s e.frame o → ⊥
  unshared a g k e o is shares there (inl pin) = h.share_handle a g pin.0 pin.1 k e is shares there pin.2
  unshared a g k e o is shares there (inr pin) =
      let at = contains_at (s.taken pin.0) pin.1 pin.3 in
      h.share_taken a g pin.0 at.0 k e pin.1 is shares there at.1 (is_closed pin.0 pin.2) pin.4

  -- the sequence is odd while a fork runs, and a walk goes on with an even one only
  disturbed : (a p c page b : ℕ) (done : List ℕ) (step : ForkStep) (walk : WalkStep) → s.job a ≡ forking p c done step → IsSharing step page → IsUndisturbed s b p walk → ⊥
  disturbed a p c page b done step walk is sharing (write, long, sequence, walks, inside, same) =
      let odd : is_odd (s.sequence p) ≡ true = h.fork_odd a (record { proc = p; child = c; done = done; step = step }) (is_forking a p c done step is) ∙ ap not (sharing_goes step page sharing) in
      let even : is_odd sequence ≡ false = h.walk_even b (record { proc = p; write = write; long = long; sequence = sequence; step = walk }) (is_walking b p write long sequence walk walks) inside in
      even_apart sequence (s.sequence p) even odd (sym same)

  moved_once : (a p page : ℕ) (e : Entry) (allowed : Allowed) → s.job a ≡ moving p page e allowed one → v.references e.frame ≡ 1
  moved_once a p page e allowed is = h.moving_once a (record { proc = p; page = page; entry = e; count = one }) (is_moving a p page e allowed one is) refl

  untaken : (a p page b : ℕ) (e : Entry) (allowed : Allowed) (t : Taken) → s.job a ≡ moving p page e allowed one → Contains (s.taken b) t → t.frame ≡ e.frame → ⊥
  untaken a p page b e allowed t is has same =
      let at = contains_at (s.taken b) t has in
      let counts : bias ≤ v.references e.frame = subst (λ f. bias ≤ v.references f) same (taken_counts v s h b at.0 t at.1) in
      omega (arith, moved_once a p page e allowed is, counts)

  parted : IsParted s
  parted =
      record {
        share = λ a p c page done step e is sharing here o.
            unshared a page (record { proc = p; child = c; done = done; step = step }) e o (is_forking a p c done step is) (sharing_is step page sharing) (h.whole_entry p page e here);
        share_walk = disturbed;
        left = λ a p c done is. h.fork_left a (record { proc = p; child = c; done = done; step = failing }) (is_forking a p c done failing is) refl;
        move = λ a p page e allowed is o settled. omega (arith, moved_once a p page e allowed is, settled_counts e.frame o settled);
        move_walk = untaken;
      }

  -- 6. Bytes

  uncopied : (p page : ℕ) → IsUncopied s p page → IsUncopiedBy v.forks p page
  uncopied p page free a word k is child step =
      let job : s.job a ≡ forking k.proc k.child k.done k.step = job_forking (s.job a) k (sym (h.forks_are a) ∙ is) in
      free a k.proc word k.done (cc)

  absent : (p page : ℕ) → ((e : Entry) → IsEntry s p page e → ⊥) → v.whole p page ≡ None
  absent p page none = go (v.whole p page) refl
    where
      go : (o : Option Entry) → v.whole p page ≡ o → o ≡ None
      go None is = refl
      go (Some e) is = absurd (none e (whole_entry p page e is))

  -- nothing is in the child where the fork hasn't been
  unreached : (a p c page : ℕ) (done : List ℕ) (step : ForkStep) → s.job a ≡ forking p c done step → (step ≡ failing → ⊥) → (Contains done page → ⊥) → s.entry c page ≡ None
  unreached a p c page done step is goes fresh = go (s.entry c page) refl
    where
      none : v.whole c page ≡ None
      none = h.fork_fresh a page (record { proc = p; child = c; done = done; step = step }) (is_forking a p c done step is) (not_failing step goes) fresh

      go : (o : Option Entry) → s.entry c page ≡ o → o ≡ None
      go None at = refl
      go (Some e) at = absurd (let clash : None ≡ Some e = sym none ∙ h.whole_entry c page e at in cc)

  stands : StandsFor s
  stands =
      record {
        entry_words = λ p page e is mapped w within.
            let r = some_value (s.right p page) mapped in
            h.entry_words p page w e r.0 (entry_whole p page e is) r.1 within;
        untouched = λ p page w mapped none free within.
            let r = some_value (s.right p page) mapped in
            h.untouched p page w r.0 r.1 (absent p page none) (uncopied p page free) within;
        pin_words = λ f o settled. (settled_pinned f o settled).words;
        unreached = unreached;
        copy_there = λ a p c page word done is.
            some_there (s.prepared a) (h.copy_there a page (suc word) (record { proc = p; child = c; done = done; step = copying page (suc word) }) (is_forking a p c done (copying page (suc word)) is) refl (omega arith));
        copy_words = λ a p c page word w f done is prepares below.
            h.copy_words a page word w f (record { proc = p; child = c; done = done; step = copying page word }) (is_forking a p c done (copying page word) is) refl prepares below;
        handle_pages = h.handle_pages;
        mirror = λ m f noted is slot.
            let lives : s.birth noted.proc ≡ born = h.mirror_born m f noted is slot in
            let at = framed (s.entry noted.proc noted.page) f (h.mirror_entry m f noted is slot) in
            let there : v.whole noted.proc noted.page ≡ Some at.0 = h.whole_entry noted.proc noted.page at.0 at.1 in
            let named : v.names noted.proc noted.page ≡ Some noted.object = h.mirror_names m f noted is slot in
            (lives, (at.0, at.1, at.2), (born_mapped v s h noted.proc noted.page at.0 lives there, h.names_object noted.proc noted.page noted.object named));
      }

  -- 7. Walks

  -- what an undisturbed walk has taken is exclusively the object's, if it is marked
  taken_own : (a p k : ℕ) (step : WalkStep) (t : Taken) → IsUndisturbed s a p step → slice_get (s.taken a) k ≡ Some t → s.mark t.frame ≡ true → s.own t.frame ≡ Some t.object
  taken_own a p k step t (write, long, sequence, walks, inside, same) at marked = go (s.own t.frame) refl
    where
      w : Walking
      w = record { proc = p; write = write; long = long; sequence = sequence; step = step }

      here : v.walks a ≡ Some w
      here = is_walking a p write long sequence step walks

      go : (o : Option ℕ) → s.own t.frame ≡ o → o ≡ Some t.object
      go None none = absurd (let unmarked : s.mark t.frame ≡ false = h.walk_unowned a k w t here inside (sym same) at none in cc)
      go (Some o) some = ap (λ n. Some n) (h.walk_own a k o w t here inside (sym same) at some)

  taken_flag : (a k : ℕ) (t : Taken) → slice_get (s.taken a) k ≡ Some t → (p page : ℕ) → v.names p page ≡ Some t.object → s.has_pinned p ≡ true
  taken_flag a k t at p page named =
      let here = h.taken_names a k p page t at named in
      subst (λ q. s.has_pinned q ≡ true) (sym here.0) (h.taken_flag a k t at)

  taken_pinned : (a p : ℕ) (step : WalkStep) (t : Taken) → IsUndisturbed s a p step → Contains (s.taken a) t → s.mark t.frame ≡ true → IsAsPinned s t.frame t.object
  taken_pinned a p step t undisturbed has marked =
      let at = contains_at (s.taken a) t has in
      as_pinned t.frame t.object (taken_own a p at.0 step t undisturbed at.1 marked) (taken_flag a at.0 t at.1)

  -- all that it keeps is marked
  not_kept : (a p k : ℕ) (step : WalkStep) (t : Taken) → IsUndisturbed s a p step → slice_get (s.taken a) k ≡ Some t → s.mark t.frame ≡ false → k + unkept step < length (s.taken a) → ⊥
  not_kept a p k step t (write, long, sequence, walks, inside, same) at unmarked kept =
      let w : Walking = record { proc = p; write = write; long = long; sequence = sequence; step = step } in
      let marked : s.mark t.frame ≡ true = h.walk_kept a k w t (is_walking a p write long sequence step walks) inside (sym same) at kept in
      cc

  -- the last one has the entry that was read, which is read-only where the frame isn't marked
  last_waits : (a p k page : ℕ) (e : Entry) (t : Taken) → IsUndisturbed s a p (rechecked page e) → slice_get (s.taken a) k ≡ Some t → s.mark t.frame ≡ false → k + 1 ≡ length (s.taken a) → (t.frame ≡ e.frame) × (e.writable ≡ false)
  last_waits a p k page e t (write, long, sequence, walks, inside, same) at unmarked last = (frame, go e.writable refl)
    where
      w : Walking
      w = record { proc = p; write = write; long = long; sequence = sequence; step = rechecked page e }

      here : v.walks a ≡ Some w
      here = is_walking a p write long sequence (rechecked page e) walks

      frame : t.frame ≡ e.frame
      frame = h.walk_last a k w t e here refl at last

      go : (b : Bool) → e.writable ≡ b → b ≡ false
      go false is = refl
      go true is = absurd (let marked : s.mark t.frame ≡ true = h.walk_writable a k w t e here refl is (sym same) at last in cc)

  waits : (a p k : ℕ) (step : WalkStep) (t : Taken) → IsUndisturbed s a p step → slice_get (s.taken a) k ≡ Some t → s.mark t.frame ≡ false → AwaitsMark step t.frame × (k + 1 ≡ length (s.taken a))
  waits a p k step t undisturbed at unmarked = go step undisturbed (not_kept a p k step t undisturbed at unmarked)
    where
      within : k < length (s.taken a)
      within = at_within (s.taken a) k t at

      go : (x : WalkStep) → IsUndisturbed s a p x → (k + unkept x < length (s.taken a) → ⊥) → AwaitsMark x t.frame × (k + 1 ≡ length (s.taken a))
      go (rechecked page e) still past =
          let last : k + 1 ≡ length (s.taken a) = omega (arith, within, past) in
          let same = last_waits a p k page e t still at unmarked last in
          ((sym same.0, same.1), last)
      go refused still past = (tt, omega (arith, within, past))
      go entered still past = absurd (past (omega (arith, within)))
      go ready still past = absurd (past (omega (arith, within)))
      go (reading page path) still past = absurd (past (omega (arith, within)))
      go (read page path e) still past = absurd (past (omega (arith, within)))
      go (grabbed page path e) still past = absurd (past (omega (arith, within)))
      go (differed f) still past = absurd (past (omega (arith, within)))
      go stopped still past = absurd (past (omega (arith, within)))
      go dropping still past = absurd (past (omega (arith, within)))
      go over still past = absurd (past (omega (arith, within)))

  -- two of them are compared by what the frames exclusively hold
  pair : (a b p q : ℕ) (step next : WalkStep) (t u : Taken) → IsUndisturbed s a p step → IsUndisturbed s b q next → Contains (s.taken a) t → Contains (s.taken b) u → s.mark t.frame ≡ true → s.mark u.frame ≡ true → (t.frame ≡ u.frame → t.object ≡ u.object) × (t.object ≡ u.object → t.frame ≡ u.frame)
  pair a b p q step next t u still calm has also marked too =
      let at = contains_at (s.taken a) t has in
      let on = contains_at (s.taken b) u also in
      let first : s.own t.frame ≡ Some t.object = taken_own a p at.0 step t still at.1 marked in
      let second : s.own u.frame ≡ Some u.object = taken_own b q on.0 next u calm on.1 too in (
        λ same. let both : Some t.object ≡ Some u.object = sym first ∙ (ap s.own same ∙ second) in let r : t.object ≡ u.object = cc in r,
        λ same. h.own_alone t.frame u.frame t.object first (second ∙ ap (λ n. Some n) (sym same)),
      )

  walked : IsWalked s
  walked =
      record {
        flag = λ a p sequence write long step is.
            h.walk_flag a (record { proc = p; write = write; long = long; sequence = sequence; step = step }) (is_walking a p write long sequence step is);
        grab = λ a f is. grabbed_counted v s h a f (sym (walked_is v s h a) ∙ is);
        marked = taken_pinned;
        unmarked = waits;
        pair = pair;
      }

  -- how many they are
  walkers : CountsWalks s
  walkers p =
      let are = h.walks_number p in
      let same = λ (a : ℕ). process_is (s.job a) ∙ ap walk_process (sym (h.walks_are a)) in
      (are.0, are.1, (λ a. (λ is. (are.2 a).0 (sym (same a) ∙ is), λ has. same a ∙ (are.2 a).1 has)), are.3)

  -- 8. Zones

  normal : AreNormal s
  normal =
      record {
        handle = λ i k f long at. h.handle_normal i k f at long;
        taken = λ a t has long. let at = contains_at (s.taken a) t has in h.taken_normal a at.0 t at.1 long;
      }

  pub published : Holds s
  published = record { counts = counts v s h; exclusive = exclusive; parted = parted; stands = stands; walked = walked; walks = walkers; normal = normal }
