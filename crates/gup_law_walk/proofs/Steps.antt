-- A walk's step that takes or drops no page: what is right of the walk after it.
use Rattle.std.proofs.Common.{◌≡◌, ℕ, ◌+◌, ◌<◌, ◌≤◌, Bool, true, false, List, [], length, refl, ap, sym, ◌∙◌, subst}
use Rattle.std.specs.Prelude.{Some, None, slice_get}
use Rattle.gup_base.specs.declared.entry.Entry.{Entry}
use Rattle.gup_plain.specs.Put.{put}
use Rattle.gup_spec_events.specs.State.{CoreState, Taken, Job, idle, walking, WalkStep, entered}
use Rattle.gup_spec_events.specs.Invariant.{is_inside, step_frame}
use Rattle.gup_law_base.specs.Sound.{View, Walking, walking_of, walk_frame, walk_process, is_open, tried_page, tried_entry, rechecked_entry, unkept, AreWalkers, IsSoundBy}
use Rattle.gup_law_base.proofs.Tally.{tally_step}
use Rattle.gup_law_walk.proofs.Switches.{IsLight, ArePages, AreSettled, IsWalk, IsActor, actor_is, switched, switched_view, switches}
use Rattle.gup_law_walk.proofs.Walkers.{walkers_same}

pub idle_light : IsLight idle
idle_light = record { marking = refl; moving = refl; forking = refl; table = refl; structure = refl }

pub walking_light : (p : ℕ) (write long : Bool) (sequence : ℕ) (step : WalkStep) → IsLight (walking p write long sequence step)
walking_light p write long sequence step =
    record { marking = refl; moving = refl; forking = refl; table = refl; structure = refl }

abbrev pub walk_of : (p : ℕ) (write long : Bool) (sequence : ℕ) (step : WalkStep) → Walking
walk_of p write long sequence step =
    record { proc = p; write = write; long = long; sequence = sequence; step = step }

-- nothing is taken
pub none_taken : (ts : List Taken) (k : ℕ) (t : Taken) → ts ≡ [] → slice_get ts k ≡ Some t → ⊥
none_taken ts k t none is =
    let no : None ≡ Some t = sym (ap (λ (us : List Taken). slice_get us k) none) ∙ is in
    absurd (cc)

module _ (v : View) (s : CoreState) (ts : List Taken) (w : Walking) where
  -- the actor is in this walk
  pub in_walk : ArePages v s ts → (is_open (Some w) ≡ false → AreSettled v s ts) → IsWalk v s ts w → IsActor v s ts (Some w)
  in_walk pages settled walk =
      record { pages = pages; settled = settled; walk = λ u is. let same : w ≡ u = cc in subst (IsWalk v s ts) same walk }

  -- the walk is not between its readings of the sequence any more
  pub outside : IsWalk v s ts w → (sequence : ℕ) (step : WalkStep) → (step ≡ entered → ⊥) → is_inside step ≡ false → tried_page step ≡ None → tried_entry step ≡ None → rechecked_entry step ≡ None → IsWalk v s ts (record w { sequence = sequence; step = step })
  outside walk sequence step begun out page entry checked =
      record {
        flag = walk.flag;
        empty = λ k t first is. begun first;
        even = λ inside. absurd (cc);
        below = λ inside. absurd (cc);
        proc = walk.proc;
        write = walk.write;
        long = walk.long;
        untaken = λ k g t tried. absurd (cc);
        writes = λ e tried. absurd (cc);
        normal = λ e tried. absurd (cc);
        own = λ k o t inside. absurd (cc);
        unowned = λ k t inside. absurd (cc);
        kept = λ k t inside. absurd (cc);
        last = λ k t e last. absurd (cc);
        writable = λ k t e last. absurd (cc);
      }

  module _ (walk : IsWalk v s ts w) (was : is_inside w.step ≡ true) (step : WalkStep) (begun : step ≡ entered → ⊥) (checked : rechecked_entry step ≡ None) where
    -- the walk tries no page
    pub rests : tried_page step ≡ None → tried_entry step ≡ None → ((k : ℕ) (t : Taken) → w.sequence ≡ s.sequence w.proc → slice_get ts k ≡ Some t → k + unkept step < length ts → s.mark t.frame ≡ true) → IsWalk v s ts (record w { step = step })
    rests page entry kept =
        record {
          flag = walk.flag;
          empty = λ k t first is. begun first;
          even = λ inside. walk.even was;
          below = λ inside. walk.below was;
          proc = walk.proc;
          write = walk.write;
          long = walk.long;
          untaken = λ k g t tried. absurd (cc);
          writes = λ e tried. absurd (cc);
          normal = λ e tried. absurd (cc);
          own = λ k o t inside. walk.own k o t was;
          unowned = λ k t inside. walk.unowned k t was;
          kept = λ k t inside. kept k t;
          last = λ k t e last. absurd (cc);
          writable = λ k t e last. absurd (cc);
        }

    -- the walk tries this page, whose entry is right for the pin
    pub tries : (page : ℕ) (entry : Entry) → tried_page step ≡ Some page → tried_entry step ≡ Some entry → unkept step ≡ unkept w.step → ((k : ℕ) (t : Taken) → slice_get ts k ≡ Some t → t.page ≡ page → ⊥) → (w.write ≡ true → entry.writable ≡ true) → (w.long ≡ true → s.movable ≤ entry.frame) → IsWalk v s ts (record w { step = step })
    tries page entry at with-entry same untaken writes normal =
        record {
          flag = walk.flag;
          empty = λ k t first is. begun first;
          even = λ inside. walk.even was;
          below = λ inside. walk.below was;
          proc = walk.proc;
          write = walk.write;
          long = walk.long;
          untaken = λ k g t tried is equal. untaken k t is (let page-is : page ≡ g = cc in equal ∙ sym page-is);
          writes = λ e tried needs. let entry-is : entry ≡ e = cc in ap (λ (d : Entry). d.writable) (sym entry-is) ∙ writes needs;
          normal = λ e tried needs. let entry-is : entry ≡ e = cc in subst (λ (d : Entry). s.movable ≤ d.frame) entry-is (normal needs);
          own = λ k o t inside. walk.own k o t was;
          unowned = λ k t inside. walk.unowned k t was;
          kept = λ k t inside now is within. walk.kept k t was now is (subst (λ n. k + n < length ts) same within);
          last = λ k t e last. absurd (cc);
          writable = λ k t e last. absurd (cc);
        }

module _ (v : View) (s : CoreState) (h : IsSoundBy v s) (a : ℕ) where
  -- the actor's job changes, and nothing else but the number of walks: the walk has grabbed what it had grabbed
  pub changes_job : (job : Job) (walks : ℕ → ℕ) → IsLight (s.job a) → IsLight job → walk_frame (v.walks a) ≡ walk_frame (walking_of job) → ((q : ℕ) → AreWalkers (put a (walking_of job) v.walks) q (walks q)) → IsActor v s (s.taken a) (walking_of job) → IsSoundBy (switched_view v s h a job walks s.count v.references v.grabs s.taken) (switched v s h a job walks s.count v.references v.grabs s.taken)
  changes_job job walks was is same number new =
      switches v s h a job walks s.count v.references v.grabs s.taken was is (λ b apart. refl) h.references (tally_step v.grabs v.walks a (walking_of job) same h.grabs) h.count_is h.prepared_once h.moving_once number new

  module _ (p : ℕ) (write long : Bool) (sequence : ℕ) (step : WalkStep) (in-walk : s.job a ≡ walking p write long sequence step) where
    -- the actor's walk in the view
    pub walk_seen : v.walks a ≡ Some (walk_of p write long sequence step)
    walk_seen = h.walks_are a ∙ ap walking_of in-walk

    pub walk_known : IsWalk v s (s.taken a) (walk_of p write long sequence step)
    walk_known = (actor_is v s h a).walk (walk_of p write long sequence step) walk_seen

    pub walk_light : IsLight (s.job a)
    walk_light = subst IsLight (sym in-walk) (walking_light p write long sequence step)

    -- it stays a walk of its process
    pub number_stays : (read : ℕ) (to : WalkStep) (q : ℕ) → AreWalkers (put a (Some (walk_of p write long read to)) v.walks) q (s.walks q)
    number_stays read to =
        walkers_same v.walks a (Some (walk_of p write long read to)) (ap walk_process walk_seen) s.walks h.walks_number

    -- its next step, which grabs and drops nothing
    pub next_step : (read : ℕ) (to : WalkStep) → step_frame step ≡ step_frame to → (is_open (Some (walk_of p write long read to)) ≡ false → AreSettled v s (s.taken a)) → IsWalk v s (s.taken a) (walk_of p write long read to) → IsSoundBy (switched_view v s h a (walking p write long read to) s.walks s.count v.references v.grabs s.taken) (switched v s h a (walking p write long read to) s.walks s.count v.references v.grabs s.taken)
    next_step read to same settled walk =
        changes_job (walking p write long read to) s.walks walk_light (walking_light p write long read to) (ap walk_frame walk_seen ∙ same) (number_stays read to) (in_walk v s (s.taken a) (walk_of p write long read to) (actor_is v s h a).pages settled walk)
