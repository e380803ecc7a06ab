-- A walk begins, reads the sequence of its process, and ends.
use Rattle.std.proofs.Common.{◌≡◌, ℕ, ◌+◌, ◌-◌, Bool, true, false, [], refl, ap, sym, ◌∙◌, subst, arith}
use Rattle.std.specs.Prelude.{Some, None, slice_get, if◌then◌else◌}
use Rattle.gup_plain.specs.Put.{put}
use Rattle.gup_spec_events.specs.State.{CoreState, Taken, Job, idle, walking, entered, ready, over}
use Rattle.gup_spec_events.specs.Event.{Can, happens, is_odd, enter_walk, read_sequence, leave_walk}
use Rattle.gup_law_base.specs.Sound.{View, Walking, walking_of, walk_frame, walk_process, is_open, IsSoundBy, IsSound, Simulates}
use Rattle.gup_law_walk.proofs.Switches.{IsLight, AreSettled, IsWalk, actor_is, switched, switched_view}
use Rattle.gup_law_walk.proofs.Steps.{idle_light, walking_light, walk_of, none_taken, in_walk, outside, changes_job, walk_seen, walk_known, walk_light, next_step}
use Rattle.gup_law_walk.proofs.Walkers.{walkers_more, walkers_less}

-- nothing is taken yet, and the process has pinned
pub simulates-enter_walk : (s : CoreState) (a p : ℕ) (write long : Bool) → IsSound s → Can s (enter_walk a p write long) → Simulates s (enter_walk a p write long)
simulates-enter_walk s a p write long (v, h) c =
    let S : CoreState = happens s (enter_walk a p write long) in
    let job : Job = walking p write long 0 entered in
    let w : Walking = walk_of p write long 0 entered in
    let idles : s.job a ≡ idle = c.1.0 in
    let none : s.taken a ≡ [] = c.2 in
    let nothing = λ (k : ℕ) (t : Taken) (is : slice_get (s.taken a) k ≡ Some t). none_taken (s.taken a) k t none is in
    let was : IsLight (s.job a) = subst IsLight (sym idles) idle_light in
    let unseen : walk_frame (v.walks a) ≡ None = ap walk_frame (h.walks_are a ∙ ap walking_of idles) in
    let walk : IsWalk v s (s.taken a) w =
    record {
      flag = c.3;
      empty = λ k t first is. nothing k t is;
      even = λ inside. absurd (cc);
      below = λ inside. absurd (cc);
      proc = λ k t is. absurd (nothing k t is);
      write = λ k t is. absurd (nothing k t is);
      long = λ k t is. absurd (nothing k t is);
      untaken = λ k g t tried. absurd (cc);
      writes = λ e tried. absurd (cc);
      normal = λ e tried. absurd (cc);
      own = λ k o t inside. absurd (cc);
      unowned = λ k t inside. absurd (cc);
      kept = λ k t inside. absurd (cc);
      last = λ k t e last. absurd (cc);
      writable = λ k t e last. absurd (cc);
    } in
    let V : View = switched_view v s h a job (put p (s.walks p + 1) s.walks) s.count v.references v.grabs s.taken in
    let g : IsSoundBy V (switched v s h a job (put p (s.walks p + 1) s.walks) s.count v.references v.grabs s.taken) = changes_job v s h a job (put p (s.walks p + 1) s.walks) was (walking_light p write long 0 entered) unseen (walkers_more v.walks a (Some w) p s.walks (ap walk_process (h.walks_are a ∙ ap walking_of idles)) refl h.walks_number) (in_walk v s (s.taken a) w (actor_is v s h a).pages (λ closed. absurd (cc)) walk) in
    let sound : IsSoundBy V S = assumption in
    record { sound = (V, sound); can = tt; same = refl }

-- where the sequence is odd, a fork runs, and the walk is over
pub simulates-read_sequence : (s : CoreState) (a p : ℕ) (write long : Bool) (sequence : ℕ) → IsSound s → Can s (read_sequence a p write long sequence) → Simulates s (read_sequence a p write long sequence)
simulates-read_sequence s a p write long sequence (v, h) c =
    record { sound = go (is_odd sequence) refl; can = tt; same = refl }
  where
    nothing : (k : ℕ) (t : Taken) → slice_get (s.taken a) k ≡ Some t → ⊥
    nothing k t is = (walk_known v s h a p write long 0 entered c.0).empty k t refl is

    settled : AreSettled v s (s.taken a)
    settled =
        record {
          marked = λ k t is. absurd (nothing k t is);
          own = λ k t is. absurd (nothing k t is);
          share = λ b g j fork e t forks shared there is. absurd (nothing j t is);
        }

    walk : is_odd sequence ≡ false → IsWalk v s (s.taken a) (walk_of p write long sequence ready)
    walk even =
        record {
          flag = (walk_known v s h a p write long 0 entered c.0).flag;
          empty = λ k t first is. nothing k t is;
          even = λ inside. even;
          below = λ inside. omega (arith, c.1);
          proc = λ k t is. absurd (nothing k t is);
          write = λ k t is. absurd (nothing k t is);
          long = λ k t is. absurd (nothing k t is);
          untaken = λ k g t tried. absurd (cc);
          writes = λ e tried. absurd (cc);
          normal = λ e tried. absurd (cc);
          own = λ k o t inside now is. absurd (nothing k t is);
          unowned = λ k t inside now is. absurd (nothing k t is);
          kept = λ k t inside now is. absurd (nothing k t is);
          last = λ k t e last. absurd (cc);
          writable = λ k t e last. absurd (cc);
        }

    go : (odd : Bool) → is_odd sequence ≡ odd → IsSound (record s { job = put a (walking p write long sequence (if odd then over else ready)) s.job })
    go true odd = (_, next_step v s h a p write long 0 entered c.0 sequence over refl (λ closed. settled) (outside v s (s.taken a) (walk_of p write long 0 entered) (walk_known v s h a p write long 0 entered c.0) sequence over (λ e. absurd (cc)) refl refl refl refl))
    go false even = (_, next_step v s h a p write long 0 entered c.0 sequence ready refl (λ closed. absurd (cc)) (walk even))

-- what it has taken is settled
pub simulates-leave_walk : (s : CoreState) (a p : ℕ) (write long : Bool) (sequence : ℕ) → IsSound s → Can s (leave_walk a p write long sequence) → Simulates s (leave_walk a p write long sequence)
simulates-leave_walk s a p write long sequence (v, h) c =
    let S : CoreState = happens s (leave_walk a p write long sequence) in
    let seen : v.walks a ≡ Some (walk_of p write long sequence over) = walk_seen v s h a p write long sequence over c in
    let V : View = switched_view v s h a idle (put p (s.walks p - 1) s.walks) s.count v.references v.grabs s.taken in
    let g : IsSoundBy V (switched v s h a idle (put p (s.walks p - 1) s.walks) s.count v.references v.grabs s.taken) = changes_job v s h a idle (put p (s.walks p - 1) s.walks) (walk_light v s h a p write long sequence over c) idle_light (ap walk_frame seen) (walkers_less v.walks a None p s.walks (ap walk_process seen) refl h.walks_number) (record { pages = (actor_is v s h a).pages; settled = λ closed. (actor_is v s h a).settled (ap is_open seen); walk = λ w is. absurd (cc) }) in
    let sound : IsSoundBy V S = assumption in
    record { sound = (V, sound); can = tt; same = refl }
