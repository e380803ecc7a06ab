-- A walk reads the sequence again: where it has changed, what was taken is dropped; where it hasn't, it is settled.
use Rattle.std.proofs.Common.{◌≡◌, ℕ, ◌==◌, Bool, true, false, List, [], ◌∷◌, refl, ap, sym, ◌∙◌, arith}
use Rattle.std.specs.Prelude.{Option, Some, None, slice_get, if◌then◌else◌, not}
use Rattle.std.proofs.lemmas.Bool.Decides.{nat_tests}
use Rattle.gup_base.specs.declared.entry.Entry.{Entry}
use Rattle.gup_plain.specs.Put.{put}
use Rattle.gup_spec_events.specs.State.{CoreState, Taken, walking, ForkStep, between, counted, lowered, cleared, copying, failing, WalkStep, entered, ready, reading, read, grabbed, rechecked, differed, refused, stopped, dropping, over}
use Rattle.gup_spec_events.specs.Event.{Can, MayRest, is_odd, step_left, read_again}
use Rattle.gup_spec_events.specs.Invariant.{is_inside, step_frame}
use Rattle.gup_law_base.specs.Sound.{View, Forking, Walking, shared_page, is_failing, unkept, IsSoundBy, IsSound, Simulates}
use Rattle.gup_law_base.proofs.Rows.{at_within}
use Rattle.gup_law_base.proofs.Steps.{even_apart}
use Rattle.gup_law_walk.proofs.Switches.{AreSettled, IsWalk}
use Rattle.gup_law_walk.proofs.Steps.{walk_of, none_taken, outside, walk_known, next_step}

-- a fork that shares a page isn't failing
shared_unfailing : (step : ForkStep) (g : ℕ) → shared_page step ≡ Some g → is_failing step ≡ false
shared_unfailing between g is = refl
shared_unfailing (counted page) g is = refl
shared_unfailing (lowered page) g is = refl
shared_unfailing (cleared page) g is = refl
shared_unfailing (copying page n) g is = refl
shared_unfailing failing g is = absurd (cc)

-- a walk that may read the sequence again is between its readings, keeps all that it has taken, and has grabbed nothing
rests_inside : (step : WalkStep) → MayRest step → (is_inside step ≡ true) × (unkept step ≡ 0) × (step_frame step ≡ None)
rests_inside ready may = (refl, refl, refl)
rests_inside stopped may = (refl, refl, refl)
rests_inside entered may = absurd may
rests_inside (reading page path) may = absurd may
rests_inside (read page path e) may = absurd may
rests_inside (grabbed page path e) may = absurd may
rests_inside (rechecked page e) may = absurd may
rests_inside (differed f) may = absurd may
rests_inside refused may = absurd may
rests_inside dropping may = absurd may
rests_inside over may = absurd may

-- where no fork has begun meanwhile, all that was taken is marked, and exclusively of its object
module _ (v : View) (s : CoreState) (h : IsSoundBy v s) (a : ℕ) (w : Walking) (walk : IsWalk v s (s.taken a) w) (inside : is_inside w.step ≡ true) (all : unkept w.step ≡ 0) (same : w.sequence ≡ s.sequence w.proc) where
  taken_marked : (k : ℕ) (t : Taken) → slice_get (s.taken a) k ≡ Some t → s.mark t.frame ≡ true
  taken_marked k t is = walk.kept k t inside same is (omega (arith, all, at_within (s.taken a) k t is))

  taken_owned : (k : ℕ) (t : Taken) → slice_get (s.taken a) k ≡ Some t → s.own t.frame ≡ Some t.object
  taken_owned k t is = go (s.own t.frame) refl
    where
      go : (o : Option ℕ) → s.own t.frame ≡ o → o ≡ Some t.object
      go None none = absurd (let lost = walk.unowned k t inside same is none in let marked = taken_marked k t is in cc)
      go (Some o) some = ap (λ x. Some x) (walk.own k o t inside same is some)

  -- a fork that shares the page is one of the walk's process, which has begun
  taken_unshared : (b g j : ℕ) (fork : Forking) (e : Entry) (t : Taken) → v.forks b ≡ Some fork → shared_page fork.step ≡ Some g → v.whole fork.proc g ≡ Some e → slice_get (s.taken a) j ≡ Some t → t.frame ≡ e.frame → ⊥
  taken_unshared b g j fork e t forks shared there is frame =
      let owned : s.own e.frame ≡ Some t.object = ap s.own (sym frame) ∙ taken_owned j t is in
      let named : v.names fork.proc g ≡ Some t.object = h.own_names fork.proc g t.object e there owned in
      let proc : fork.proc ≡ w.proc = (h.taken_names a j fork.proc g t is named).0 ∙ walk.proc j t is in
      let odd : is_odd (s.sequence fork.proc) ≡ true = h.fork_odd b fork forks ∙ ap not (shared_unfailing fork.step g shared) in
      even_apart w.sequence (s.sequence fork.proc) (walk.even inside) odd (same ∙ ap s.sequence (sym proc))

  settled_by : AreSettled v s (s.taken a)
  settled_by = record { marked = taken_marked; own = taken_owned; share = taken_unshared }

-- what was taken is settled, or is to be dropped
pub simulates-read_again : (s : CoreState) (a p : ℕ) (write long : Bool) (sequence : ℕ) (step : WalkStep) (now : ℕ) → IsSound s → Can s (read_again a p write long sequence step now) → Simulates s (read_again a p write long sequence step now)
simulates-read_again s a p write long sequence step now (v, h) c =
    record { sound = by_sequence (now == sequence) refl; can = tt; same = refl }
  where
    was : IsWalk v s (s.taken a) (walk_of p write long sequence step)
    was = walk_known v s h a p write long sequence step c.0

    nothing_settled : s.taken a ≡ [] → AreSettled v s (s.taken a)
    nothing_settled none =
        record {
          marked = λ k t is. absurd (none_taken (s.taken a) k t none is);
          own = λ k t is. absurd (none_taken (s.taken a) k t none is);
          share = λ b g j fork e t forks shared there is. absurd (none_taken (s.taken a) j t none is);
        }

    ends : AreSettled v s (s.taken a) → IsSound (record s { job = put a (walking p write long sequence over) s.job })
    ends settled =
        (_, next_step v s h a p write long sequence step c.0 sequence over (rests_inside step c.1).2 (λ closed. settled) (outside v s (s.taken a) (walk_of p write long sequence step) was sequence over (λ e. absurd (cc)) refl refl refl refl))

    drops : IsSound (record s { job = put a (walking p write long sequence dropping) s.job })
    drops =
        (_, next_step v s h a p write long sequence step c.0 sequence dropping (rests_inside step c.1).2 (λ closed. absurd (cc)) (outside v s (s.taken a) (walk_of p write long sequence step) was sequence dropping (λ e. absurd (cc)) refl refl refl refl))

    by_taken : (ts : List Taken) → s.taken a ≡ ts → IsSound (record s { job = put a (walking p write long sequence (step_left ts)) s.job })
    by_taken [] none = ends (nothing_settled none)
    by_taken (t ∷ ts) some = drops

    by_sequence : (same : Bool) → (now == sequence) ≡ same → IsSound (record s { job = put a (walking p write long sequence (if same then over else step_left (s.taken a))) s.job })
    by_sequence true is = ends (settled_by v s h a (walk_of p write long sequence step) was (rests_inside step c.1).0 (rests_inside step c.1).1 (let equal : now ≡ sequence = grind (arith, nat_tests) in sym equal ∙ c.2))
    by_sequence false is = by_taken (s.taken a) refl
