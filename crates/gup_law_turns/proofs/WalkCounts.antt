-- How many walks run in a process: no more than there are actors, and one where an actor's job is one.
use Rattle.std.proofs.Common.{◌≡◌, ℕ, ◌≤◌, ◌<◌, Bool, List, [], ◌∷◌, length, Contains, Option, Some, None, refl, sym, ap, ◌∙◌, subst, arith}
use Rattle.gup_law_base.proofs.Holders.{no_element}
use Rattle.gup_script.specs.declared.op.Op.{Op}
use Rattle.gup_spec_events.specs.State.{CoreState, Job, idle, walking, WalkStep}
use Rattle.gup_spec_events.specs.Invariant.{CountsWalks, walked_process}
use Rattle.gup_law_base.proofs.Numbers.{few_below}

-- a list that contains something has an element
some_in : (xs : List ℕ) (a : ℕ) → Contains xs a → 0 < length xs
some_in [] a has = absurd (no_element a has)
some_in (x ∷ xs) a has = omega arith

-- no more walks run in a process than there are actors
pub few_walkers : (s : CoreState) (p n : ℕ) → CountsWalks s → ((a : ℕ) → (s.job a ≡ idle → ⊥) → a < n) → s.walks p ≤ n
few_walkers s p n counts below =
    let w = counts p in
    subst (λ (k : ℕ). k ≤ n) w.3 (few_below n w.0 w.1 (λ a here. below a (λ rests. absurd (idles (ap walked_process (sym rests) ∙ (w.2 a).1 here)))))
  where
    idles : walked_process idle ≡ Some p → ⊥
    idles is = cc

-- one runs in it where an actor's job is a walk of it
pub some_walk : (s : CoreState) (a p sequence : ℕ) (write long : Bool) (step : WalkStep) → CountsWalks s → s.job a ≡ walking p write long sequence step → 0 < s.walks p
some_walk s a p sequence write long step counts is =
    let w = counts p in
    subst (λ (k : ℕ). 0 < k) w.3 (some_in w.0 a ((w.2 a).0 (ap walked_process is)))

-- an actor that isn't idle does an operation
pub does_one : (n : ℕ) (op : Option Op) (a : ℕ) (job : Job) → ((o : Op) → op ≡ Some o → a < n) → (op ≡ None → job ≡ idle) → (job ≡ idle → ⊥) → a < n
does_one n None a job few rests busy = absurd (busy (rests refl))
does_one n (Some o) a job few rests busy = few o refl
