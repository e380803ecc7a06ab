-- What a running fork says of its child: no other fork brings it, and it grows from a born process.
use Rattle.std.proofs.Common.{◌≡◌, ℕ, ◌<◌, false, List, refl, ap, sym, ◌∙◌, arith}
use Rattle.std.specs.Prelude.{Option, Some, None}
use Rattle.std.proofs.lemmas.Bool.Decides.{nat_tests}
use Rattle.gup_base.specs.declared.entry.Rights.{Rights}
use Rattle.gup_plain.specs.Put.{put}
use Rattle.gup_plain.specs.State.{growing, born}
use Rattle.gup_spec_events.specs.State.{CoreState, Job, idle, marking, moving, forking, walking, ForkStep, copying}
use Rattle.gup_law_base.specs.Sound.{View, Forking, forking_of, IsSoundBy, IsUncopiedBy, fork_child, step_page, is_failing, keeps_structure, birth_of_child}

forking_keeps : (job : Job) (k : Forking) → forking_of job ≡ Some k → keeps_structure job ≡ Some k.proc
forking_keeps (forking p c done step) k is = cc
forking_keeps idle k is = absurd (cc)
forking_keeps (marking p page f) k is = absurd (cc)
forking_keeps (moving p page e allowed count) k is = absurd (cc)
forking_keeps (walking p write long sequence step) k is = absurd (cc)

pub birth_goes : (k : Forking) → is_failing k.step ≡ false → birth_of_child k ≡ growing k.proc
birth_goes k goes = grind (arith, nat_tests)

-- the fork that an actor is in, as the views have it
pub fork_here : (v : View) (s : CoreState) (a p c : ℕ) (done : List ℕ) (step : ForkStep) → IsSoundBy v s → s.job a ≡ forking p c done step → v.forks a ≡ Some (record { proc = p; child = c; done = done; step = step })
fork_here v s a p c done step h is = h.forks_are a ∙ ap forking_of is

-- who grows from a process, grows from a born one
pub growing_parent : (v : View) (s : CoreState) (c p : ℕ) → IsSoundBy v s → s.birth c ≡ growing p → s.birth p ≡ born
growing_parent v s c p h grows = by_lock (s.structure p) refl
  where
    by_fork : (a : ℕ) → s.structure p ≡ Some a → (k : Option Forking) → v.forks a ≡ k → s.birth p ≡ born
    by_fork a locked None none = absurd (let child : fork_child (v.forks a) ≡ Some c = h.growing_forked c p a grows locked in cc)
    by_fork a locked (Some k) some =
        let keeps : keeps_structure (s.job a) ≡ Some p = h.structure_held p a locked in
        let also : keeps_structure (s.job a) ≡ Some k.proc = forking_keeps (s.job a) k (sym (h.forks_are a) ∙ some) in
        let lives : s.birth k.proc ≡ born = h.fork_parent a k some in
        cc

    by_lock : (x : Option ℕ) → s.structure p ≡ x → s.birth p ≡ born
    by_lock None free = absurd (h.growing_locked c p grows free)
    by_lock (Some a) locked = by_fork a locked (v.forks a) refl

-- what a fork brings, no other fork brings
pub only_fork : (v : View) (s : CoreState) (a b : ℕ) (k l : Forking) → IsSoundBy v s → v.forks a ≡ Some k → v.forks b ≡ Some l → l.child ≡ k.child → b ≡ a
only_fork v s a b k l h forks also same = h.fork_alone b a l k also forks same

-- no fork copies into a born process
pub born_uncopied : (v : View) (s : CoreState) (p g : ℕ) → IsSoundBy v s → s.birth p ≡ born → IsUncopiedBy v.forks p g
born_uncopied v s p g h lives a word k forks child at =
    let goes : is_failing k.step ≡ false = ap is_failing at in
    let grows : s.birth k.child ≡ growing k.proc = h.fork_birth a k forks ∙ birth_goes k goes in
    cc

-- a fork's step changes: what no fork copies now, none copied before, if this one didn't
pub uncopied_before : (forks : ℕ → Option Forking) (a : ℕ) (x : Option Forking) (c g : ℕ) → IsUncopiedBy (put a x forks) c g → ((word : ℕ) (k : Forking) → forks a ≡ Some k → k.child ≡ c → k.step ≡ copying g word → ⊥) → IsUncopiedBy forks c g
uncopied_before forks a x c g now before b word k is child at = grind (arith, nat_tests, now b word k, before word k)

-- a born process is no child of a fork
pub no_child : (v : View) (s : CoreState) (p b : ℕ) (k : Forking) → IsSoundBy v s → s.birth p ≡ born → v.forks b ≡ Some k → k.child ≡ p → ⊥
no_child v s p b k h is_born forks same = grind (arith, h.fork_birth b k, h.growing_locked)

-- the object of the page that a fork is copying was made
pub copied_made : (v : View) (s : CoreState) (b i n : ℕ) (k : Forking) → IsSoundBy v s → v.forks b ≡ Some k → k.step ≡ copying i n → s.object k.child i < s.made
copied_made v s b i n k h forks at =
    let copies : step_page k.step ≡ Some i = ap step_page at in
    let mapped : s.right k.child i ≡ None → ⊥ = h.fork_mapped b i k forks copies in
    grind (arith, λ (r : Rights). h.right_names k.child i r, h.names_made k.child i (s.object k.child i))
