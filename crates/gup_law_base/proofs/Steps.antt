-- What the readings of a fork's step and of an actor's job have to do with one another, and which numbers are odd.
use Rattle.std.proofs.Common.{◌≡◌, ℕ, ◌+◌, true, false, List, zero, suc, arith}
use Rattle.std.specs.Prelude.{Some, not}
use Rattle.std.proofs.lemmas.Bool.Decides.{nat_tests}
use Rattle.gup_spec_events.specs.State.{Job, idle, marking, moving, forking, walking, ForkStep, between, counted, lowered, cleared, copying, failing}
use Rattle.gup_spec_events.specs.Event.{MayPrepare, is_odd}
use Rattle.gup_law_base.specs.Sound.{Forking, forking_of, step_page, shared_page, lowered_page}

pub shared_is_step : (step : ForkStep) (g : ℕ) → shared_page step ≡ Some g → step_page step ≡ Some g
shared_is_step between g is = is
shared_is_step (counted page) g is = is
shared_is_step (lowered page) g is = is
shared_is_step (cleared page) g is = is
shared_is_step (copying page n) g is = absurd (cc)
shared_is_step failing g is = is

pub lowered_is_shared : (step : ForkStep) (g : ℕ) → lowered_page step ≡ Some g → shared_page step ≡ Some g
lowered_is_shared between g is = is
lowered_is_shared (counted page) g is = absurd (cc)
lowered_is_shared (lowered page) g is = is
lowered_is_shared (cleared page) g is = is
lowered_is_shared (copying page n) g is = is
lowered_is_shared failing g is = is

-- a fork takes a frame only before it has copied a word
prepares_at : (step : ForkStep) (p c : ℕ) (done : List ℕ) (g n : ℕ) → MayPrepare (forking p c done step) → step ≡ copying g n → n ≡ 0
prepares_at (copying page zero) p c done g n may is = cc
prepares_at (copying page (suc m)) p c done g n may is = absurd may
prepares_at between p c done g n may is = absurd may
prepares_at (counted page) p c done g n may is = absurd may
prepares_at (lowered page) p c done g n may is = absurd may
prepares_at (cleared page) p c done g n may is = absurd may
prepares_at failing p c done g n may is = absurd may

pub prepares_before : (job : Job) (k : Forking) (g n : ℕ) → MayPrepare job → forking_of job ≡ Some k → k.step ≡ copying g n → n ≡ 0
prepares_before (forking p c done step) k g n may is at = prepares_at step p c done g n may (cc)
prepares_before idle k g n may is at = absurd (cc)
prepares_before (marking p page f) k g n may is at = absurd (cc)
prepares_before (moving p page e allowed count) k g n may is at = absurd (cc)
prepares_before (walking p write long sequence step) k g n may is at = absurd (cc)

-- a fork that begins, ends or fails makes an even sequence odd, and an odd one even
pub odd_next : (n : ℕ) → is_odd (n + 1) ≡ not (is_odd n)
odd_next n = grind (arith, nat_tests)

-- an even sequence isn't an odd one
pub even_apart : (m n : ℕ) → is_odd m ≡ false → is_odd n ≡ true → m ≡ n → ⊥
even_apart m n even odd same = cc
