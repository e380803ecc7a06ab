-- What an actor waits for is what the state says.
use Rattle.std.proofs.Common.{◌≡◌, ℕ, ◌+◌, ◌-◌, ◌==◌, Bool, true, false, not, cond, Option, Some, None, is_some, is_none, List, zero, suc, refl, sym, ap, ◌∙◌, eqb-true}
use Rattle.gup_base.specs.declared.entry.Want.{Want}
use Rattle.gup_base.specs.declared.entry.Zone.{Zone}
use Rattle.gup_plain.specs.Event.{page_numbers}
use Rattle.gup_plain.specs.Put.{lowest}
use Rattle.gup_plain.specs.State.{Birth, Handle, unborn, growing, born, failed}
use Rattle.gup_plain.specs.declared.note.Waiting.{Waiting}
use Rattle.gup_plain.specs.declared.note.Waiting.TheVariants as waitings
use Rattle.gup_script.specs.declared.op.Op.{Op}
use Rattle.gup_script.specs.declared.op.Op.TheVariants.{Load, Store, Pin, Take, Move, Fork}
use Rattle.gup_space.specs.Space.{SpaceValue}
use Rattle.gup_space.specs.Shows.{ShowsSpace}
use Rattle.gup_spec_events.specs.State.{CoreState, Job, idle, moving, forking, between, counted, copying, walking}
use Rattle.gup_spec_turns.specs.Waits.{both_if, fork_locks, move_locks, pin_locks, locks_needed, held_by_other, first_waiting, waits_for_locks, waits_born, waiting_for}
use Rattle.gup_spec_turns.proofs.TurnParts.{waits_at}
use Rattle.gup_spec_turns.specs.ForkTurns.{first_behind}
use Rattle.gup_spec_turns.specs.CoreTurn.{allows_store}
use Rattle.gup_spec_turns.specs.JobPlace.{JobPlace, job_place, place_in, StandsFork, StandsMove}
use Rattle.gup_handles.specs.Handles.{HandleValue, IsGivenTo as IsKeptFor}
use Rattle.gup_handles.specs.Handles as kept
use Rattle.gup_spec_journal.specs.Order.{is_given_to, taking_waits, handle_waits}
use Rattle.gup_spec_journal.specs.Place.{Doer, birth_by}
use Rattle.gup_handles.specs.Shows.{IsShown}
use Rattle.gup_op_base.specs.Far.{far_in}
use Rattle.gup_op_base.specs.Tidy.{needs_table}
use Rattle.gup_op_waits.specs.Locks.{fork_needs, move_needs, pin_needs, child_in}
use Rattle.gup_op_waits.specs.Stands.{StandsAt}

-- ---- which operations are forks

-- no pin, no fork and no move
abbrev pub IsSingle : Op → Type 0
IsSingle (Pin handle page n want fast) = ⊥
IsSingle (Move q page zone) = ⊥
IsSingle (Fork child) = ⊥
IsSingle op = Unit {0}

pub single : (op : Op) → child_in op ≡ None → ((q page : ℕ) (zone : Zone) → op ≡ Move q page zone → ⊥) → ((handle page n : ℕ) (want : Want) (fast : Bool) → op ≡ Pin handle page n want fast → ⊥) → IsSingle op
single (Pin handle page n want fast) none moved pinned = pinned handle page n want fast refl
single (Move q page zone) none moved pinned = moved q page zone refl
single (Fork child) none moved pinned = absurd (cc)
single op none moved pinned = tt

pub forks_into : (op : Op) (child : ℕ) → child_in op ≡ Some child → op ≡ Fork child
forks_into (Fork c) child is = cc
forks_into op child is = absurd (cc)

-- ---- the locks that are needed

lowest_same : (first n : ℕ) (test other : ℕ → Bool) → ((k : ℕ) → test k ≡ other k) → lowest first n test ≡ lowest first n other
lowest_same first zero test other same = refl
lowest_same first (suc n) test other same =
    ap (λ b. cond b (Some first) (lowest (first + 1) n test)) (same first)
    ∙ ap (λ rest. cond (other first) (Some first) rest) (lowest_same (first + 1) n test other same)

pub single_needs : (S : SpaceValue) (s : CoreState) (a p far : ℕ) (op : Op) → ShowsSpace p S s → IsSingle op → both_if (needs_table S op) ≡ locks_needed s a p far op
single_needs S s a p far (Load page word) space none = ap (λ o. both_if (is_none o)) (sym (space.entry page))
single_needs S s a p far (Store page word value) space none = ap (λ o. both_if (not (allows_store o))) (sym (space.entry page))
single_needs S s a p far (Pin handle page n want fast) space none = absurd none
single_needs S s a p far (Move q page zone) space none = absurd none
single_needs S s a p far (Fork child) space none = absurd none
single_needs S s a p far op space none = refl

pub fork_needs_by : (S : SpaceValue) (s : CoreState) (a p child : ℕ) (place : JobPlace) → ShowsSpace child S s → place ≡ place_in s a → StandsFork s a p child (s.job a) (s.prepared a)
    → fork_needs S.right place ≡ fork_locks (s.right child) (s.job a)
fork_needs_by S s a p child place space is stands = ap (λ k. fork_needs S.right k) is ∙ go (s.job a) (s.prepared a) stands
  where
    found : (from : ℕ) → is_some (lowest from (page_numbers - from) (λ g. is_some (S.right g))) ≡ is_some (lowest from (page_numbers - from) (λ g. is_some (s.right child g)))
    found from = ap is_some (lowest_same from (page_numbers - from) (λ g. is_some (S.right g)) (λ g. is_some (s.right child g)) (λ g. ap is_some (sym (space.right g))))

    go : (job : Job) (prepared : Option ℕ) → StandsFork s a p child job prepared → fork_needs S.right (job_place job prepared) ≡ fork_locks (s.right child) job
    go idle prepared h = refl
    go (forking q c done between) prepared h = ap (λ (b : Bool). record { structure = false; table = b }) (found (first_behind done))
    go (forking q c done (counted page)) prepared h = refl
    go (forking q c done (copying page word)) None h = refl
    go (forking q c done (copying page word)) (Some to) h = refl
    go (forking q c done step) prepared h = absurd h
    go job prepared h = absurd h

-- ---- who doesn't wait

-- its process is born
pub born_and_free : (b : Birth) (p : ℕ) (locks : Option Waiting) → (b ≡ failed → ⊥) → waits_at b p locks ≡ None → (b ≡ born) × (locks ≡ None)
born_and_free unborn p locks unfailed none = absurd (cc)
born_and_free (growing parent) p locks unfailed none = absurd (cc)
born_and_free failed p locks unfailed none = absurd (unfailed refl)
born_and_free born p locks unfailed none = (refl, none)

-- and nobody holds a lock that it needs, where it holds none itself
unheld : (a : ℕ) (holder : Option ℕ) → (holder ≡ Some a → ⊥) → held_by_other a holder ≡ None → holder ≡ None
unheld a None other none = refl
unheld a (Some b) other none = go (a == b) refl none
  where
    go : (same : Bool) → (a == b) ≡ same → cond same None (Some (waitings.Holder b)) ≡ None → Some b ≡ None
    go true is n = absurd (other (ap (λ k. Some k) (sym (eqb-true a b is))))
    go false is n = absurd (cc)

second_free : (first second : Option Waiting) → first_waiting first second ≡ None → second ≡ None
second_free None second none = none
second_free (Some waiting) second none = absurd (cc)

-- whoever waits for nothing waits for no lock, and for no pin
pub locks_free : (s : CoreState) (a p far : ℕ) (op : Op) → waits_born s a p far op ≡ None → waits_for_locks (locks_needed s a p far op) a (s.structure p) (s.table p) ≡ None
locks_free s a p far op none = second_free (handle_waits s.handle a (Some op)) (waits_for_locks (locks_needed s a p far op) a (s.structure p) (s.table p)) none

pub given_free : (s : CoreState) (a p far h : ℕ) (op : Op) → op ≡ Take h → waits_born s a p far op ≡ None → is_given_to (s.handle h) a ≡ true
given_free s a p far h op is none = go (is_given_to (s.handle h) a) (ap (λ (x : Op). waits_born s a p far x) (sym is) ∙ none)
  where
    go : (given_so : Bool) → first_waiting (taking_waits given_so h) (waits_for_locks (locks_needed s a p far (Take h)) a (s.structure p) (s.table p)) ≡ None → given_so ≡ true
    go true free = refl
    go false free = absurd (cc free)

pub table_free : (needed : Bool) (a : ℕ) (structure table : Option ℕ) → (table ≡ Some a → ⊥) → waits_for_locks (both_if needed) a structure table ≡ None → needed ≡ true → table ≡ None
table_free true a structure table other none is = unheld a table other (second_free (held_by_other a structure) (held_by_other a table) none)
table_free false a structure table other none is = absurd (cc)

pub forked_needs : (S : SpaceValue) (s : CoreState) (a p child far : ℕ) (place : JobPlace) (op : Op) → op ≡ Fork child → ShowsSpace child S s → place ≡ place_in s a → StandsAt s a p far op
    → fork_needs S.right place ≡ locks_needed s a p far op
forked_needs S s a p child far place op same space is at =
    fork_needs_by S s a p child place space is (at.fork child same) ∙ ap (λ (x : Op). locks_needed s a p far x) (sym same)

-- a move's, by where it stands
pub moved_needs : (s : CoreState) (a p far q page : ℕ) (zone : Zone) (place : JobPlace) (op : Op) → op ≡ Move q page zone → place ≡ place_in s a → StandsAt s a p far op → move_needs place ≡ locks_needed s a p far op
moved_needs s a p far q page zone place op same is at =
    ap move_needs is ∙ go (s.job a) (s.prepared a) (at.move q page zone same) ∙ ap (λ (x : Op). locks_needed s a p far x) (sym same)
  where
    go : (job : Job) (prepared : Option ℕ) → StandsMove s a p page zone job → move_needs (job_place job prepared) ≡ move_locks job
    go idle prepared h = refl
    go (moving r g e allowed count) prepared h = refl
    go job prepared h = absurd h

-- and a pin's, by whether it walks, how many of its turns are over, and where it stands
pin_needs_by : (fast : Bool) (far : ℕ) (job : Job) (prepared : Option ℕ) → pin_needs fast far (job_place job prepared) ≡ pin_locks fast far job
pin_needs_by fast far (walking p write long sequence step) prepared = refl
pin_needs_by fast far (forking p c done (copying page word)) None = refl
pin_needs_by fast far (forking p c done (copying page word)) (Some to) = refl
pin_needs_by fast far (forking p c done between) prepared = refl
pin_needs_by fast far (forking p c done (counted page)) prepared = refl
pin_needs_by fast far (forking p c done step) prepared = refl
pin_needs_by fast far (moving p page e allowed count) prepared = refl
pin_needs_by fast far job prepared = refl

pub pinned_needs : (s : CoreState) (a p far gone handle page n : ℕ) (want : Want) (fast : Bool) (place : JobPlace) (op : Op) → op ≡ Pin handle page n want fast → gone ≡ far_in (Some op) far → place ≡ place_in s a → pin_needs fast gone place ≡ locks_needed s a p far op
pinned_needs s a p far gone handle page n want fast place op same fits is =
    ap (λ (k : ℕ). pin_needs fast k place) (fits ∙ ap (λ (x : Op). far_in (Some x) far) same)
    ∙ ap (pin_needs fast far) is
    ∙ pin_needs_by fast far (s.job a) (s.prepared a)
    ∙ ap (λ (x : Op). locks_needed s a p far x) (sym same)

-- ---- a process that isn't born

abbrev pub at_birth : CoreState → Doer → (far : ℕ) → Op → Birth → Option Waiting
at_birth s who far op birth = waits_at birth who.proc (waits_born s who.actor who.proc far op)

-- the birth that a thread waits for
pub thread_waits : (s : CoreState) (who : Doer) (far : ℕ) (op : Op) (p : ℕ) (b : Birth) → who.of_process ≡ true → who.proc ≡ p → s.birth p ≡ b → waiting_for s who far op ≡ at_birth s who far op b
thread_waits s who far op p b thread own is =
    ap (λ (t : Bool). at_birth s who far op (birth_by t (s.birth who.proc))) thread
    ∙ ap (λ (q : ℕ). at_birth s who far op (s.birth q)) own
    ∙ ap (λ (x : Birth). at_birth s who far op x) is

pub unborn_waits : (s : CoreState) (who : Doer) (far : ℕ) (op : Op) (p : ℕ) → who.of_process ≡ true → who.proc ≡ p → s.birth p ≡ unborn → Some (waitings.Process p) ≡ waiting_for s who far op
unborn_waits s who far op p thread own is = ap (λ (q : ℕ). Some (waitings.Process q)) (sym own) ∙ sym (thread_waits s who far op p unborn thread own is)

pub growing_waits : (s : CoreState) (who : Doer) (far : ℕ) (op : Op) (p parent : ℕ) → who.of_process ≡ true → who.proc ≡ p → s.birth p ≡ growing parent → Some (waitings.Process p) ≡ waiting_for s who far op
growing_waits s who far op p parent thread own is = ap (λ (q : ℕ). Some (waitings.Process q)) (sym own) ∙ sym (thread_waits s who far op p (growing parent) thread own is)

pub born_waits : (s : CoreState) (who : Doer) (far : ℕ) (op : Op) (p : ℕ) → who.of_process ≡ true → who.proc ≡ p → s.birth p ≡ born → waits_born s who.actor who.proc far op ≡ waiting_for s who far op
born_waits s who far op p thread own is = sym (thread_waits s who far op p born thread own is)

-- a thread of a failed process waits for nothing
pub failed_waits : (s : CoreState) (who : Doer) (far : ℕ) (op : Op) (p : ℕ) → who.of_process ≡ true → who.proc ≡ p → s.birth p ≡ failed → None ≡ waiting_for s who far op
failed_waits s who far op p thread own is = sym (thread_waits s who far op p failed thread own is)

-- whoever is no thread waits for none
pub other_waits : (s : CoreState) (who : Doer) (far : ℕ) (op : Op) → who.of_process ≡ false → waits_born s who.actor who.proc far op ≡ waiting_for s who far op
other_waits s who far op other = sym (ap (λ (t : Bool). at_birth s who far op (birth_by t (s.birth who.proc))) other)

-- ---- pins that are given, and locks

none_behind : (waiting : Option Waiting) → first_waiting waiting None ≡ waiting
none_behind None = refl
none_behind (Some waiting) = refl

-- a take waits for its pin alone
pub take_waits : (s : CoreState) (a p far h : ℕ) (op : Op) → op ≡ Take h → taking_waits (is_given_to (s.handle h) a) h ≡ waits_born s a p far op
take_waits s a p far h op is = sym (ap (λ (x : Op). waits_born s a p far x) is ∙ none_behind (taking_waits (is_given_to (s.handle h) a) h))

-- and no other operation for one
no_pin : (handle : ℕ → Handle) (a : ℕ) (op : Op) → ((h : ℕ) → op ≡ Take h → ⊥) → None ≡ handle_waits handle a (Some op)
no_pin handle a (Take h) other = absurd (other h refl)
no_pin handle a op other = refl

pub lock_waits : (s : CoreState) (a p far : ℕ) (op : Op) → ((h : ℕ) → op ≡ Take h → ⊥) → waits_for_locks (locks_needed s a p far op) a (s.structure p) (s.table p) ≡ waits_born s a p far op
lock_waits s a p far op other =
    ap (λ w. first_waiting w (waits_for_locks (locks_needed s a p far op) a (s.structure p) (s.table p))) (no_pin s.handle a op other)

-- the machine has it so where a pin is given to the actor
pub keeps_given : (K : HandleValue) (handle : Handle) (pinned : List ℕ) (reference : Option (ℕ × ℕ)) (a : ℕ) → IsShown K handle pinned reference → is_given_to handle a ≡ true → IsKeptFor K a
keeps_given kept.unmade handle pinned reference a is given_so = absurd (let none : false ≡ true = ap (λ (h : Handle). is_given_to h a) (sym is.0) ∙ given_so in cc)
keeps_given (kept.held by frames write) handle pinned reference a is given_so = absurd (let none : false ≡ true = ap (λ (h : Handle). is_given_to h a) (sym is.0.1) ∙ given_so in cc)
keeps_given (kept.given to frames write) handle pinned reference a is given_so = eqb-true to a (ap (λ (h : Handle). is_given_to h a) (sym is.0.1) ∙ given_so)
keeps_given (kept.got by frame) handle pinned reference a is given_so = absurd (let none : false ≡ true = ap (λ (h : Handle). is_given_to h a) (sym is.0) ∙ given_so in cc)
keeps_given kept.gone handle pinned reference a is given_so = absurd (let none : false ≡ true = ap (λ (h : Handle). is_given_to h a) (sym is.0) ∙ given_so in cc)
