-- Who keeps a lock between two turns: an actor in the middle of a fork, of a move, or of a long pin's page, which itself waits
-- for nobody. A fork and a pin between two pages may wait for another.
use Rattle.std.proofs.Common.{◌≡◌, ℕ, ◌+◌, length, ◌<◌, ◌==◌, ◌⊎◌, inl, inr, cond, Bool, true, false, List, Option, Some, None, refl, sym, ap, ap₂, ◌∙◌, subst, eq-eqb, arith, not, ◌&&◌}
use Rattle.gup_base.specs.declared.entry.Want.{Want}
use Rattle.gup_base.specs.declared.entry.Zone.{Zone}
use Rattle.gup_spec_turns.specs.PinPlace.{StandsAtPage, turns_over}
use Rattle.gup_plain.specs.State.{Birth, born}
use Rattle.gup_plain.specs.declared.note.Waiting.{Waiting}
use Rattle.gup_plain.specs.declared.note.Waiting.TheVariants as waitings
use Rattle.gup_script.specs.Script.{ScriptValue}
use Rattle.gup_script.specs.declared.op.Op.{Op}
use Rattle.gup_script.specs.declared.op.Op.TheVariants.{Pin, Move, Fork, Exit}
use Rattle.gup_spec_events.specs.State.{CoreState, Job, idle, moving, walking, unread, one, more, forking, between, counted, copying}
use Rattle.gup_law_base.specs.Sound.{keeps_table, keeps_structure}
use Rattle.gup_spec_journal.specs.Order.{KeepsLock, MayNeedLock, handle_waits}
use Rattle.gup_spec_journal.specs.Place.{Place, Doer, doer_of, birth_for, process_of}
use Rattle.gup_spec_turns.specs.JobPlace.{IsForking}
use Rattle.gup_spec_turns.specs.Run.{RunState, op_in, waiting_with, waiting_in, is_ready, can_go}
use Rattle.gup_spec_turns.specs.Waits.{both_if, pin_locks, Locks, no_lock, move_locks, locks_needed, waits_born, held_by_other, waits_for_lock, first_waiting, waits_for_locks}
use Rattle.gup_spec_turns.proofs.TurnParts.{waits_at}
use Rattle.gup_law_turns.proofs.Puts.{some_same}
use Rattle.gup_law_turns.proofs.TurnShapes.{FitsMove, has_begun, FitsFork, FitsAt, IsBegun}
use Rattle.gup_law_turns.proofs.StandingStates.{Stands}

-- what a lock is waited for

-- who waits for a lock waits for another actor, who holds it
abbrev pub IsHeld : (a : ℕ) (holder : Option ℕ) → Waiting → Type 0
IsHeld a holder waiting = (b : ℕ) × (waiting ≡ waitings.Holder b) × (a ≡ b → ⊥) × (holder ≡ Some b)

held_other : (a : ℕ) (holder : Option ℕ) (waiting : Waiting) → held_by_other a holder ≡ Some waiting → IsHeld a holder waiting
held_other a None waiting is = absurd (cc is)
held_other a (Some b) waiting is = go (a == b) refl is
  where
    go : (c : Bool) → (a == b) ≡ c → cond c None (Some (waitings.Holder b)) ≡ Some waiting → IsHeld a (Some b) waiting
    go true e now = absurd (cc now)
    go false e now = (b, sym (some_same now), (λ same. let yes = eq-eqb a b same in cc), refl)

pub held_lock : (needed : Bool) (a : ℕ) (holder : Option ℕ) (waiting : Waiting) → waits_for_lock needed a holder ≡ Some waiting → IsHeld a holder waiting
held_lock true a holder waiting is = held_other a holder waiting is
held_lock false a holder waiting is = absurd (cc is)

first_of : (first second : Option Waiting) (waiting : Waiting) → first_waiting first second ≡ Some waiting → (first ≡ Some waiting) ⊎ (second ≡ Some waiting)
first_of None second waiting is = inr is
first_of (Some w) second waiting is = inl is

-- one of the two locks of a process is another actor's
held_locks : (locks : Locks) (a : ℕ) (structure table : Option ℕ) (waiting : Waiting) → waits_for_locks locks a structure table ≡ Some waiting → IsHeld a structure waiting ⊎ IsHeld a table waiting
held_locks locks a structure table waiting is =
    elim (first_of (waits_for_lock locks.structure a structure) (waits_for_lock locks.table a table) waiting is) [ inl first ↦ inl (held_lock locks.structure a structure waiting first) | inr second ↦ inr (held_lock locks.table a table waiting second) ]

-- an operation that waits for a lock is one that may need one
pub needs_lock : (s : CoreState) (a p far : ℕ) (op : Op) (structure table : Option ℕ) (waiting : Waiting) → waits_for_locks (locks_needed s a p far op) a structure table ≡ Some waiting → MayNeedLock (Some op)
needs_lock s a p far op structure table waiting is = grind arith

-- who holds a lock

-- a job that keeps a lock of process p
abbrev pub Keeps : Job → (p : ℕ) → Type 0
Keeps job p = (keeps_structure job ≡ Some p) ⊎ (keeps_table job ≡ Some p)

-- the job of an actor of process q, in the middle of a fork of process p
pub record IsForkOf (s : CoreState) (b q p : ℕ) (place : Place) : Type 0 where
  pub of : q ≡ p
  pub begun : IsBegun place
  pub locked : s.structure p ≡ Some b

fork_of : {s : CoreState} {b q child k c p : ℕ} {done : List ℕ} {place : Place} → IsForking s b q child k c done → IsBegun place → k ≡ p → IsForkOf s b q p place
fork_of {s = s} {b = b} {q = q} {p = p} here begun e =
    let same : q ≡ p = sym here.parent ∙ e in
    record { of = same; begun = begun; locked = subst (λ (x : ℕ). s.structure x ≡ Some b) same here.locked }

pub keeps_none : {p : ℕ} {X : Type 0} → (None ≡ Some p) ⊎ (None ≡ Some p) → X
keeps_none (inl e) = absurd (cc e)
keeps_none (inr e) = absurd (cc e)

pub keeps_idle : {p : ℕ} {X : Type 0} {job : Job} → job ≡ idle → Keeps job p → X
keeps_idle {p = p} e keeps = keeps_none (subst (λ (j : Job). Keeps j p) e keeps)

pub fork_keeps : (s : CoreState) (b q child p : ℕ) (place : Place) (job : Job) (prepared : Option ℕ) → FitsFork s b q child place job prepared → Keeps job p → IsForkOf s b q p place
fork_keeps s b q child p place idle prepared fits keeps = keeps_none keeps
fork_keeps s b q child p place (forking k c done between) prepared fits (inl e) = fork_of fits.1 fits.0 (some_same e)
fork_keeps s b q child p place (forking k c done between) prepared fits (inr e) = absurd (cc e)
fork_keeps s b q child p place (forking k c done (counted page)) prepared fits (inl e) = fork_of fits.1.0 fits.0 (some_same e)
fork_keeps s b q child p place (forking k c done (counted page)) prepared fits (inr e) = fork_of fits.1.0 fits.0 (some_same e)
fork_keeps s b q child p place (forking k c done (copying page n)) prepared fits (inl e) = fork_of fits.1.0 fits.0 (some_same e)
fork_keeps s b q child p place (forking k c done (copying page n)) prepared fits (inr e) = fork_of fits.1.0 fits.0 (some_same e)
fork_keeps s b q child p place (forking k c done step) prepared fits keeps = absurd fits.1
fork_keeps s b q child p place job prepared fits keeps = absurd fits

-- a fork that has begun has the structure lock of its process
fork_locked : (s : CoreState) (b q child : ℕ) (place : Place) (job : Job) (prepared : Option ℕ) → FitsFork s b q child place job prepared → 0 < place.far → s.structure q ≡ Some b
fork_locked s b q child place idle prepared fits far = absurd (let first = fits.0.0 in omega arith)
fork_locked s b q child place (forking k c done between) prepared fits far = fits.1.locked
fork_locked s b q child place (forking k c done (counted page)) prepared fits far = fits.1.0.locked
fork_locked s b q child place (forking k c done (copying page n)) prepared fits far = fits.1.0.locked
fork_locked s b q child place (forking k c done step) prepared fits far = absurd fits.1
fork_locked s b q child place job prepared fits far = absurd fits

-- the actor's present operation keeps a lock of process p, and some of its turns are over
pub record IsKeeper (script : ScriptValue) (r : RunState) (b p : ℕ) : Type 0 where
  pub keeps : KeepsLock (op_in script r b)
  pub of : (doer_of script b (op_in script r b)).proc ≡ p
  pub begun : 0 < (r.places b).far
  pub now : Keeps (r.core.job b) p

-- a move that keeps a lock has begun
pub move_keeps : (s : CoreState) (b q p page : ℕ) (zone : Zone) (place : Place) (job : Job) → FitsMove s b q page zone place job → Keeps job p → (q ≡ p) × (0 < place.far)
move_keeps s b q p page zone place idle fits keeps = keeps_none keeps
move_keeps s b q p page zone place (moving k g e allowed count) fits (inl is) = absurd (cc is)
move_keeps s b q p page zone place (moving k g e allowed count) fits (inr is) = (sym fits.1.0 ∙ some_same is, has_begun g place.far e count fits.0)
move_keeps s b q p page zone place job fits keeps = absurd fits

-- so has a pin that keeps one, and it is for long
pin_keeps : (s : CoreState) (b q p page n got : ℕ) (want : Want) (fast : Bool) (job : Job) → StandsAtPage s b q page n got want fast job → Keeps job p → (want.long ≡ true) × (q ≡ p) × (0 < turns_over job)
pin_keeps s b q p page n got want fast idle at keeps = keeps_none keeps
pin_keeps s b q p page n got want fast (moving k g e allowed unread) at (inl is) = absurd (cc is)
pin_keeps s b q p page n got want fast (moving k g e allowed unread) at (inr is) = (at.4.long, sym at.0 ∙ some_same is, omega arith)
pin_keeps s b q p page n got want fast (moving k g e allowed one) at (inl is) = absurd (cc is)
pin_keeps s b q p page n got want fast (moving k g e allowed one) at (inr is) = (at.4.long, sym at.0 ∙ some_same is, omega arith)
pin_keeps s b q p page n got want fast (moving k g e allowed (more count)) at (inl is) = absurd (cc is)
pin_keeps s b q p page n got want fast (moving k g e allowed (more count)) at (inr is) = (at.4.long, sym at.0 ∙ some_same is, omega arith)
pin_keeps s b q p page n got want fast (walking k write long sequence step) at keeps = keeps_none keeps
pin_keeps s b q p page n got want fast job at keeps = absurd at

-- nobody waits for himself
pub own_none : (b : ℕ) → held_by_other b (Some b) ≡ None
own_none b = go (b == b) refl
  where
    go : (c : Bool) → (b == b) ≡ c → cond c None (Some (waitings.Holder b)) ≡ None
    go true is = refl
    go false is = absurd (let yes = eq-eqb b b refl in cc)

-- such a pin has the table lock, and nobody has the other: so it waits for none
pub own_locks : (b : ℕ) (needed : Bool) (structure table : Option ℕ) → structure ≡ None → table ≡ Some b → waits_for_locks (both_if needed) b structure table ≡ None
own_locks b true structure table free own =
    ap₂ (λ (x y : Option ℕ). first_waiting (held_by_other b x) (held_by_other b y)) free own ∙ own_none b
own_locks b false structure table free own = refl

pin_locked : (s : CoreState) (b q p page n got : ℕ) (want : Want) (fast : Bool) (far : ℕ) (job : Job) → StandsAtPage s b q page n got want fast job → Keeps job p → waits_for_locks (pin_locks fast far job) b (s.structure q) (s.table q) ≡ None
pin_locked s b q p page n got want fast far idle at keeps = keeps_none keeps
pin_locked s b q p page n got want fast far (moving k g e allowed count) at keeps =
    own_locks b (not (fast && far == 0)) (s.structure q) (s.table q) at.4.unforked at.4.moving.locked
pin_locked s b q p page n got want fast far (walking k write long sequence step) at keeps = keeps_none keeps
pin_locked s b q p page n got want fast far job at keeps = absurd at

-- an actor that keeps a lock has such an operation
op_keeps : (s : CoreState) (who : Doer) (p : ℕ) (op : Option Op) (place : Place) → FitsAt s who op place → Keeps (s.job who.actor) p → KeepsLock op × (who.proc ≡ p) × (0 < place.far)
op_keeps s who p (Some (Move proc page zone)) place fits keeps =
    let moves = move_keeps s who.actor who.proc p page zone place (s.job who.actor) fits.2 keeps in
    (tt, moves.0, moves.1)
op_keeps s who p (Some (Fork child)) place fits keeps =
    let forks = fork_keeps s who.actor who.proc child p place (s.job who.actor) (s.prepared who.actor) fits.1 keeps in
    (tt, forks.of, forks.begun.0)
op_keeps s who p (Some (Pin handle page n want fast)) place fits keeps =
    let least = fits.least in
    let pins = pin_keeps s who.actor who.proc p (page + length (s.taken who.actor)) n (length (s.taken who.actor)) want fast (s.job who.actor) fits.at keeps in
    (pins.0, pins.1, omega (arith, least, pins.2))
op_keeps s who p (Some Exit) place fits keeps = keeps_idle fits.0 keeps
op_keeps s who p op place fits keeps = keeps_idle fits.0.0 keeps

-- what is of no value is none
none_by : (o : Option Waiting) → ((waiting : Waiting) → o ≡ Some waiting → ⊥) → o ≡ None
none_by None never = refl
none_by (Some waiting) never = absurd (never waiting refl)

-- a move that has begun needs no lock
move_unlocked : (s : CoreState) (b q page : ℕ) (zone : Zone) (place : Place) (job : Job) → FitsMove s b q page zone place job → 0 < place.far → move_locks job ≡ no_lock
move_unlocked s b q page zone place idle fits far = absurd (omega (arith, fits, far))
move_unlocked s b q page zone place job fits far = refl

module _ (script : ScriptValue) (r : RunState) (h : Stands script r) where
  keeper : (b p : ℕ) → Keeps (r.core.job b) p → IsKeeper script r b p
  keeper b p keeps =
      let at = op_keeps r.core (doer_of script b (op_in script r b)) p (op_in script r b) (r.places b) (h.fits b) keeps in
      record { keeps = at.0; of = at.1; begun = at.2; now = keeps }

  -- what the locks of its process let an actor wait for
  abbrev pub locks_of : (a : ℕ) → Op → Option Waiting
  locks_of a op =
      let p = (doer_of script a (Some op)).proc in
      waits_for_locks (locks_needed r.core a p (r.places a).far op) a (r.core.structure p) (r.core.table p)

  -- an actor that waits for a lock waits for another one in the middle of an operation that keeps one of its process
  pub waits_for_keeper : (a : ℕ) (op : Op) (waiting : Waiting) → locks_of a op ≡ Some waiting → (b : ℕ) × (waiting ≡ waitings.Holder b) × (a ≡ b → ⊥) × IsKeeper script r b (doer_of script a (Some op)).proc
  waits_for_keeper a op waiting is =
      let p = (doer_of script a (Some op)).proc in
      elim (held_locks (locks_needed r.core a p (r.places a).far op) a (r.core.structure p) (r.core.table p) waiting is) [ inl held ↦ (held.0, held.1, held.2, keeper held.0 p (inl (h.sound.1.structure_held p held.0 held.3))) | inr held ↦ (held.0, held.1, held.2, keeper held.0 p (inr (h.sound.1.table_held p held.0 held.3))) ]

  -- an operation in the middle waits for locks alone
  waits_locked : (b : ℕ) (op : Op) → op_in script r b ≡ Some op → 0 < (r.places b).far → handle_waits r.core.handle b (Some op) ≡ None → waiting_in script r b ≡ locks_of b op
  waits_locked b op is far none =
      let who : Doer = doer_of script b (Some op) in
      let birth : birth_for r.core.birth who ≡ born = subst (λ (o : Option Op). birth_for r.core.birth (doer_of script b o) ≡ born) is (h.begun b far) in
      ap (λ (o : Option Op). waiting_with r.core (doer_of script b o) (r.places b).far o) is
      ∙ ap (λ (x : Birth). waits_at x who.proc (waits_born r.core b who.proc (r.places b).far op)) birth
      ∙ ap (λ (w : Option Waiting). first_waiting w (locks_of b op)) none

  fits_as : (b : ℕ) (op : Op) → op_in script r b ≡ Some op → FitsAt r.core (doer_of script b (Some op)) (Some op) (r.places b)
  fits_as b op is = subst (λ (o : Option Op). FitsAt r.core (doer_of script b o) o (r.places b)) is (h.fits b)

  -- a move in the middle waits for nobody
  move_goes : (b proc page : ℕ) (zone : Zone) → op_in script r b ≡ Some (Move proc page zone) → 0 < (r.places b).far → waiting_in script r b ≡ None
  move_goes b proc page zone is far =
      let fits = fits_as b (Move proc page zone) is in
      let none = move_unlocked r.core b proc page zone (r.places b) (r.core.job b) fits.2 far in
      waits_locked b (Move proc page zone) is far refl
      ∙ ap (λ (locks : Locks). waits_for_locks locks b (r.core.structure proc) (r.core.table proc)) none

  abbrev IsStuck : ℕ → Type 0
  IsStuck b = (op : Op) → op_in script r b ≡ Some op → can_go script r b ≡ false

  stuck_waits : (b : ℕ) (op : Op) → op_in script r b ≡ Some op → IsStuck b → waiting_in script r b ≡ None → ⊥
  stuck_waits b op is stuck free =
      let can : can_go script r b ≡ true = ap₂ is_ready is free in
      cc (sym can ∙ stuck op is)

  move_unstuck : (b proc page : ℕ) (zone : Zone) → op_in script r b ≡ Some (Move proc page zone) → 0 < (r.places b).far → IsStuck b → ⊥
  move_unstuck b proc page zone is far stuck = stuck_waits b (Move proc page zone) is stuck (move_goes b proc page zone is far)

  -- a pin that keeps a lock waits for nobody
  pin_unstuck : (b p handle page n : ℕ) (want : Want) (fast : Bool) → op_in script r b ≡ Some (Pin handle page n want fast) → 0 < (r.places b).far → Keeps (r.core.job b) p → IsStuck b → ⊥
  pin_unstuck b p handle page n want fast is far keeps stuck =
      let op : Op = Pin handle page n want fast in
      let q : ℕ = process_of script b in
      let fits = fits_as b op is in
      let none : locks_of b op ≡ None = pin_locked r.core b q p (page + length (r.core.taken b)) n (length (r.core.taken b)) want fast (r.places b).far (r.core.job b) fits.at keeps in
      stuck_waits b op is stuck (waits_locked b op is far refl ∙ none)

  fork_holds : (b child : ℕ) → op_in script r b ≡ Some (Fork child) → 0 < (r.places b).far → r.core.structure (process_of script b) ≡ Some b
  fork_holds b child is far =
      let fits = fits_as b (Fork child) is in
      fork_locked r.core b (process_of script b) child (r.places b) (r.core.job b) (r.core.prepared b) fits.1 far

  -- a fork that waits for a lock waits for no other fork: it has the structure lock itself
  other_fork : (b child c : ℕ) → op_in script r b ≡ Some (Fork child) → 0 < (r.places b).far → (b ≡ c → ⊥) → (o : Option Op) → op_in script r c ≡ o → KeepsLock o → (doer_of script c o).proc ≡ process_of script b → 0 < (r.places c).far → Keeps (r.core.job c) (process_of script b) → IsStuck c → ⊥
  other_fork b child c is far apart (Some (Pin handle page n want fast)) there keeps of begun now stuck = pin_unstuck c (process_of script b) handle page n want fast there begun now stuck
  other_fork b child c is far apart (Some (Move proc page zone)) there keeps of begun now stuck = move_unstuck c proc page zone there begun stuck
  other_fork b child c is far apart (Some (Fork other)) there keeps of begun now stuck =
      let own = fork_holds b child is far in
      let its = fork_holds c other there begun in
      apart (some_same (sym own ∙ ap r.core.structure (sym of) ∙ its))
  other_fork b child c is far apart o there keeps of begun now stuck = absurd keeps

  fork_unstuck : ((k : ℕ) → IsStuck k) → (b child : ℕ) → op_in script r b ≡ Some (Fork child) → 0 < (r.places b).far → ⊥
  fork_unstuck stuck b child is far =
      let never : (waiting : Waiting) → locks_of b (Fork child) ≡ Some waiting → ⊥ =
      λ waiting held. let other = waits_for_keeper b (Fork child) waiting held in other_fork b child other.0 is far other.2 (op_in script r other.0) refl other.3.keeps other.3.of other.3.begun other.3.now (stuck other.0) in
      stuck_waits b (Fork child) is (stuck b) (waits_locked b (Fork child) is far refl ∙ none_by (locks_of b (Fork child)) never)

  -- so a pin in the middle, which may wait for a lock between two pages, waits for nobody where nobody can go
  other_stuck : ((k : ℕ) → IsStuck k) → (c p : ℕ) (o : Option Op) → op_in script r c ≡ o → KeepsLock o → 0 < (r.places c).far → Keeps (r.core.job c) p → ⊥
  other_stuck stuck c p (Some (Pin handle page n want fast)) there keeps begun now = pin_unstuck c p handle page n want fast there begun now (stuck c)
  other_stuck stuck c p (Some (Move proc page zone)) there keeps begun now = move_unstuck c proc page zone there begun (stuck c)
  other_stuck stuck c p (Some (Fork child)) there keeps begun now = fork_unstuck stuck c child there begun
  other_stuck stuck c p o there keeps begun now = absurd keeps

  between_unstuck : ((k : ℕ) → IsStuck k) → (b handle page n : ℕ) (want : Want) (fast : Bool) → op_in script r b ≡ Some (Pin handle page n want fast) → 0 < (r.places b).far → ⊥
  between_unstuck stuck b handle page n want fast is far =
      let op : Op = Pin handle page n want fast in
      let never : (waiting : Waiting) → locks_of b op ≡ Some waiting → ⊥ =
      λ waiting held. let other = waits_for_keeper b op waiting held in other_stuck stuck other.0 (process_of script b) (op_in script r other.0) refl other.3.keeps other.3.begun other.3.now in
      stuck_waits b op is (stuck b) (waits_locked b op is far refl ∙ none_by (locks_of b op) never)

  -- where nobody can go, nobody is in the middle of an operation that keeps a lock
  pub no_keeper : ((k : ℕ) → IsStuck k) → (b : ℕ) → KeepsLock (op_in script r b) → 0 < (r.places b).far → ⊥
  no_keeper stuck b keeps far = by_op (op_in script r b) refl keeps
    where
      by_op : (o : Option Op) → op_in script r b ≡ o → KeepsLock o → ⊥
      by_op (Some (Pin handle page n want fast)) is keeps = between_unstuck stuck b handle page n want fast is far
      by_op (Some (Move proc page zone)) is keeps = move_unstuck b proc page zone is far (stuck b)
      by_op (Some (Fork child)) is keeps = fork_unstuck stuck b child is far
      by_op o is keeps = absurd keeps
