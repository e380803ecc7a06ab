-- Before a turn that copies a word its actor waits for nobody, and no process of it has failed.
use Rattle.std.proofs.Common.{◌≡◌, ℕ, true, List, Option, Some, None, refl, sym, ap, ◌∙◌, subst, slice_get}
use Rattle.gup_base.specs.declared.entry.Rights.{Rights}
use Rattle.gup_plain.specs.State.{born}
use Rattle.gup_script.specs.declared.op.Op.{Op}
use Rattle.gup_script.specs.declared.op.Op.TheVariants.{Fork}
use Rattle.gup_spec_events.specs.State.{CoreState, Job, idle, forking, between}
use Rattle.gup_spec_journal.specs.Place.{Doer, doer_of}
use Rattle.gup_spec_turns.specs.JobPlace.{job_place, place_in, at_word}
use Rattle.gup_spec_turns.specs.Waits.{Locks, no_lock, fork_locks, first_waiting, waits_for_locks, waiting_for}
use Rattle.gup_op_base.specs.Jobs.{place_of}
use Rattle.gup_op_base.specs.declared.jobs.JobPlace.{JobPlace}
use Rattle.gup_op_waits.specs.Births.{HasFailed}
use Rattle.gup_op_waits.specs.Doers.{IsProcessOf}
use Rattle.gup_op_waits.specs.Parts.{ShowsBirths}
use Rattle.gup_op_waits.specs.declared.births.Birth.{Birth}
use Rattle.gup_op_waits.specs.declared.births.Birth.TheVariants.{Born}
use Rattle.gup_op_waits.proofs.Waits.{thread_waits}
use Rattle.gup_spec_turns.specs.Run.{RunState, waiting_in}
use Rattle.gup_op_turns.specs.Copies.{IsCopyAt}
use Rattle.gup_op_turns.specs.Goes.{IsReady}
use Rattle.gup_core.specs.Machine.{MachineValue, Shows, IsMachine}
use Rattle.gup_core.specs.Rest.{IsAtRest, op_of_seat}
use Rattle.gup_op_waits.specs.declared.seats.Seat.{Seat}
use Rattle.gup_core.proofs.Ready.{is_ready}
use Rattle.gup_core.proofs.Resting.{Stand}
use Rattle.gup_op_turns.proofs.Singles.{process_is}
use Rattle.gup_core.proofs.Taking.{waiting_is}
use Rattle.gup_op_turns.specs.declared.copies.WordCopy.{WordCopy}

-- a fork that copies words needs no lock
needs_none : (right : ℕ → Option Rights) (job : Job) (prepared : Option ℕ) (page word to : ℕ) → at_word page word to ≡ job_place job prepared → fork_locks right job ≡ no_lock
needs_none right idle prepared page word to is = absurd (cc)
needs_none right (forking p c done between) prepared page word to is = absurd (cc)
needs_none right (forking p c done step) prepared page word to is = refl
needs_none right job prepared page word to is = refl

waits_so : (s : CoreState) (who : Doer) (far p child page word to : ℕ) → who.of_process ≡ true → who.proc ≡ p → s.birth p ≡ born → at_word page word to ≡ place_in s who.actor → None ≡ waiting_for s who far (Fork child)
waits_so s who far p child page word to thread own is_born place =
    sym (thread_waits s who far (Fork child) p born thread own is_born
    ∙ ap (λ (l : Locks). first_waiting None (waits_for_locks l who.actor (s.structure who.proc) (s.table who.proc)))
    (needs_none (s.right child) (s.job who.actor) (s.prepared who.actor) page word to place))

pub copy_waits : (births : List Birth) (proc : Option ℕ) (job : JobPlace) (op : Op) (copy : WordCopy) (s : CoreState) (who : Doer) (far a : ℕ) → IsCopyAt births proc job op copy
    → ShowsBirths births s → who.actor ≡ a → IsProcessOf who proc → place_of job ≡ place_in s a → None ≡ waiting_for s who far op
copy_waits births proc job op copy s who far a is shown actor of_who place =
    let of_copy : IsProcessOf who (Some copy.proc) = subst (λ (o : Option ℕ). IsProcessOf who o) is.proc_is of_who in
    let at : at_word copy.page copy.word copy.to ≡ place_in s who.actor =
    ap place_of (sym is.stands) ∙ place ∙ ap (λ (b : ℕ). place_in s b) (sym actor) in
    waits_so s who far copy.proc copy.child copy.page copy.word copy.to of_copy.0 of_copy.1 (shown copy.proc Born is.is_born) at
    ∙ ap (λ (x : Op). waiting_for s who far x) (sym is.is_fork)

pub copy_unfailed : (births : List Birth) (proc : Option ℕ) (job : JobPlace) (op : Op) (copy : WordCopy) → IsCopyAt births proc job op copy → HasFailed births proc → ⊥
copy_unfailed births proc job op copy is has =
    let failed = subst (λ (o : Option ℕ). HasFailed births o) is.proc_is has in
    cc (sym is.is_born ∙ failed)

-- The actor can go, and what its turn needs is there.
pub record IsFree (m : MachineValue) (a : ℕ) (seat : Seat) (op : Op) (copy : WordCopy) : Type 0 where
  pub ready : (r : RunState) → Shows m r → None ≡ waiting_in m.script r a
  pub turn : IsReady m.parts a copy.proc op seat.far seat.job

pub is_free : (m : MachineValue) (a : ℕ) (proc : Option ℕ) (seat : Seat) (op : Op) (copy : WordCopy) → Stand → IsMachine m → IsAtRest m → IsProcessOf (doer_of m.script a (Some op)) proc
    → slice_get m.seats a ≡ Some seat → op_of_seat m a seat ≡ Some op → IsCopyAt m.parts.births.items proc seat.job op copy → IsFree m a seat op copy
is_free m a proc seat op copy stand machine rest of_a here present is =
    let births : List Birth = m.parts.births.items in
    let ready = waiting_is m a proc seat op None stand rest of_a here present
    (λ s who far shown actor of_who fits place at. copy_waits births proc seat.job op copy s who far a is shown.births actor of_who place) in
    record {
      ready = ready;
      turn = is_ready m a proc seat op stand machine rest of_a here present ready (copy_unfailed births proc seat.job op copy is) copy.proc (process_is proc copy.proc is.proc_is);
    }
