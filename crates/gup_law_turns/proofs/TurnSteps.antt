-- A run's turns: each can be done and has one of the shapes.
use Rattle.std.proofs.Common.{◌≡◌, ℕ, ◌+◌, length, ◌≤◌, ◌<◌, Bool, true, false, IsTrue, List, [], ◌∷◌, Option, Some, None, refl, ap, sym, subst, ◌∙◌, zero, suc, arith}
use Rattle.gup_law_turns.specs.Standing.{CopyStands}
use Rattle.gup_law_turns.proofs.CopiedPages.{no_copy, not_copying, IsNoFork, other_op, next_copies_none, none_goes, copy_grown}
use Rattle.gup_plain.specs.State.{Birth, Noted, unborn, born, failed}
use Rattle.gup_plain.specs.declared.answer.Answer.TheVariants as answers
use Rattle.gup_plain.specs.declared.event.PlainEvent.TheVariants as events
use Rattle.gup_plain.specs.declared.note.What.TheVariants.{Idle, Wait, Event, Done}
use Rattle.gup_plain.specs.declared.note.Waiting.{Waiting}
use Rattle.gup_script.specs.Valid.{IsScript, IsOp, IsOfThread, FitsKind, made_by}
use Rattle.gup_base.specs.Counts.{most_slots}
use Rattle.gup_base.specs.declared.entry.Want.{Want}
use Rattle.gup_base.specs.declared.entry.Zone.{Zone}
use Rattle.gup_spec_turns.specs.PinPlace.{StandsAtPage, turns_over}
use Rattle.gup_script.specs.Script.{ScriptValue, Actor, actor_at, is_thread}
use Rattle.gup_script.specs.declared.op.Kind.{Kind}
use Rattle.gup_script.specs.declared.op.Kind.TheVariants.{Thread, Device, Mover}
use Rattle.gup_script.specs.declared.op.Op.{Op}
use Rattle.gup_script.specs.declared.op.Op.TheVariants.{Map, Unmap, Protect, Discard, Load, Store, Pin, Unpin, Give, Take, Get, Put, Transfer, Mirror, Look, Fork, Exit, Move}
use Rattle.gup_spec_events.specs.State.{CoreState, Job, idle, forking, plain_of, moving, unread, one, more, walking}
use Rattle.gup_spec_events.specs.Event.{CoreEvent, happens, fail_unborn, run}
use Rattle.gup_spec_events.specs.Invariant.{AllCan}
use Rattle.gup_spec_journal.specs.Follows.{refuses}
use Rattle.gup_spec_journal.specs.Order.{handle_waits}
use Rattle.gup_spec_journal.specs.Place.{Place, Doer, doer_of, thread_in, is_of_process, birth_by, birth_for}
use Rattle.gup_spec_turns.specs.JobPlace.{JobPlace, place_in}
use Rattle.gup_spec_turns.specs.Run.{RunState, op_in, waiting_with, waiting_in, core_turn_by, core_turn_in}
use Rattle.gup_spec_turns.specs.CoreTurn.{CoreTurn, answers_with}
use Rattle.gup_spec_turns.proofs.TurnParts.{waits_at}
use Rattle.gup_spec_turns.specs.Waits.{waits_born, first_waiting, waits_for_locks, no_lock}
use Rattle.gup_spec_turns.specs.TableTurns.{grown_by, grows_at, shrinks_by}
use Rattle.gup_spec_turns.specs.Turn.{failed_turn, turn_at, op_turn, own_turn, unless_failed, grows_for, shrinks_for}
use Rattle.gup_script.specs.Limits.{most_mirrors}
use Rattle.gup_spec_turns.specs.Emptying.{invalidate, left_in, emptying}
use Rattle.gup_spec_turns.proofs.UnseenTurns.{IsNoLook, turn_unseen, waits_unseen}
use Rattle.gup_law_base.specs.Sound.{View, IsSoundBy, IsSound}
use Rattle.gup_law_tables.specs.Standing.{TablesStand, IsButForTables}
use Rattle.gup_law_tables.proofs.TableRuns.{stand_run}
use Rattle.gup_law_turns.specs.Slots.{EmptiesSlots}
use Rattle.gup_law_turns.proofs.CountedFrames.{AreCountedThere}
use Rattle.gup_law_turns.proofs.EmptiedTurns.{calmed, calmed_calm, calmed_sound, emptied_slots, emptied_taken, fits_beside, fits_with, silent_slots}
use Rattle.gup_law_turns.proofs.GrowingTurns.{unshaped, grown_shaped, grown_can, may_grow, Shrunk, none_shrunk, unfailed_shrunk, shrunk_by}
use Rattle.gup_law_turns.proofs.TurnAsOwn.{own_by, unless_born, unless_lost}
use Rattle.gup_law_turns.proofs.TableLists.{tables_only}
use Rattle.gup_law_turns.proofs.TabledTurns.{Shaped, at_first as same_first, at_last as same_last, left_alike, sound_tabled, tabled_taken, tabled_slots}
use Rattle.gup_law_turns.proofs.CalmStates.{failing_unborn}
use Rattle.gup_law_turns.proofs.ForkFails.{unborn_empty}
use Rattle.gup_law_turns.proofs.ForkOps.{IsEmptied, fork_turned, fork_emptied, fork_copied}
use Rattle.gup_law_turns.proofs.EmptiedSlots.{none_emptying}
use Rattle.gup_law_turns.proofs.MirrorOps.{mirror_turned, mirror_none, mirror_slots, look_turned, look_none, look_slots}
use Rattle.gup_law_turns.proofs.MoveOps.{move_turned}
use Rattle.gup_law_turns.proofs.HandleOps.{unpin_turned, give_turned, take_turned, transfer_turned}
use Rattle.gup_law_turns.proofs.PageOps.{map_turned, unmap_turned, load_turned, store_turned, protect_turned, discard_turned, exit_turned}
use Rattle.gup_law_turns.proofs.PinOps.{none_taken}
use Rattle.gup_law_turns.proofs.WalkOps.{pin_turned}
use Rattle.gup_law_turns.proofs.Puts.{some_same}
use Rattle.gup_law_turns.proofs.ReferenceOps.{get_turned, put_turned}
use Rattle.gup_law_turns.proofs.ScriptLemmas.{FitsIn, op_is_op, op_fits_kind, thread_birth, few_slots, has_own_process, IsOfNoDevice}
use Rattle.gup_law_turns.proofs.TurnShapes.{references_of, AtRest, AtFirst, FitsFork, FitsOp, FitsAt, Rests, IsOfProcess, TurnAt, idles, waits, goes, unborn_refused, unborn_fork, FitsMove, has_begun, child_of}
use Rattle.gup_law_turns.proofs.StandingStates.{IsFew, Stands, IsTaken}
use Rattle.gup_law_turns.proofs.ShownTurns.{IsOpen, IsQuiet, FitsNext, MakesPin, IsTurned, idle_place}

-- whoever waits for neither of two doesn't wait for the first
first_of_both : (first second : Option Waiting) → first_waiting first second ≡ None → first ≡ None
first_of_both None second free = refl
first_of_both (Some waiting) second free = absurd (cc free)

-- an operation of a process is none that a device does by itself
pub of_no_device : (op : Op) → IsOfProcess op → IsOfNoDevice op
of_no_device (Unpin handle) own = λ device. own
of_no_device (Give handle to) own = λ device. own
of_no_device (Take handle) own = λ device. own
of_no_device (Transfer handle outward slot parts) own = λ device. own
of_no_device (Look mirror word) own = λ device. own
of_no_device (Mirror mirror proc page) own = tt
of_no_device op own = λ device. device

-- an operation of a thread is one of threads
of_kind : (kind : Kind) (op : Op) → FitsKind kind op → is_thread kind ≡ true → IsOfThread op
of_kind (Thread p) op fits is = fits
of_kind (Device slots) op fits is = absurd (cc is)
of_kind Mover op fits is = absurd (cc is)

of_actor : (actor : Option Actor) (op : Op) → FitsIn actor op → thread_in actor ≡ true → IsOfThread op
of_actor None op fits is = absurd fits
of_actor (Some actor) op fits is = of_kind actor.kind op fits is

-- one that is of a process, which may have failed, is no transfer and no look
abbrev MayBeUnborn : Op → Type 0
MayBeUnborn (Transfer handle outward slot parts) = ⊥
MayBeUnborn (Look mirror word) = ⊥
MayBeUnborn op = Unit {0}

may_be_unborn : (actor : Option Actor) (op : Op) → FitsIn actor op → is_of_process (thread_in actor) (Some op) ≡ true → MayBeUnborn op
may_be_unborn actor (Transfer handle outward slot parts) fits is = of_actor actor (Transfer handle outward slot parts) fits is
may_be_unborn actor (Look mirror word) fits is = of_actor actor (Look mirror word) fits is
may_be_unborn actor op fits is = tt

-- an operation that neither fills a mirror slot nor looks through one
abbrev IsNoMirror : Op → Type 0
IsNoMirror (Mirror mirror proc page) = ⊥
IsNoMirror (Look mirror word) = ⊥
IsNoMirror op = Unit {0}

no_look : (op : Op) → IsNoMirror op → IsNoLook op
no_look (Look mirror word) apart = apart
no_look op apart = tt

-- whatever is of no process waits for no birth
failed_proc : (of_process : Bool) (birth : Birth) → birth_by of_process birth ≡ failed → (of_process ≡ true) × (birth ≡ failed)
failed_proc true birth is = (refl, is)
failed_proc false birth is = absurd (cc is)

not_failed : {b : Birth} → b ≡ born → b ≡ failed → ⊥
not_failed is lost = cc (sym is ∙ lost)

same_child : {c d : ℕ} → Some (Fork c) ≡ Some (Fork d) → d ≡ c
same_child is = cc

-- What the turn of an operation needs: its numbers are in range, its process is born if it is of one, the reference that it
-- gets isn't got, and whoever does it waits for nothing.
record CanTake (s : CoreState) (who : Doer) (place : Place) (op : Op) : Type 0 where
  range : IsOp op
  apart : IsNoMirror op
  birth : IsOfProcess op → s.birth who.proc ≡ born
  slots : who.slots ≤ most_slots
  ungot : (handle : ℕ) → made_by op ≡ Some handle → s.got handle ≡ None
  fits : FitsOp s who op place
  fresh : place.far ≡ 0 → place.had ≡ false
  free : waits_born s who.actor who.proc place.far op ≡ None

module _ (s : CoreState) (who : Doer) (place : Place) (quiet : IsQuiet s who.actor) where
  opened : s.birth who.proc ≡ born → IsOpen s who.actor who.proc
  opened birth = record { sound = quiet.sound; calm = quiet.calm; there = quiet.there; rest = quiet.rest; copies = quiet.copies; birth = birth }

  -- the turn of any operation but a mirror and a look
  op_turned : (op : Op) → CanTake s who place op → IsTurned s who place op (op_turn s who.actor who.proc who.slots place.far op)
  op_turned (Map page n rights) h = map_turned s who place (opened (h.birth tt)) page n rights h.range h.fits h.free
  op_turned (Unmap page n) h = unmap_turned s who place (opened (h.birth tt)) page n h.fits h.free
  op_turned (Load page word) h = load_turned s who place (opened (h.birth tt)) page word h.range h.fits h.free
  op_turned (Store page word value) h = store_turned s who place (opened (h.birth tt)) page word value h.range h.fits h.free
  op_turned (Protect page n rights) h = protect_turned s who place (opened (h.birth tt)) page n rights h.fits h.free
  op_turned (Discard page n) h = discard_turned s who place (opened (h.birth tt)) page n h.fits h.free
  op_turned (Pin handle page n want fast) h = pin_turned s who place (opened (h.birth tt)) handle page n want fast h.range h.fresh h.fits h.free
  op_turned (Unpin handle) h = unpin_turned s who place quiet handle h.fits
  op_turned (Give handle to) h = give_turned s who place quiet handle to h.fits
  op_turned (Take handle) h =
      take_turned s who place quiet handle h.fits
      (first_of_both (handle_waits s.handle who.actor (Some (Take handle))) (waits_for_locks no_lock who.actor (s.structure who.proc) (s.table who.proc)) h.free)
  op_turned (Get handle page) h = get_turned s who place (opened (h.birth tt)) handle page (h.ungot handle refl) h.fits h.free
  op_turned (Put handle) h = put_turned s who place quiet handle h.fits
  op_turned (Transfer handle outward slot parts) h = transfer_turned s who place quiet handle outward slot parts h.slots h.fits
  op_turned (Move proc page zone) h = move_turned s who proc page zone place (opened (h.birth tt)) h.fits h.free
  op_turned (Fork child) h = fork_turned s who child place (opened (h.birth tt)) h.fits h.free
  op_turned Exit h = exit_turned s who place (opened (h.birth tt)) h.fits h.free
  op_turned (Mirror mirror proc page) h = absurd h.apart
  op_turned (Look mirror word) h = absurd h.apart

-- an operation at its first turn is in the middle of nothing, and has taken no page
module _ (s : CoreState) (who : Doer) (place : Place) (first : place.far ≡ 0) where
  idle_fork : (child : ℕ) (job : Job) → s.job who.actor ≡ job → FitsFork s who.actor who.proc child place job (s.prepared who.actor) → (s.job who.actor ≡ idle) × (s.birth child ≡ unborn)
  idle_fork child idle is fits = (is, fits.1)
  idle_fork child (forking q c done step) is fits = absurd (let more = fits.0.0 in omega (arith, more, first))
  idle_fork child job is fits = absurd fits

  idle_move : (proc page : ℕ) (zone : Zone) (job : Job) → s.job who.actor ≡ job → FitsMove s who.actor who.proc page zone place job → s.job who.actor ≡ idle
  idle_move proc page zone idle is fits = is
  idle_move proc page zone (moving q g e allowed count) is fits = absurd (let more = has_begun g place.far e count fits.0 in omega (arith, more, first))
  idle_move proc page zone job is fits = absurd fits

  idle_pin : (page n got : ℕ) (want : Want) (fast : Bool) (job : Job) → s.job who.actor ≡ job → StandsAtPage s who.actor who.proc page n got want fast job → turns_over job ≡ 0 → s.job who.actor ≡ idle
  idle_pin page n got want fast idle is at none = is
  idle_pin page n got want fast (moving q g e allowed unread) is at none = absurd (omega (arith, none))
  idle_pin page n got want fast (moving q g e allowed one) is at none = absurd (omega (arith, none))
  idle_pin page n got want fast (moving q g e allowed (more count)) is at none = absurd (omega (arith, none))
  idle_pin page n got want fast (walking q write long sequence step) is at none = absurd (omega (arith, none))
  idle_pin page n got want fast job is at none = absurd at

  rests_first : (op : Op) → FitsOp s who op place → Rests s who.actor
  rests_first (Pin handle page n want fast) fits =
      let least = fits.least in
      (idle_pin (page + length (s.taken who.actor)) n (length (s.taken who.actor)) want fast (s.job who.actor) refl fits.at (omega (arith, least, first)), none_taken (s.taken who.actor) (omega (arith, least, first)))
  rests_first (Move proc page zone) fits = (idle_move proc page zone (s.job who.actor) refl fits.2, fits.0)
  rests_first (Fork child) fits = ((idle_fork child (s.job who.actor) refl fits.1).0, fits.0)
  rests_first Exit fits = fits
  rests_first op fits = fits.0

  pub rests_at : (op : Option Op) → FitsAt s who op place → Rests s who.actor
  rests_at None fits = fits.0
  rests_at (Some op) fits = rests_first op fits

-- an operation of a failed process, at its first turn
module _ (s : CoreState) (who : Doer) (place : Place) (sound : IsSound s) (rest : AtRest s who.actor) (lost : birth_for s.birth who ≡ failed) (first : AtFirst place) where
  -- its operation is refused
  refuses_op : (op : Op) → IsTrue (refuses op answers.Unborn) → ((child : ℕ) → Some op ≡ Some (Fork child) → ⊥) → FitsOp s who op place → IsTaken s who place (Some op) None (answers_with answers.Unborn)
  refuses_op op refusal no_fork fits =
      let still = rests_first s who place first.0 op fits in
      record {
        done = record { kinds = tt; can = tt; rest = rest; told = refl };
        shape = subst (λ (at : JobPlace). TurnAt (plain_of s) (references_of s) who place (Some op) None at (Done answers.Unborn ∷ []) at) (sym (idle_place s who.actor still.0)) (unborn_refused op lost first refusal);
        next = still;
        pin = λ o same free birth. absurd (not_failed birth lost);
        copies = no_copy s who.actor idle still.0 (λ copies. copies);
        emptied = λ child page same gone. absurd (no_fork child same);
      }

  -- its fork makes the child failed, too, which has no entries
  fails_child : (child : ℕ) → FitsOp s who (Fork child) place → IsTaken s who place (Some (Fork child)) None (failed_turn who.actor who.proc (Fork child))
  fails_child child fits =
      let proc : s.birth who.proc ≡ failed = (failed_proc who.of_process (s.birth who.proc) lost).1 in
      let still = idle_fork s who place first.0 child (s.job who.actor) refl fits.1 in
      record {
        done = record {
          kinds = (failing_unborn, tt);
          can = ((proc, still.1), tt);
          rest = record { prepared = rest.prepared; owed = rest.owed };
          told = refl;
        };
        shape = subst (λ (at : JobPlace). TurnAt (plain_of s) (references_of s) who place (Some (Fork child)) None at (Event (events.ForkFail child) ∷ Done answers.Unborn ∷ []) at) (sym (idle_place s who.actor still.0)) (unborn_fork child lost proc first);
        next = (still.0, fits.0);
        pin = λ o same free birth. absurd (not_failed birth lost);
        copies = no_copy (happens s (fail_unborn who.actor who.proc child)) who.actor idle still.0 (λ copies. copies);
        emptied = λ c page same gone. ap (λ (k : ℕ). s.entry k page) (same_child same) ∙ unborn_empty s child page sound still.1;
      }

  failed_step : (op : Op) → MayBeUnborn op → FitsOp s who op place → IsTaken s who place (Some op) None (failed_turn who.actor who.proc op)
  failed_step (Transfer handle outward slot parts) own fits = absurd own
  failed_step (Look mirror word) own fits = absurd own
  failed_step (Fork child) own fits = fails_child child fits
  failed_step op own fits = refuses_op op refl (λ child same. cc same) fits

-- What is known of whoever has this operation, or none.
record IsKnown (s : CoreState) (who : Doer) (place : Place) (op : Option Op) : Type 0 where
  range : (o : Op) → op ≡ Some o → IsOp o
  thread : (o : Op) → op ≡ Some o → IsOfProcess o → who.of_process ≡ true
  unlike_device : (o : Op) → op ≡ Some o → who.of_process ≡ true → MayBeUnborn o
  named : (mirror proc page : ℕ) → op ≡ Some (Mirror mirror proc page) → who.proc ≡ proc
  slots : who.slots ≤ most_slots
  ungot : (o : Op) → op ≡ Some o → (handle : ℕ) → made_by o ≡ Some handle → s.got handle ≡ None
  fits : FitsAt s who op place
  begun : 0 < place.far → birth_for s.birth who ≡ born
  fresh : place.far ≡ 0 → place.had ≡ false
  emptied : (p page : ℕ) → s.birth p ≡ failed → s.entry p page ≡ None

-- what is shown of the turn of a born process, or of a device, is what is shown of any turn
as_taken : (s : CoreState) (who : Doer) (place : Place) (op : Op) (turn : CoreTurn) → birth_for s.birth who ≡ born → (IsOfProcess op → s.birth who.proc ≡ born) → IsTurned s who place op turn → CopyStands (run s turn.events) who.actor → ((child page : ℕ) → op ≡ Fork child → (run s turn.events).birth child ≡ failed → (run s turn.events).entry child page ≡ None) → IsTaken s who place (Some op) None turn
as_taken s who place op turn birth own_birth at copies emptied =
    record {
      done = at.done;
      shape = goes op turn.whats (place_in s who.actor) (place_in (run s turn.events) who.actor) birth own_birth at.shape;
      next = at.next;
      pin = λ o same none lives. subst (MakesPin s (run s turn.events) who.actor) (some_same same) at.pin;
      copies = copies;
      emptied = λ child page same. emptied child page (some_same same);
    }

module _ (s : CoreState) (who : Doer) (place : Place) (op : Op) (h : IsKnown s who place (Some op)) where
  own_birth : birth_for s.birth who ≡ born → IsOfProcess op → s.birth who.proc ≡ born
  own_birth birth own = sym (thread_birth who s.birth (h.thread op refl own)) ∙ birth

  -- an operation in the middle is of a born process
  at_first : birth_for s.birth who ≡ failed → AtFirst place
  at_first lost = by_far place.far refl
    where
      by_far : (far : ℕ) → place.far ≡ far → AtFirst place
      by_far zero is = (is, h.fresh is)
      by_far (suc far) is = absurd (not_failed (h.begun (omega (arith, is))) lost)

  -- one of a failed process is refused
  lost_step : IsSound s → AtRest s who.actor → birth_for s.birth who ≡ failed → IsTaken s who place (Some op) None (failed_turn who.actor who.proc op)
  lost_step sound rest lost =
      failed_step s who place sound rest lost (at_first lost) op (h.unlike_device op refl (failed_proc who.of_process (s.birth who.proc) lost).0) h.fits

module _ (s : CoreState) (who : Doer) (place : Place) (quiet : IsQuiet s who.actor) (op : Op) (apart : IsNoMirror op) (h : IsKnown s who place (Some op)) where
  -- of a born process, or of a device
  born_step : birth_for s.birth who ≡ born → waits_born s who.actor who.proc place.far op ≡ None → IsTaken s who place (Some op) None (op_turn s who.actor who.proc who.slots place.far op)
  born_step birth free =
      let own : IsOfProcess op → s.birth who.proc ≡ born = own_birth s who place op h birth in
      let turn : CoreTurn = op_turn s who.actor who.proc who.slots place.far op in
      let at : IsTurned s who place op turn = op_turned s who place quiet op (record { range = h.range op refl; apart = apart; birth = own; slots = h.slots; ungot = h.ungot op refl; fits = h.fits; fresh = h.fresh; free = free }) in
      as_taken s who place op turn birth own at (copied op refl own at.next) (λ child page same. by_fork child same page own)
    where
      copied : (o : Op) → op ≡ o → (IsOfProcess op → s.birth who.proc ≡ born) → FitsNext (run s (op_turn s who.actor who.proc who.slots place.far op).events) who (Some op) place (op_turn s who.actor who.proc who.slots place.far op).whats → CopyStands (run s (op_turn s who.actor who.proc who.slots place.far op).events) who.actor
      copied (Fork child) is own next =
          let fork_birth : s.birth who.proc ≡ born = own (subst IsOfProcess (sym is) tt) in
          subst (λ (o : Op). CopyStands (run s (op_turn s who.actor who.proc who.slots place.far o).events) who.actor) (sym is)
          (fork_copied s who child place (opened s who place quiet fork_birth) (subst (λ (o : Op). FitsOp s who o place) is h.fits))
      copied o is own next =
          let turn : CoreTurn = op_turn s who.actor who.proc who.slots place.far op in
          not_copying (run s turn.events) who.actor (next_copies_none (run s turn.events) who op place turn.whats (subst IsNoFork (sym is) tt) next)

      by_fork : (child : ℕ) → op ≡ Fork child → (page : ℕ) → (IsOfProcess op → s.birth who.proc ≡ born) → (run s (op_turn s who.actor who.proc who.slots place.far op).events).birth child ≡ failed → (run s (op_turn s who.actor who.proc who.slots place.far op).events).entry child page ≡ None
      by_fork child is page own lost =
          let fork_birth : s.birth who.proc ≡ born = own (subst IsOfProcess (sym is) tt) in
          let all = subst (λ (o : Op). IsEmptied (run s (op_turn s who.actor who.proc who.slots place.far o).events) child) (sym is) (fork_emptied s who child place (opened s who place quiet fork_birth) (subst (λ (o : Op). FitsOp s who o place) is h.fits)) in
          all lost page

  -- by the birth that it waits for
  step_by : (birth : Birth) → birth_for s.birth who ≡ birth → waits_at birth who.proc (waits_born s who.actor who.proc place.far op) ≡ None → IsTaken s who place (Some op) None (turn_at birth (failed_turn who.actor who.proc op) (op_turn s who.actor who.proc who.slots place.far op))
  step_by born is free = born_step is free
  step_by failed is free = lost_step s who place op h quiet.sound quiet.rest is
  step_by birth is free = absurd (cc free)

-- What holds of a state, and of the same one with all slots empty.
record IsQuietly (s : CoreState) (a : ℕ) : Type 0 where
  sound : IsSound s
  slots : (m f : ℕ) → s.mirrored m ≡ Some f → m < most_mirrors
  there : AreCountedThere s
  rest : AtRest s a
  tables : TablesStand s
  copies : CopyStands s a

calmed_quiet : (s : CoreState) (a : ℕ) → IsQuietly s a → IsQuiet (calmed s) a
calmed_quiet s a h =
    record {
      sound = calmed_sound s h.sound;
      calm = calmed_calm s;
      there = h.there;
      rest = record { prepared = h.rest.prepared; owed = h.rest.owed };
      copies = h.copies;
    }

calmed_known : (s : CoreState) (who : Doer) (place : Place) (op : Option Op) → IsKnown s who place op → IsKnown (calmed s) who place op
calmed_known s who place op h = let fits = fits_with (λ m. None) s who op place h.fits in assumption

-- the turn of an operation before slots are emptied
abbrev bare_turn : (s : CoreState) (who : Doer) (place : Place) → Op → CoreTurn
bare_turn s who place op =
    turn_at (birth_for s.birth who) (failed_turn who.actor who.proc op) (op_turn s who.actor who.proc who.slots place.far op)

bare_taken : (s : CoreState) (who : Doer) (place : Place) (op : Op) → IsQuietly s who.actor → IsKnown s who place (Some op) → IsNoMirror op → waiting_with s who place.far (Some op) ≡ None → IsTaken (calmed s) who place (Some op) None (bare_turn s who place op)
bare_taken s who place op quiet h apart is =
    let t : CoreState = calmed s in
    let b : Birth = birth_for s.birth who in
    let free : waits_at b who.proc (waits_born t who.actor who.proc place.far op) ≡ None =
    ap (waits_at b who.proc) (waits_unseen (λ m. None) s who.actor who.proc place.far op) ∙ is in
    let step : IsTaken t who place (Some op) None (turn_at b (failed_turn who.actor who.proc op) (op_turn t who.actor who.proc who.slots place.far op)) =
    step_by t who place (calmed_quiet s who.actor quiet) op apart (calmed_known s who place (Some op) h) b refl free in
    subst (λ (u : CoreTurn). IsTaken t who place (Some op) None (turn_at b (failed_turn who.actor who.proc op) u)) (turn_unseen (λ m. None) s who.actor who.proc who.slots place.far op (no_look op apart)) step

-- What is asked of the turn of a mirror or a look: it empties no slot, so that it is what it is by itself.
record TakesSlots (s : CoreState) (who : Doer) (place : Place) (op : Op) : Type 0 where
  turned : birth_for s.birth who ≡ born → waits_born s who.actor who.proc place.far op ≡ None → IsTurned s who place op (op_turn s who.actor who.proc who.slots place.far op)
  none : (q g : ℕ) → invalidate (op_turn s who.actor who.proc who.slots place.far op).events q g ≡ false
  silent : failed_turn who.actor who.proc op ≡ answers_with answers.Unborn
  no_fork : (child : ℕ) → op ≡ Fork child → ⊥
  slots : EmptiesSlots s (Some op) (op_turn s who.actor who.proc who.slots place.far op)

module _ (s : CoreState) (who : Doer) (place : Place) (op : Op) (quiet : IsQuietly s who.actor) (h : IsKnown s who place (Some op)) (takes : TakesSlots s who place op) where
  abbrev born_turn : CoreTurn
  born_turn = op_turn s who.actor who.proc who.slots place.far op

  abbrev lost_turn : CoreTurn
  lost_turn = failed_turn who.actor who.proc op

  born_same : emptying s who.actor born_turn ≡ born_turn
  born_same = none_emptying s who.actor born_turn takes.none

  lost_same : emptying s who.actor lost_turn ≡ lost_turn
  lost_same = none_emptying s who.actor lost_turn (λ q g. ap (λ (turn : CoreTurn). invalidate turn.events q g) takes.silent)

  slots_step : (birth : Birth) → birth_for s.birth who ≡ birth → waits_at birth who.proc (waits_born s who.actor who.proc place.far op) ≡ None → IsTaken s who place (Some op) None (emptying s who.actor (turn_at birth lost_turn born_turn))
  slots_step born is free =
      subst (IsTaken s who place (Some op) None) (sym born_same)
      (as_taken s who place op born_turn is (own_birth s who place op h is) (takes.turned is free)
      (not_copying (run s born_turn.events) who.actor (next_copies_none (run s born_turn.events) who op place born_turn.whats (other_op op takes.no_fork) (takes.turned is free).next))
      (λ child page same. absurd (takes.no_fork child same)))
  slots_step failed is free = subst (IsTaken s who place (Some op) None) (sym lost_same) (lost_step s who place op h quiet.sound quiet.rest is)
  slots_step birth is free = absurd (cc free)

  slots_kept : (birth : Birth) → waits_at birth who.proc (waits_born s who.actor who.proc place.far op) ≡ None → EmptiesSlots s (Some op) (emptying s who.actor (turn_at birth lost_turn born_turn))
  slots_kept born free = subst (EmptiesSlots s (Some op)) (sym born_same) takes.slots
  slots_kept failed free = subst (EmptiesSlots s (Some op)) (sym (lost_same ∙ takes.silent)) (silent_slots s (Some op) (Done answers.Unborn ∷ []))
  slots_kept birth free = absurd (cc free)

mirror_takes : (s : CoreState) (who : Doer) (place : Place) (mirror proc page : ℕ) → IsQuietly s who.actor → IsKnown s who place (Some (Mirror mirror proc page)) → TakesSlots s who place (Mirror mirror proc page)
mirror_takes s who place mirror proc page quiet h =
    record {
      turned = λ birth free.
          mirror_turned s who place quiet.sound
          (opened (calmed s) who place (calmed_quiet s who.actor quiet) (own_birth s who place (Mirror mirror proc page) h birth tt))
          quiet.rest mirror proc page (h.named mirror proc page refl) (h.range (Mirror mirror proc page) refl).0 h.fits free;
      none = λ q g. mirror_none s who.actor who.proc mirror page q g (s.entry who.proc page);
      silent = refl;
      no_fork = λ child same. cc same;
      slots = mirror_slots s who.actor who.proc mirror proc page;
    }

look_takes : (s : CoreState) (who : Doer) (place : Place) (mirror word : ℕ) → IsQuietly s who.actor → IsKnown s who place (Some (Look mirror word)) → TakesSlots s who place (Look mirror word)
look_takes s who place mirror word quiet h =
    record {
      turned = λ birth free. look_turned s who place quiet.rest mirror word (h.range (Look mirror word) refl).1 h.fits;
      none = λ q g. look_none s who.actor mirror word q g (s.mirrored mirror);
      silent = refl;
      no_fork = λ child same. cc same;
      slots = look_slots s who.actor mirror word;
    }

own_taken : (s : CoreState) (who : Doer) (place : Place) (op : Op) → IsQuietly s who.actor → IsKnown s who place (Some op) → waiting_with s who place.far (Some op) ≡ None → IsTaken s who place (Some op) None (own_turn s who place.far op)
own_taken s who place (Mirror mirror proc page) quiet h is =
    slots_step s who place (Mirror mirror proc page) quiet h (mirror_takes s who place mirror proc page quiet h) (birth_for s.birth who) refl is
own_taken s who place (Look mirror word) quiet h is =
    slots_step s who place (Look mirror word) quiet h (look_takes s who place mirror word quiet h) (birth_for s.birth who) refl is
own_taken s who place op quiet h is =
    emptied_taken s who place op (bare_turn s who place op) (λ m fills. cc fills) quiet.slots (bare_taken s who place op quiet h tt is)

own_slots : (s : CoreState) (who : Doer) (place : Place) (op : Op) → IsQuietly s who.actor → IsKnown s who place (Some op) → waiting_with s who place.far (Some op) ≡ None → EmptiesSlots s (Some op) (own_turn s who place.far op)
own_slots s who place (Mirror mirror proc page) quiet h is =
    slots_kept s who place (Mirror mirror proc page) quiet h (mirror_takes s who place mirror proc page quiet h) (birth_for s.birth who) is
own_slots s who place (Look mirror word) quiet h is =
    slots_kept s who place (Look mirror word) quiet h (look_takes s who place mirror word quiet h) (birth_for s.birth who) is
own_slots s who place op quiet h is =
    emptied_slots s who place op (bare_turn s who place op) (λ m fills. cc fills) quiet.slots (bare_taken s who place op quiet h tt is)

-- ---- with the page tables that it adds and takes out

quiet_tabled : (s t : CoreState) (a : ℕ) → IsButForTables s t → TablesStand t → CopyStands t a → IsQuietly s a → IsQuietly t a
quiet_tabled s t a same stand copies h =
    let x : CoreState = record s { free_table = t.free_table; place = t.place; retired = t.retired } in
    let rest : AtRest x a = record { prepared = h.rest.prepared; owed = h.rest.owed } in
    record {
      sound = sound_tabled s t same h.sound;
      slots = subst (λ (y : CoreState). (m f : ℕ) → y.mirrored m ≡ Some f → m < most_mirrors) (sym same) h.slots;
      there = subst AreCountedThere (sym same) h.there;
      rest = subst (λ (y : CoreState). AtRest y a) (sym same) rest;
      tables = stand;
      copies = copies;
    }

known_tabled : (s t : CoreState) (who : Doer) (place : Place) (op : Option Op) → IsButForTables s t → IsKnown s who place op → IsKnown t who place op
known_tabled s t who place op same h =
    let x : CoreState = record s { free_table = t.free_table; place = t.place; retired = t.retired } in
    let fits : FitsAt x who op place = fits_beside s.mirrored t.free_table t.place t.retired s who op place h.fits in
    let known : IsKnown x who place op = assumption in
    subst (λ (y : CoreState). IsKnown y who place op) (sym same) known

waits_tabled : (s t : CoreState) → IsButForTables s t → (a p far : ℕ) (op : Op) → waits_born t a p far op ≡ waits_born s a p far op
waits_tabled s t same a p far op = ap (λ (y : CoreState). waits_born y a p far op) same

module _ (s : CoreState) (who : Doer) (place : Place) (op : Op) (quiet : IsQuietly s who.actor) (h : IsKnown s who place (Some op)) where
  abbrev a : ℕ
  a = who.actor

  abbrev p : ℕ
  p = who.proc

  abbrev c : ℕ
  c = child_of p (Some op)

  -- what is in the middle of a turn that adds these tables, and takes those out
  record IsBetween (growth : List CoreEvent) : Type 0 where
    grown : Shaped a p c growth
    can : AllCan s growth
    copies : (b : ℕ) → CopyStands s b → CopyStands (run s growth) b
    shrunk : Shrunk (run (run s growth) (own_turn (run s growth) who place.far op).events) a p c (shrinks_for (run s growth) (run (run s growth) (own_turn (run s growth) who place.far op).events) who place.far op)
    taken : IsTaken (run s growth) who place (Some op) None (own_turn (run s growth) who place.far op)
    slots : EmptiesSlots (run s growth) (Some op) (own_turn (run s growth) who place.far op)

  abbrev growth_at : List CoreEvent
  growth_at = grows_at s a (grown_by s a p place.far op)

  -- of a born process, or of a device
  born_between : birth_for s.birth who ≡ born → waits_born s a p place.far op ≡ None → IsBetween growth_at
  born_between birth free =
      let own = own_birth s who place op h birth in
      let may = may_grow s who place quiet.sound op own h.fits free in
      let grown : Shaped a p c growth_at = grown_shaped s a p c (grown_by s a p place.far op) may in
      let can = grown_can s a p c (grown_by s a p place.far op) quiet.sound quiet.tables may in
      let t : CoreState = run s growth_at in
      let same : IsButForTables s t = tables_only s a grown.proc growth_at grown.are in
      let grows = copy_grown s a (grown_by s a p place.far op) quiet.tables can in
      let quiet_t = quiet_tabled s t a same (stand_run s growth_at quiet.tables can) (grows a quiet.copies) quiet in
      let known_t = known_tabled s t who place (Some op) same h in
      let birth_t : birth_for t.birth who ≡ born = ap (λ (y : CoreState). birth_for y.birth who) same ∙ birth in
      let free_t : waits_born t a p place.far op ≡ None = waits_tabled s t same a p place.far op ∙ free in
      let waits_t : waiting_with t who place.far (Some op) ≡ None = rw birth_t free_t in
      let shrunk_t : Shrunk (run t (own_turn t who place.far op).events) a p c (shrinks_by t (run t (own_turn t who place.far op).events) a p place.far op) =
      subst (λ (b : Birth). let u : CoreState = run t (emptying t a (turn_at b (failed_turn a p op) (op_turn t a p who.slots place.far op))).events in Shrunk u a p c (shrinks_by t u a p place.far op)) (sym birth_t)
      (shrunk_by t who place who.slots quiet_t.sound op (own_birth t who place op known_t birth_t) known_t.fits free_t) in
      record {
        grown = grown;
        can = can;
        copies = grows;
        shrunk = unfailed_shrunk (run t (own_turn t who place.far op).events) a p c (shrinks_by t (run t (own_turn t who place.far op).events) a p place.far op) (birth_for t.birth who) shrunk_t;
        taken = own_taken t who place op quiet_t known_t waits_t;
        slots = own_slots t who place op quiet_t known_t waits_t;
      }

  -- of a failed process: it changes no tables
  lost_between : birth_for s.birth who ≡ failed → waiting_with s who place.far (Some op) ≡ None → IsBetween []
  lost_between lost is = record {
    grown = unshaped a p c;
    can = tt;
    copies = λ b copies. copies;
    shrunk = subst (Shrunk (run s (own_turn s who place.far op).events) a p c)
        (sym (ap (unless_failed (shrinks_by s (run s (own_turn s who place.far op).events) a p place.far op)) lost ∙ unless_lost (shrinks_by s (run s (own_turn s who place.far op).events) a p place.far op)))
        (none_shrunk (run s (own_turn s who place.far op).events) a p c);
    taken = own_taken s who place op quiet h is;
    slots = own_slots s who place op quiet h is;
  }

  between_by : (birth : Birth) → birth_for s.birth who ≡ birth → waits_at birth p (waits_born s a p place.far op) ≡ None → waiting_with s who place.far (Some op) ≡ None → IsBetween (unless_failed growth_at birth)
  between_by born is free whole = subst IsBetween (sym (unless_born growth_at)) (born_between is free)
  between_by failed is free whole = subst IsBetween (sym (unless_lost growth_at)) (lost_between is whole)
  between_by birth is free whole = absurd (cc free)

  between : waiting_with s who place.far (Some op) ≡ None → IsBetween (grows_for s who place.far op)
  between is = between_by (birth_for s.birth who) refl is is

op_taken : (s : CoreState) (who : Doer) (place : Place) (op : Op) → IsQuietly s who.actor → IsKnown s who place (Some op) → waiting_with s who place.far (Some op) ≡ None → IsTaken s who place (Some op) None (core_turn_by s who place.far (Some op) None)
op_taken s who place op quiet h is =
    let growth : List CoreEvent = grows_for s who place.far op in
    let at = between s who place op quiet h is in
    let t : CoreState = run s growth in
    let turn : CoreTurn = own_turn t who place.far op in
    tabled_taken s who place op growth turn (shrinks_for t (run t turn.events) who place.far op) at.grown at.shrunk.shaped at.can at.shrunk.can
    (λ copies. ap (λ (es : List CoreEvent). unless_failed es (birth_for t.birth who)) (none_goes t (run t turn.events) who op place.far place turn.whats at.taken.next copies)) at.taken

op_slots : (s : CoreState) (who : Doer) (place : Place) (op : Op) → IsQuietly s who.actor → IsKnown s who place (Some op) → waiting_with s who place.far (Some op) ≡ None → EmptiesSlots s (Some op) (core_turn_by s who place.far (Some op) None)
op_slots s who place op quiet h is =
    let growth : List CoreEvent = grows_for s who place.far op in
    let at = between s who place op quiet h is in
    let t : CoreState = run s growth in
    let turn : CoreTurn = own_turn t who place.far op in
    tabled_slots s who place op growth turn (shrinks_for t (run t turn.events) who place.far op) at.grown at.shrunk.shaped at.slots

take : (s : CoreState) (who : Doer) (place : Place) (op : Option Op) (waiting : Option Waiting) → IsQuietly s who.actor → IsKnown s who place op → waiting_with s who place.far op ≡ waiting → IsTaken s who place op waiting (core_turn_by s who place.far op waiting)
take s who place None waiting quiet h is =
    record {
      done = record { kinds = tt; can = tt; rest = quiet.rest; told = refl };
      shape = idles waiting (place_in s who.actor);
      next = h.fits;
      pin = λ o none free birth. absurd (cc none);
      copies = quiet.copies;
      emptied = λ child page none. absurd (cc none);
    }
take s who place (Some op) (Some waiting) quiet h is =
    record {
      done = record { kinds = tt; can = tt; rest = quiet.rest; told = refl };
      shape = waits op waiting (place_in s who.actor);
      next = h.fits;
      pin = λ o same free birth. absurd (cc free);
      copies = quiet.copies;
      emptied = λ child page same lost. h.emptied child page lost;
    }
take s who place (Some op) None quiet h is = op_taken s who place op quiet h is

-- and what it leaves of slots
take_slots : (s : CoreState) (who : Doer) (place : Place) (op : Option Op) (waiting : Option Waiting) → IsQuietly s who.actor → IsKnown s who place op → waiting_with s who place.far op ≡ waiting → EmptiesSlots s op (core_turn_by s who place.far op waiting)
take_slots s who place None waiting quiet h is = silent_slots s None (Idle ∷ [])
take_slots s who place (Some op) (Some waiting) quiet h is = silent_slots s (Some op) (Wait waiting ∷ [])
take_slots s who place (Some op) None quiet h is = op_slots s who place op quiet h is

-- what is known of the turn of an actor
is_quietly : (script : ScriptValue) (r : RunState) → Stands script r → (a : ℕ) → IsQuietly r.core a
is_quietly script r h a = record { sound = h.sound; slots = h.slots; there = h.there; rest = h.rest a; tables = h.tables; copies = h.copies a }

is_known : (script : ScriptValue) → IsScript script → (r : RunState) → Stands script r → (a : ℕ) → IsKnown r.core (doer_of script a (op_in script r a)) (r.places a) (op_in script r a)
is_known script valid r h a =
    let k : ℕ = (r.places a).answered in
    record {
      range = op_is_op script valid a k;
      thread = λ o is own. subst (λ (x : Option Op). (doer_of script a x).of_process ≡ true) (sym is) (has_own_process script valid a k o is (of_no_device o own));
      unlike_device = λ o is own. may_be_unborn (actor_at script a) o (op_fits_kind script valid a k o is) (subst (λ (x : Option Op). (doer_of script a x).of_process ≡ true) is own);
      named = λ mirror proc page is. ap (λ (x : Option Op). (doer_of script a x).proc) is;
      slots = few_slots script valid a;
      ungot = λ o is handle makes. (h.yet_unmade a k handle (o, is, makes) (omega arith)).1;
      fits = h.fits a;
      begun = h.begun a;
      fresh = h.fresh a;
      emptied = h.emptied;
    }

-- the turn of an actor
pub taken : (script : ScriptValue) → IsScript script → (r : RunState) → Stands script r → (a : ℕ) → IsTaken r.core (doer_of script a (op_in script r a)) (r.places a) (op_in script r a) (waiting_in script r a) (core_turn_in script r a)
taken script valid r h a =
    take r.core (doer_of script a (op_in script r a)) (r.places a) (op_in script r a) (waiting_in script r a)
    (is_quietly script r h a) (is_known script valid r h a) refl

pub slots_left : (script : ScriptValue) → IsScript script → (r : RunState) → Stands script r → (a : ℕ) → EmptiesSlots r.core (op_in script r a) (core_turn_in script r a)
slots_left script valid r h a =
    take_slots r.core (doer_of script a (op_in script r a)) (r.places a) (op_in script r a) (waiting_in script r a)
    (is_quietly script r h a) (is_known script valid r h a) refl

-- ---- the turn of an actor but for page tables

abbrev pub own_in : ScriptValue → RunState → ℕ → CoreTurn
own_in script r a =
    own_by r.core (doer_of script a (op_in script r a)) (r.places a).far (op_in script r a) (waiting_in script r a)

own_take : (s : CoreState) (who : Doer) (place : Place) (op : Option Op) (waiting : Option Waiting) → IsQuietly s who.actor → IsKnown s who place op → waiting_with s who place.far op ≡ waiting → IsTaken s who place op waiting (own_by s who place.far op waiting)
own_take s who place None waiting quiet h is = take s who place None waiting quiet h is
own_take s who place (Some op) (Some waiting) quiet h is = take s who place (Some op) (Some waiting) quiet h is
own_take s who place (Some op) None quiet h is = own_taken s who place op quiet h is

pub own_taken_in : (script : ScriptValue) → IsScript script → (r : RunState) → Stands script r → (a : ℕ) → IsTaken r.core (doer_of script a (op_in script r a)) (r.places a) (op_in script r a) (waiting_in script r a) (own_in script r a)
own_taken_in script valid r h a =
    own_take r.core (doer_of script a (op_in script r a)) (r.places a) (op_in script r a) (waiting_in script r a)
    (is_quietly script r h a) (is_known script valid r h a) refl

-- A state in which the turn is the operation's own, but for tables: with other tables than before the turn, and with what that leads to.
pub record IsMiddle (s t : CoreState) (who : Doer) (far : ℕ) (op : Option Op) (waiting : Option Waiting) : Type 0 where
  pub before : IsButForTables s t
  pub stand : TablesStand t
  pub copies : (b : ℕ) → CopyStands s b → CopyStands t b
  pub whats : (core_turn_by s who far op waiting).whats ≡ (own_by t who far op waiting).whats
  pub after : IsButForTables (run t (own_by t who far op waiting).events) (run s (core_turn_by s who far op waiting).events)
  pub left : (frame : Option ℕ) (noted : Option Noted) → left_in (core_turn_by s who far op waiting).events frame noted ≡ left_in (own_by t who far op waiting).events frame noted

pub record Middle (s : CoreState) (who : Doer) (far : ℕ) (op : Option Op) (waiting : Option Waiting) : Type 0 where
  pub state : CoreState
  pub is : IsMiddle s state who far op waiting

same_middle : (s : CoreState) (who : Doer) (far : ℕ) (op : Option Op) (waiting : Option Waiting) → TablesStand s → core_turn_by s who far op waiting ≡ own_by s who far op waiting → Middle s who far op waiting
same_middle s who far op waiting stand same =
    record {
      state = s;
      is = record {
        before = refl;
        stand = stand;
        copies = λ b copies. copies;
        whats = ap (λ (turn : CoreTurn). turn.whats) same;
        after = subst (λ (turn : CoreTurn). IsButForTables (run s turn.events) (run s (core_turn_by s who far op waiting).events)) same refl;
        left = λ frame noted. ap (λ (turn : CoreTurn). left_in turn.events frame noted) same;
      };
    }

middle_by : (s : CoreState) (who : Doer) (place : Place) (op : Option Op) (waiting : Option Waiting) → IsQuietly s who.actor → IsKnown s who place op → waiting_with s who place.far op ≡ waiting → Middle s who place.far op waiting
middle_by s who place None waiting quiet h is = same_middle s who place.far None waiting quiet.tables refl
middle_by s who place (Some op) (Some waiting) quiet h is = same_middle s who place.far (Some op) (Some waiting) quiet.tables refl
middle_by s who place (Some op) None quiet h is =
    let growth : List CoreEvent = grows_for s who place.far op in
    let at = between s who place op quiet h is in
    let t : CoreState = run s growth in
    let turn : CoreTurn = own_turn t who place.far op in
    let shrinks : List CoreEvent = shrinks_for t (run t turn.events) who place.far op in
    record {
      state = t;
      is = record {
        before = same_first s who.actor at.grown.proc at.shrunk.shaped.proc growth turn shrinks at.grown.are at.shrunk.shaped.are;
        stand = stand_run s growth quiet.tables at.can;
        copies = at.copies;
        whats = refl;
        after = same_last s who.actor at.grown.proc at.shrunk.shaped.proc growth turn shrinks at.grown.are at.shrunk.shaped.are;
        left = left_alike s who.actor at.grown.proc at.shrunk.shaped.proc growth turn shrinks at.grown.are at.shrunk.shaped.are;
      };
    }

pub middle_in : (script : ScriptValue) → IsScript script → (r : RunState) → Stands script r → (a : ℕ) → Middle r.core (doer_of script a (op_in script r a)) (r.places a).far (op_in script r a) (waiting_in script r a)
middle_in script valid r h a =
    middle_by r.core (doer_of script a (op_in script r a)) (r.places a) (op_in script r a) (waiting_in script r a)
    (is_quietly script r h a) (is_known script valid r h a) refl

-- whoever waits for something waits for the same whatever tables there are
pub same_waiting : (script : ScriptValue) (r : RunState) (t : CoreState) (a : ℕ) → IsButForTables r.core t → waiting_in script (record r { core = t }) a ≡ waiting_in script r a
same_waiting script r t a same = ap (λ (x : CoreState). waiting_in script (record r { core = x }) a) same

-- and what stands between two turns stands
pub stands_tabled : (script : ScriptValue) (r : RunState) (t : CoreState) → IsButForTables r.core t → TablesStand t → ((a : ℕ) → CopyStands t a) → Stands script r → Stands script (record r { core = t })
stands_tabled script r t same stand copies h =
    let s : CoreState = r.core in
    let x : CoreState = record s { free_table = t.free_table; place = t.place; retired = t.retired } in
    let q : RunState = record r { core = x } in
    let v : View = h.sound.0 in
    let sound_by : IsSoundBy v x = (let all = h.sound.1 in assumption) in
    let sound : IsSound x = (v, sound_by) in
    let tables : TablesStand x = stand in
    let copied : (a : ℕ) → CopyStands x a = λ a. subst (λ (y : CoreState). CopyStands y a) same (copies a) in
    let rest : (a : ℕ) → AtRest x a = λ a. let at = h.rest a in record { prepared = at.prepared; owed = at.owed } in
    let few : IsFew (length script.processes) x = (let now = h.few in record { mapped = now.mapped; pages = now.pages; forked = now.forked }) in
    let fits : (a : ℕ) → FitsAt x (doer_of script a (op_in script r a)) (op_in script r a) (r.places a) =
    λ a. fits_beside s.mirrored t.free_table t.place t.retired s (doer_of script a (op_in script r a)) (op_in script r a) (r.places a) (h.fits a) in
    let now : Stands script q = assumption in
    subst (λ (y : CoreState). Stands script (record r { core = y })) (sym same) now
