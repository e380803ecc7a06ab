use Rattle.std.proofs.Common.{◌≡◌, ℕ, ◌+◌, false, length, slice_get, Some, sym, ap, ◌∙◌, subst, arith}
use Rattle.gup_script.specs.declared.op.Op.{Op}
use Rattle.gup_script.specs.declared.op.Op.TheVariants.{Fork}
use Rattle.gup_spec_journal.specs.Follows.{notes_of_turn}
use Rattle.gup_op_base.specs.Jobs.{place_of}
use Rattle.gup_op_base.specs.Said.{whats_of}
use Rattle.gup_op_base.specs.declared.jobs.JobPlace.{JobPlace}
use Rattle.gup_op_pins.specs.Held.{slots_in}
use Rattle.gup_op_waits.proofs.ScriptSlots.{some_is}
use Rattle.gup_op_waits.specs.Doers.{HasProcess}
use Rattle.gup_law_waits.specs.Woken.{wakes}
use Rattle.gup_frames.specs.Frames.{frames_of}
use Rattle.gup_core.specs.declared.outcome.Woken.TheVariants.{Nobody}
use Rattle.gup_op_turns.specs.Copies.{copied}
use Rattle.gup_op_turns.specs.Goes.{IsForkReady, KeepsSlots}
use Rattle.gup_core.specs.Going.{CanGo, WritesTurn, MayWakeOf}
use Rattle.gup_core.specs.Machine.{MachineValue, machine_of, TakesTurns}
use Rattle.gup_core.specs.Rest.{IsAtRest}
use Rattle.gup_op_waits.specs.Seats.{seat_behind}
use Rattle.gup_core.proofs.Advancing.{goes_so, wakes_so}
use Rattle.gup_core.proofs.Ready.{still_parts, process_within, few}
use Rattle.gup_op_turns.proofs.Refusing.{of_born}
use Rattle.gup_core.proofs.Taking.{still_machine, goes}
use Rattle.gup_op_turns.proofs.CopyWhole.{copy_whole, copy_mirrors_whole}
use Rattle.gup_op_turns.proofs.Turning.{IsTurnAmong, with_mirrors}
use Rattle.gup_tables.specs.Pool.{pool_of}
use Rattle.gup_op_turns.proofs.SlotTurns.{copied_mirrors}
use Rattle.gup_notify.specs.Mirrors.{mirrors_of}
use Rattle.gup_core.proofs.WordTurns.{copy_unfailed, is_free}
use Rattle.gup_core.proofs.inner.Inner.copies_word.Goals as goal

pub overflow_add-head : goal.overflow_add-head
overflow_add-head c =
    let i = c.self.inside in
    let a = c.args.actor in
    let m = machine_of i.script i.parts i.mirrors i.seats.items i.pool i.turns in
    let seat = c.seat-seat.result in
    let rest = subst (λ (x : MachineValue). IsAtRest x) (sym c.self.view_is) c.rests.ensures in
    let here = subst (λ (x : MachineValue). slice_get x.seats a ≡ Some seat) (sym c.self.view_is) c.seat-seat.ensures in
    let below = few m a seat rest here in
    omega arith

pub take_copy-requires-clause-there : goal.take_copy-requires-clause-there
take_copy-requires-clause-there c =
    let i = c.self.inside in
    let a = c.args.actor in
    let m = machine_of i.script i.parts i.mirrors i.seats.items i.pool i.turns in
    let seat = c.seat-seat.result in
    let rest = subst (λ (x : MachineValue). IsAtRest x) (sym c.self.view_is) c.rests.ensures in
    let here = subst (λ (x : MachineValue). slice_get x.seats a ≡ Some seat) (sym c.self.view_is) c.seat-seat.ensures in
    let proc = c.process-proc.result in
    let op = c.in-Some.op.now in
    let copy = c.in-Some-copy_at.copy in
    let is = c.in-Some-copy_at.ensures in
    let present = sym (ap (λ ops. slice_get ops seat.answered) c.ops.ensures) ∙ c.in-Some.ensures in
    let free = is_free m a proc seat op copy c.reached_states_stand.ensures c.self.invariant rest c.process-proc.ensures here present is in
    free.turn.there (subst HasProcess (sym is.is_fork) tt)

pub take_copy-requires-clause-tidy : goal.take_copy-requires-clause-tidy
take_copy-requires-clause-tidy c = (subst (λ (x : MachineValue). IsAtRest x) (sym c.self.view_is) c.rests.ensures).tidy

pub take_copy-requires-clause-fork : goal.take_copy-requires-clause-fork
take_copy-requires-clause-fork c =
    let i = c.self.inside in
    let a = c.args.actor in
    let m = machine_of i.script i.parts i.mirrors i.seats.items i.pool i.turns in
    let seat = c.seat-seat.result in
    let rest = subst (λ (x : MachineValue). IsAtRest x) (sym c.self.view_is) c.rests.ensures in
    let here = subst (λ (x : MachineValue). slice_get x.seats a ≡ Some seat) (sym c.self.view_is) c.seat-seat.ensures in
    let proc = c.process-proc.result in
    let op = c.in-Some.op.now in
    let copy = c.in-Some-copy_at.copy in
    let is = c.in-Some-copy_at.ensures in
    let present = sym (ap (λ ops. slice_get ops seat.answered) c.ops.ensures) ∙ c.in-Some.ensures in
    let free = is_free m a proc seat op copy c.reached_states_stand.ensures c.self.invariant rest c.process-proc.ensures here present is in
    subst (λ (job : JobPlace). IsForkReady (frames_of i.parts.frames) i.parts.spaces.items i.parts.births.items a copy.proc copy.child job) is.stands
    (free.turn.fork copy.child is.is_fork)

turn-taken : (c : goal.After-self-1) → TakesTurns (machine_of c.self.inside.script c.self.inside.parts c.self.inside.mirrors c.self.inside.seats.items c.self.inside.pool c.self.inside.turns)
    (machine_of c.self.inside.script c.take_copy.new.parts c.self.inside.mirrors c.set_seat.new.seats.items c.self.inside.pool c.next_turn-turn.result) c.args.actor
    (notes_of_turn c.next_turn-turn.result c.args.actor (c.seat-seat.result.answered + 1) (whats_of c.take_copy.ensures.turn.said))
turn-taken c =
    let i = c.self.inside in
    let a = c.args.actor in
    let m = machine_of i.script i.parts i.mirrors i.seats.items i.pool i.turns in
    let seat = c.seat-seat.result in
    let rest = subst (λ (x : MachineValue). IsAtRest x) (sym c.self.view_is) c.rests.ensures in
    let here = subst (λ (x : MachineValue). slice_get x.seats a ≡ Some seat) (sym c.self.view_is) c.seat-seat.ensures in
    let proc = c.process-proc.result in
    let op = c.in-Some.op.now in
    let copy = c.in-Some-copy_at.copy in
    let is = c.in-Some-copy_at.ensures in
    let present = sym (ap (λ ops. slice_get ops seat.answered) c.ops.ensures) ∙ c.in-Some.ensures in
    let free = is_free m a proc seat op copy c.reached_states_stand.ensures c.self.invariant rest c.process-proc.ensures here present is in
    let told = c.take_copy.ensures.turn in
    let whats = whats_of told.said in
    let new = c.take_copy.new.parts in
    let unfailed = copy_unfailed i.parts.births.items proc seat.job op copy is in
    let born = (process_within m a proc seat op rest c.process-proc.ensures present).1 in
    goes m a proc seat c.seat_after-next.result op new i.mirrors c.set_seat.new.seats.items i.pool c.next_turn-turn.result told.said (copied copy)
    c.reached_states_stand.ensures c.turns_empty_slots.ensures rest c.process-proc.ensures here present c.next_turn-turn.ensures free.ready
    (c.seat_after-next.ensures ∙ ap (λ (o : Op). seat_behind seat o false (copied copy)) (sym is.is_fork) ∙ ap (λ b. seat_behind seat op b (copied copy)) told.ends)
    c.set_seat.ensures.here c.set_seat.ensures.others
    (copy_whole (mirrors_of i.mirrors) i.parts new (pool_of i.pool) a proc seat.far op seat.job copy whats (copied copy) unfailed born is
    (with_mirrors (mirrors_of i.mirrors) i.parts new a proc seat.far op seat.job whats (copied copy)
    (of_born i.parts new a proc seat.far op seat.job (copied copy) whats unfailed born
    (λ p slots of_p has.
    subst (λ (q : ℕ). IsTurnAmong i.parts new a q slots seat.far op seat.job whats (copied copy)) (some_is proc copy.proc p is.proc_is of_p)
    (subst (λ (o : Op). IsTurnAmong i.parts new a copy.proc slots seat.far o seat.job whats (copied copy)) (sym is.is_fork)
    (subst (λ (job : JobPlace). IsTurnAmong i.parts new a copy.proc slots seat.far (Fork copy.child) job whats (copied copy)) (sym is.stands) (λ k others left far_is. told.is_so slots k others left)))))))
    (copy_mirrors_whole i.parts (pool_of i.pool) a proc seat.far op seat.job copy (mirrors_of i.mirrors) unfailed born is
    (copied_mirrors i.parts a proc seat.far op seat.job copy (mirrors_of i.mirrors) unfailed born is))

pub invariant_of-self : goal.invariant_of-self
invariant_of-self c =
    let i = c.self.inside in
    let took = c.take_copy.ensures in
    let kept : KeepsSlots i.parts.stores.items c.take_copy.new.parts.stores.items =
    λ b was now was_is now_is.
    let same : Some now ≡ Some was = sym now_is ∙ ap (λ stores. slice_get stores.items b) took.stores ∙ was_is in
    ap slots_in (cc same) in
    still_machine (machine_of i.script i.parts i.mirrors i.seats.items i.pool i.turns) (machine_of i.script c.take_copy.new.parts i.mirrors c.set_seat.new.seats.items i.pool c.next_turn-turn.result) c.args.actor
    (notes_of_turn c.next_turn-turn.result c.args.actor (c.seat-seat.result.answered + 1) (whats_of took.turn.said))
    c.self.invariant
    (still_parts i.script i.parts c.take_copy.new.parts c.self.invariant.parts (ap (λ spaces. length spaces.items) took.spaces) took.births
    (ap (λ taken. length taken.items) took.taken) (ap (λ stores. length stores.items) took.stores) kept)
    (c.set_seat.ensures.many ∙ c.self.invariant.seats) c.self.invariant.tables (turn-taken c)

pub returns-clause-advances : goal.returns-clause-advances
returns-clause-advances c moved =
    let i = c.self.inside in
    let a = c.args.actor in
    let m = machine_of i.script i.parts i.mirrors i.seats.items i.pool i.turns in
    let seat = c.seat-seat.result in
    let rest = subst (λ (x : MachineValue). IsAtRest x) (sym c.self.view_is) c.rests.ensures in
    let here = subst (λ (x : MachineValue). slice_get x.seats a ≡ Some seat) (sym c.self.view_is) c.seat-seat.ensures in
    let proc = c.process-proc.result in
    let op = c.in-Some.op.now in
    let copy = c.in-Some-copy_at.copy in
    let is = c.in-Some-copy_at.ensures in
    let present = sym (ap (λ ops. slice_get ops seat.answered) c.ops.ensures) ∙ c.in-Some.ensures in
    let free = is_free m a proc seat op copy c.reached_states_stand.ensures c.self.invariant rest c.process-proc.ensures here present is in
    let n = machine_of i.script c.take_copy.new.parts i.mirrors c.set_seat.new.seats.items i.pool c.next_turn-turn.result in
    let told = c.take_copy.ensures.turn in
    let notes = notes_of_turn c.next_turn-turn.result a (seat.answered + 1) (whats_of told.said) in
    let taken = turn-taken c in (
      subst (λ (x : MachineValue). CanGo x a) c.self.view_is (goes_so m a seat op here present free.ready),
      subst (λ (x : MachineValue). WritesTurn x n c.args.journal.now c.take_copy.new.journal a) c.self.view_is (λ r h. (notes, told.tells.notes, taken r h)),
      subst (λ (x : MachineValue). MayWakeOf x a Nobody) c.self.view_is
          (wakes_so m n a seat c.seat_after-next.result op false (copied copy) notes Nobody here present
          (c.seat_after-next.ensures ∙ ap (λ (o : Op). seat_behind seat o false (copied copy)) (sym is.is_fork)) c.set_seat.ensures.here taken
          (ap (λ (o : Op). wakes (Some o) (place_of (copied copy))) (sym is.is_fork))),
    )
