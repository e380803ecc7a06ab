use Rattle.std.proofs.Common.{◌≡◌, ℕ, ◌+◌, Bool, Some, None, List, get_or, slice_get, slice_set, refl, sym, ap, ◌∙◌, subst, arith}
use Rattle.std.proofs.lemmas.Option.{slice_get_within}
use Rattle.gup_law_turns.proofs.ScriptLemmas.{op_is_op}
use Rattle.gup_op_base.specs.Said.{whats_of}
use Rattle.gup_spec_journal.specs.Follows.{notes_of_turn}
use Rattle.gup_core.specs.Machine.{MachineValue, machine_of, TakesTurns}
use Rattle.gup_core.specs.Going.{CanGo, WaitsFor, WritesTurn, MayWakeOf}
use Rattle.gup_op_turns.specs.Goes.{IsReady, IsFrom, TakesMirrors}
use Rattle.gup_core.specs.Rest.{IsAtRest}
use Rattle.gup_op_waits.specs.Seats.{seat_behind}
use Rattle.gup_op_waits.specs.declared.seats.Seat.{Seat}
use Rattle.gup_op_tables.proofs.Replaced.{was_there, now_there, other_there}
use Rattle.gup_op_turns.proofs.Parting.{set_length}
use Rattle.gup_op_turns.proofs.Turning.{IsTurnWhole}
use Rattle.gup_core.proofs.From.{is_from}
use Rattle.gup_tables.specs.Pool.{pool_of}
use Rattle.gup_notify.specs.Mirrors.{mirrors_of}
use Rattle.gup_core.proofs.Ready.{is_ready, still_parts, process_found_so, process_within, child_within, few}
use Rattle.gup_core.proofs.Advancing.{goes_so, few_more, wakes_so}
use Rattle.gup_core.proofs.Taking.{still_machine, waiting_is, goes, IsWaiting}
use Rattle.gup_core.proofs.inner.Inner.go_any.Goals as goal

pub waits_at-requires-clause-there : goal.waits_at-requires-clause-there
waits_at-requires-clause-there c =
    let i = c.self.inside in
    let a = c.args.actor in
    let m = machine_of i.script i.parts i.mirrors i.seats.items i.pool i.turns in
    let rest = subst (λ (x : MachineValue). IsAtRest x) (sym c.self.view_is) c.rests.ensures in
    let op = sym (ap (λ ops. slice_get ops c.seat-seat.result.answered) c.ops.ensures) ∙ c.in-Some.ensures in
    process_found_so m a c.process.result c.seat-seat.result c.in-Some.op.now rest c.process.ensures op

pub waits_at-requires-clause-space : goal.waits_at-requires-clause-space
waits_at-requires-clause-space c =
    let i = c.self.inside in
    let a = c.args.actor in
    let m = machine_of i.script i.parts i.mirrors i.seats.items i.pool i.turns in
    let rest = subst (λ (x : MachineValue). IsAtRest x) (sym c.self.view_is) c.rests.ensures in
    let op = sym (ap (λ ops. slice_get ops c.seat-seat.result.answered) c.ops.ensures) ∙ c.in-Some.ensures in
    (process_within m a c.process.result c.seat-seat.result c.in-Some.op.now rest c.process.ensures op).0

pub waits_at-requires-clause-birth : goal.waits_at-requires-clause-birth
waits_at-requires-clause-birth c =
    let i = c.self.inside in
    let a = c.args.actor in
    let m = machine_of i.script i.parts i.mirrors i.seats.items i.pool i.turns in
    let rest = subst (λ (x : MachineValue). IsAtRest x) (sym c.self.view_is) c.rests.ensures in
    let op = sym (ap (λ ops. slice_get ops c.seat-seat.result.answered) c.ops.ensures) ∙ c.in-Some.ensures in
    (process_within m a c.process.result c.seat-seat.result c.in-Some.op.now rest c.process.ensures op).1

pub waits_at-requires-clause-child : goal.waits_at-requires-clause-child
waits_at-requires-clause-child c child same =
    let i = c.self.inside in
    let a = c.args.actor in
    let m = machine_of i.script i.parts i.mirrors i.seats.items i.pool i.turns in
    let rest = subst (λ (x : MachineValue). IsAtRest x) (sym c.self.view_is) c.rests.ensures in
    let op = sym (ap (λ ops. slice_get ops c.seat-seat.result.answered) c.ops.ensures) ∙ c.in-Some.ensures in
    (child_within m a child c.seat-seat.result c.in-Some.op.now rest op same).0

pub take_turn-over-requires-clause-process : goal.take_turn-over-requires-clause-process
take_turn-over-requires-clause-process c =
    let i = c.self.inside in
    let a = c.args.actor in
    let m = machine_of i.script i.parts i.mirrors i.seats.items i.pool i.turns in
    let rest = subst (λ (x : MachineValue). IsAtRest x) (sym c.self.view_is) c.rests.ensures in
    let op = sym (ap (λ ops. slice_get ops c.seat-seat.result.answered) c.ops.ensures) ∙ c.in-Some.ensures in
    process_found_so m a c.process-proc.result c.seat-seat.result c.in-Some.op.now rest c.process-proc.ensures op

pub take_turn-over-requires-clause-space : goal.take_turn-over-requires-clause-space
take_turn-over-requires-clause-space c =
    let i = c.self.inside in
    let a = c.args.actor in
    let m = machine_of i.script i.parts i.mirrors i.seats.items i.pool i.turns in
    let rest = subst (λ (x : MachineValue). IsAtRest x) (sym c.self.view_is) c.rests.ensures in
    let op = sym (ap (λ ops. slice_get ops c.seat-seat.result.answered) c.ops.ensures) ∙ c.in-Some.ensures in
    (process_within m a c.process-proc.result c.seat-seat.result c.in-Some.op.now rest c.process-proc.ensures op).0

pub take_turn-over-requires-clause-there : goal.take_turn-over-requires-clause-there
take_turn-over-requires-clause-there c = (subst (λ (x : MachineValue). IsAtRest x) (sym c.self.view_is) c.rests.ensures).mirrored

pub take_turn-over-requires-clause-birth : goal.take_turn-over-requires-clause-birth
take_turn-over-requires-clause-birth c =
    let i = c.self.inside in
    let a = c.args.actor in
    let m = machine_of i.script i.parts i.mirrors i.seats.items i.pool i.turns in
    let rest = subst (λ (x : MachineValue). IsAtRest x) (sym c.self.view_is) c.rests.ensures in
    let op = sym (ap (λ ops. slice_get ops c.seat-seat.result.answered) c.ops.ensures) ∙ c.in-Some.ensures in
    (process_within m a c.process-proc.result c.seat-seat.result c.in-Some.op.now rest c.process-proc.ensures op).1

pub take_turn-over-requires-clause-child : goal.take_turn-over-requires-clause-child
take_turn-over-requires-clause-child c child same =
    let i = c.self.inside in
    let a = c.args.actor in
    let m = machine_of i.script i.parts i.mirrors i.seats.items i.pool i.turns in
    let rest = subst (λ (x : MachineValue). IsAtRest x) (sym c.self.view_is) c.rests.ensures in
    let op = sym (ap (λ ops. slice_get ops c.seat-seat.result.answered) c.ops.ensures) ∙ c.in-Some.ensures in
    let within = child_within m a child c.seat-seat.result c.in-Some.op.now rest op same in
    (within.1, within.0)

-- the seat that is lent is the one that was read
lent_seat : (seats : List Seat) (i a : ℕ) (lent seat : Seat) → lent ≡ get_or seats i lent → i ≡ a → slice_get seats a ≡ Some seat → lent ≡ seat
lent_seat seats i a lent seat is same here =
    let there : Some lent ≡ Some seat = sym (was_there seats i a lent is same (slice_get_within seats a seat here)) ∙ here in
    cc

pub take_turn-over-requires-clause-ready : goal.take_turn-over-requires-clause-ready
take_turn-over-requires-clause-ready c p unfailed of_p =
    let i = c.self.inside in
    let a = c.args.actor in
    let m = machine_of i.script i.parts i.mirrors i.seats.items i.pool i.turns in
    let rest = subst (λ (x : MachineValue). IsAtRest x) (sym c.self.view_is) c.rests.ensures in
    let here = subst (λ (x : MachineValue). slice_get x.seats a ≡ Some c.seat-seat.result) (sym c.self.view_is) c.seat-seat.ensures in
    let op = sym (ap (λ ops. slice_get ops c.seat-seat.result.answered) c.ops.ensures) ∙ c.in-Some.ensures in
    let known : IsWaiting m a c.process.result c.seat-seat.result c.in-Some.op.now None =
    λ s who far shown actor of_who fits place at. sym c.in_default-waits_at.is ∙ c.waits_at.ensures s who far shown actor of_who fits place at in
    subst (λ (x : Seat). IsReady i.parts a p c.in-Some.op.now c.seat-seat.result.far x.job) (sym (lent_seat i.seats.items c.get.result a c.index_mut-here.result.now c.seat-seat.result c.index_mut-here.ensures.value c.get.ensures.value here))
    (is_ready m a c.process-proc.result c.seat-seat.result c.in-Some.op.now c.reached_states_stand.ensures c.self.invariant rest c.process-proc.ensures here op
    (waiting_is m a c.process.result c.seat-seat.result c.in-Some.op.now None c.reached_states_stand.ensures rest c.process.ensures here op known)
    unfailed p of_p)

pub take_turn-over-requires-clause-from : goal.take_turn-over-requires-clause-from
take_turn-over-requires-clause-from c =
    let i = c.self.inside in
    let a = c.args.actor in
    let m = machine_of i.script i.parts i.mirrors i.seats.items i.pool i.turns in
    let seat = c.seat-seat.result in
    let rest = subst (λ (x : MachineValue). IsAtRest x) (sym c.self.view_is) c.rests.ensures in
    let here = subst (λ (x : MachineValue). slice_get x.seats a ≡ Some seat) (sym c.self.view_is) c.seat-seat.ensures in
    let op = sym (ap (λ ops. slice_get ops seat.answered) c.ops.ensures) ∙ c.in-Some.ensures in
    let known : IsWaiting m a c.process.result seat c.in-Some.op.now None =
    λ s who far shown actor of_who fits place at. sym c.in_default-waits_at.is ∙ c.waits_at.ensures s who far shown actor of_who fits place at in
    subst (λ (x : Seat). IsFrom i.parts (pool_of i.pool) (mirrors_of i.mirrors) a c.process-proc.result seat.far c.in-Some.op.now x.job) (sym (lent_seat i.seats.items c.get.result a c.index_mut-here.result.now seat c.index_mut-here.ensures.value c.get.ensures.value here))
    (is_from m a c.process-proc.result seat c.in-Some.op.now c.reached_states_stand.ensures c.turns_can_happen.ensures.can rest c.self.invariant c.process-proc.ensures here op
    (waiting_is m a c.process.result seat c.in-Some.op.now None c.reached_states_stand.ensures rest c.process.ensures here op known))

pub overflow_add-head : goal.overflow_add-head
overflow_add-head c =
    let i = c.self.inside in
    let a = c.args.actor in
    let m = machine_of i.script i.parts i.mirrors i.seats.items i.pool i.turns in
    let rest = subst (λ (x : MachineValue). IsAtRest x) (sym c.self.view_is) c.rests.ensures in
    let here = subst (λ (x : MachineValue). slice_get x.seats a ≡ Some c.seat-seat.result) (sym c.self.view_is) c.seat-seat.ensures in
    let below = few m a c.seat-seat.result rest here in
    omega arith

pub go_on-requires-clause-few : goal.go_on-requires-clause-few
go_on-requires-clause-few c =
    let i = c.self.inside in
    let a = c.args.actor in
    let m = machine_of i.script i.parts i.mirrors i.seats.items i.pool i.turns in
    let rest = subst (λ (x : MachineValue). IsAtRest x) (sym c.self.view_is) c.rests.ensures in
    let here = subst (λ (x : MachineValue). slice_get x.seats a ≡ Some c.seat-seat.result) (sym c.self.view_is) c.seat-seat.ensures in
    let below = few m a c.seat-seat.result rest here in
    let same = ap (λ (x : Seat). x.answered) (lent_seat i.seats.items c.get.result a c.index_mut-here.result.now c.seat-seat.result c.index_mut-here.ensures.value c.get.ensures.value here) in
    omega (arith, below, same)

pub go_on-requires-clause-op : goal.go_on-requires-clause-op
go_on-requires-clause-op c =
    let i = c.self.inside in
    let a = c.args.actor in
    let m = machine_of i.script i.parts i.mirrors i.seats.items i.pool i.turns in
    let rest = subst (λ (x : MachineValue). IsAtRest x) (sym c.self.view_is) c.rests.ensures in
    let op = sym (ap (λ ops. slice_get ops c.seat-seat.result.answered) c.ops.ensures) ∙ c.in-Some.ensures in
    op_is_op i.script rest.valid a c.seat-seat.result.answered c.in-Some.op.now op

-- it waits
pub returns-in-Some-waits_at-clause-advances : goal.returns-in-Some-waits_at-clause-advances
returns-in-Some-waits_at-clause-advances c =
    let i = c.self.inside in
    let a = c.args.actor in
    let m = machine_of i.script i.parts i.mirrors i.seats.items i.pool i.turns in
    let rest = subst (λ (x : MachineValue). IsAtRest x) (sym c.self.view_is) c.rests.ensures in
    let here = subst (λ (x : MachineValue). slice_get x.seats a ≡ Some c.seat-seat.result) (sym c.self.view_is) c.seat-seat.ensures in
    let op = sym (ap (λ ops. slice_get ops c.seat-seat.result.answered) c.ops.ensures) ∙ c.in-Some.ensures in
    let waiting = c.in-Some-waits_at.waiting in
    let known : IsWaiting m a c.process.result c.seat-seat.result c.in-Some.op.now (Some waiting) =
    λ s who far shown actor of_who fits place at. sym c.in-Some-waits_at.is ∙ c.waits_at.ensures s who far shown actor of_who fits place at in
    let waits = waiting_is m a c.process.result c.seat-seat.result c.in-Some.op.now (Some waiting) c.reached_states_stand.ensures rest c.process.ensures here op known in
    (subst (λ (x : MachineValue). WaitsFor x a waiting) c.self.view_is (λ r h. sym (waits r h)), record { machine = refl; notes = refl; room = omega arith })

-- it goes
turn-taken : (c : goal.After-self-2-1) → TakesTurns (machine_of c.self.inside.script c.self.inside.parts c.self.inside.mirrors c.self.inside.seats.items c.self.inside.pool c.self.inside.turns)
    (machine_of c.self.inside.script c.take_turn-over.new.parts c.take_turn-over.new.mirrors (slice_set c.self.inside.seats.items c.get.result c.go_on.new.seat) c.take_turn-over.new.pool c.next_turn-turn.result) c.args.actor
    (notes_of_turn c.next_turn-turn.result c.args.actor (c.seat-seat.result.answered + 1) (whats_of c.take_turn-over.ensures.turn.said))
turn-taken c =
    let i = c.self.inside in
    let a = c.args.actor in
    let m = machine_of i.script i.parts i.mirrors i.seats.items i.pool i.turns in
    let seat = c.seat-seat.result in
    let job = c.take_turn-over.new.job in
    let rest = subst (λ (x : MachineValue). IsAtRest x) (sym c.self.view_is) c.rests.ensures in
    let here = subst (λ (x : MachineValue). slice_get x.seats a ≡ Some seat) (sym c.self.view_is) c.seat-seat.ensures in
    let op = sym (ap (λ ops. slice_get ops seat.answered) c.ops.ensures) ∙ c.in-Some.ensures in
    let known : IsWaiting m a c.process.result seat c.in-Some.op.now None =
    λ s who far shown actor of_who fits place at. sym c.in_default-waits_at.is ∙ c.waits_at.ensures s who far shown actor of_who fits place at in
    let told = c.take_turn-over.ensures.turn in
    let next = c.go_on.new.seat in
    goes m a c.process-proc.result seat next c.in-Some.op.now c.take_turn-over.new.parts c.take_turn-over.new.mirrors (slice_set i.seats.items c.get.result next) c.take_turn-over.new.pool c.next_turn-turn.result told.said job
    c.reached_states_stand.ensures c.turns_empty_slots.ensures rest c.process-proc.ensures here op c.next_turn-turn.ensures
    (waiting_is m a c.process.result seat c.in-Some.op.now None c.reached_states_stand.ensures rest c.process.ensures here op known)
    (c.go_on.ensures ∙ ap (λ (x : Seat). seat_behind x c.in-Some.op.now c.take_turn-over.result job) (lent_seat i.seats.items c.get.result a c.index_mut-here.result.now seat c.index_mut-here.ensures.value c.get.ensures.value here) ∙ ap (λ (b : Bool). seat_behind seat c.in-Some.op.now b job) told.ends)
    (now_there i.seats.items c.get.result a next c.get.ensures.value (slice_get_within i.seats.items a seat here))
    (λ b other. other_there i.seats.items c.get.result b next (λ same. other (same ∙ c.get.ensures.value)))
    (subst (λ (x : Seat). IsTurnWhole (mirrors_of i.mirrors) i.parts c.take_turn-over.new.parts (pool_of i.pool) (pool_of c.take_turn-over.new.pool) a c.process-proc.result seat.far c.in-Some.op.now x.job (whats_of told.said) job) (lent_seat i.seats.items c.get.result a c.index_mut-here.result.now seat c.index_mut-here.ensures.value c.get.ensures.value here) told.is_so)
    (subst (λ (x : Seat). TakesMirrors i.parts (pool_of i.pool) a c.process-proc.result seat.far c.in-Some.op.now x.job (mirrors_of i.mirrors) (mirrors_of c.take_turn-over.new.mirrors)) (lent_seat i.seats.items c.get.result a c.index_mut-here.result.now seat c.index_mut-here.ensures.value c.get.ensures.value here) c.take_turn-over.ensures.mirrors)

pub invariant_of-self : goal.invariant_of-self
invariant_of-self c =
    let i = c.self.inside in
    let items = slice_set i.seats.items c.get.result c.go_on.new.seat in
    still_machine (machine_of i.script i.parts i.mirrors i.seats.items i.pool i.turns) (machine_of i.script c.take_turn-over.new.parts c.take_turn-over.new.mirrors items c.take_turn-over.new.pool c.next_turn-turn.result) c.args.actor
    (notes_of_turn c.next_turn-turn.result c.args.actor (c.seat-seat.result.answered + 1) (whats_of c.take_turn-over.ensures.turn.said))
    c.self.invariant (still_parts c.self.inside.script c.self.inside.parts c.take_turn-over.new.parts c.self.invariant.parts c.take_turn-over.ensures.spaces c.take_turn-over.ensures.births c.take_turn-over.ensures.taken c.take_turn-over.ensures.stores c.take_turn-over.ensures.slots)
    (set_length i.seats.items c.get.result c.go_on.new.seat ∙ c.self.invariant.seats) (c.take_turn-over.ensures.pool ∙ c.self.invariant.tables) (turn-taken c)

pub returns-clause-advances : goal.returns-clause-advances
returns-clause-advances c =
    let i = c.self.inside in
    let a = c.args.actor in
    let m = machine_of i.script i.parts i.mirrors i.seats.items i.pool i.turns in
    let seat = c.seat-seat.result in
    let job = c.take_turn-over.new.job in
    let next = c.go_on.new.seat in
    let rest = subst (λ (x : MachineValue). IsAtRest x) (sym c.self.view_is) c.rests.ensures in
    let here = subst (λ (x : MachineValue). slice_get x.seats a ≡ Some seat) (sym c.self.view_is) c.seat-seat.ensures in
    let op = sym (ap (λ ops. slice_get ops seat.answered) c.ops.ensures) ∙ c.in-Some.ensures in
    let known : IsWaiting m a c.process.result seat c.in-Some.op.now None =
    λ s who far shown actor of_who fits place at. sym c.in_default-waits_at.is ∙ c.waits_at.ensures s who far shown actor of_who fits place at in
    let ready = waiting_is m a c.process.result seat c.in-Some.op.now None c.reached_states_stand.ensures rest c.process.ensures here op known in
    let n = machine_of i.script c.take_turn-over.new.parts c.take_turn-over.new.mirrors (slice_set i.seats.items c.get.result next) c.take_turn-over.new.pool c.next_turn-turn.result in
    let told = c.take_turn-over.ensures.turn in
    let notes = notes_of_turn c.next_turn-turn.result a (seat.answered + 1) (whats_of told.said) in
    let taken = turn-taken c in (
      subst (λ (x : MachineValue). CanGo x a) c.self.view_is (goes_so m a seat c.in-Some.op.now here op ready),
      subst (λ (x : MachineValue). WritesTurn x n c.args.journal.now c.take_turn-over.new.journal a) c.self.view_is (λ r h. (notes, told.tells.notes, taken r h)),
      subst (λ (x : MachineValue). MayWakeOf x a c.woken_by-woken.result) c.self.view_is
          (wakes_so m n a seat next c.in-Some.op.now c.take_turn-over.result job notes c.woken_by-woken.result here op
          (c.go_on.ensures ∙ ap (λ (x : Seat). seat_behind x c.in-Some.op.now c.take_turn-over.result job) (lent_seat i.seats.items c.get.result a c.index_mut-here.result.now seat c.index_mut-here.ensures.value c.get.ensures.value here))
          (now_there i.seats.items c.get.result a next c.get.ensures.value (slice_get_within i.seats.items a seat here)) taken c.woken_by-woken.ensures),
    )

pub returns-clause-more : goal.returns-clause-more
returns-clause-more c moved =
    let told = c.take_turn-over.ensures.turn in
    few_more c.args.journal.now c.take_turn-over.new.journal c.next_turn-turn.result c.args.actor (c.seat-seat.result.answered + 1) told.said told.tells.notes

pub returns-clause-kept : goal.returns-clause-kept
returns-clause-kept c = c.take_turn-over.ensures.turn.tells.kept
