use Rattle.std.proofs.Common.{◌≡◌, ◌+◌, [], ◌∷◌, Some, slice_get, sym, subst, arith}
use Rattle.gup_spec_journal.specs.Follows.{notes_of_turn}
use Rattle.gup_core.specs.Machine.{MachineValue, machine_of, TakesTurns}
use Rattle.gup_core.specs.Going.{WritesTurn, IsStill}
use Rattle.gup_core.specs.Rest.{IsAtRest}
use Rattle.gup_core.proofs.Ready.{few}
use Rattle.gup_core.proofs.Taking.{still_machine}
use Rattle.gup_core.proofs.Advancing.{still_taken, one_more}
use Rattle.gup_core.proofs.inner.Inner.still.Goals as goal

pub overflow_add-head : goal.overflow_add-head
overflow_add-head c =
    let i = c.self.inside in
    let a = c.args.actor in
    let m = machine_of i.script i.parts i.mirrors i.seats.items i.pool i.turns in
    let rest = subst (λ (x : MachineValue). IsAtRest x) (sym c.self.view_is) c.rests.ensures in
    let here = subst (λ (x : MachineValue). slice_get x.seats a ≡ Some c.seat-seat.result) (sym c.self.view_is) c.seat-seat.ensures in
    let below = few m a c.seat-seat.result rest here in
    omega arith

turn-taken : (c : goal.After-self-1) → TakesTurns (machine_of c.self.inside.script c.self.inside.parts c.self.inside.mirrors c.self.inside.seats.items c.self.inside.pool c.self.inside.turns)
    (machine_of c.self.inside.script c.self.inside.parts c.self.inside.mirrors c.self.inside.seats.items c.self.inside.pool c.next_turn-turn.result) c.args.actor
    (notes_of_turn c.next_turn-turn.result c.args.actor (c.seat-seat.result.answered + 1) (c.args.what ∷ []))
turn-taken c =
    let i = c.self.inside in
    let a = c.args.actor in
    let m = machine_of i.script i.parts i.mirrors i.seats.items i.pool i.turns in
    let here = subst (λ (x : MachineValue). slice_get x.seats a ≡ Some c.seat-seat.result) (sym c.self.view_is) c.seat-seat.ensures in
    let still = subst (λ (x : MachineValue). IsStill x a c.args.what) (sym c.self.view_is) c.requires.still in
    still_taken m a c.seat-seat.result c.next_turn-turn.result c.args.what here c.next_turn-turn.ensures still

pub invariant_of-self : goal.invariant_of-self
invariant_of-self c =
    let i = c.self.inside in
    still_machine (machine_of i.script i.parts i.mirrors i.seats.items i.pool i.turns) (machine_of i.script i.parts i.mirrors i.seats.items i.pool c.next_turn-turn.result) c.args.actor
    (notes_of_turn c.next_turn-turn.result c.args.actor (c.seat-seat.result.answered + 1) (c.args.what ∷ []))
    c.self.invariant c.self.invariant.parts c.self.invariant.seats c.self.invariant.tables (turn-taken c)

pub returns-clause-turn : goal.returns-clause-turn
returns-clause-turn c =
    let i = c.self.inside in
    let a = c.args.actor in
    let n = machine_of i.script i.parts i.mirrors i.seats.items i.pool c.next_turn-turn.result in
    let notes = notes_of_turn c.next_turn-turn.result a (c.seat-seat.result.answered + 1) (c.args.what ∷ []) in
    let taken = turn-taken c in
    subst (λ (x : MachineValue). WritesTurn x n c.args.journal.now c.tell.new.journal a) c.self.view_is (λ r h. (notes, c.tell.ensures.notes, taken r h))

pub returns-clause-more : goal.returns-clause-more
returns-clause-more c =
    one_more c.args.journal.now c.tell.new.journal c.next_turn-turn.result c.args.actor (c.seat-seat.result.answered + 1) c.args.what c.tell.ensures.notes
