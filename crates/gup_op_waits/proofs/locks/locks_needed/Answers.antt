use Rattle.std.proofs.Common.{sym, ap, ◌∙◌}
use Rattle.gup_space.specs.Space.{space_of}
use Rattle.gup_spec_turns.specs.Waits.{both_if}
use Rattle.gup_op_base.specs.Jobs.{place_of}
use Rattle.gup_op_waits.proofs.Waits.{single, forks_into, single_needs, forked_needs, moved_needs, pinned_needs}
use Rattle.gup_op_waits.proofs.locks.locks_needed.Goals as goal

pub returns-in-Some : goal.returns-in-Some
returns-in-Some c s a far spaces fits place at =
    let child = c.in-Some.child in
    let space = c.space_at.result.now in
    c.fork_locks.ensures
    ∙ forked_needs (space_of space) s a c.args.proc child far (place_of c.args.place) c.args.op.now (forks_into c.args.op.now child (sym c.child_of.ensures ∙ c.in-Some.is))
    (spaces child space c.space_at.ensures) place at

pub returns : goal.returns
returns c s a far spaces fits place at =
    let space = c.space_at-2.result.now in
    c.both.ensures
    ∙ ap both_if c.needs_table.ensures
    ∙ single_needs (space_of space) s a c.args.proc far c.args.op.now (spaces c.args.proc space c.space_at-2.ensures) (single c.args.op.now (sym c.child_of.ensures ∙ c.in_default.is) c.in_default-op.not-Move c.in_default-op-2.not-Pin)

pub returns-in-Move : goal.returns-in-Move
returns-in-Move c s a far spaces fits place at =
    let move = c.in-Move in
    c.move_locks.ensures ∙ moved_needs s a c.args.proc far move.proc move.page move.zone (place_of c.args.place) c.args.op.now move.is place at

pub returns-in-Pin : goal.returns-in-Pin
returns-in-Pin c s a far spaces fits place at =
    let pin = c.in-Pin in
    c.pin_locks.ensures ∙ pinned_needs s a c.args.proc far c.args.far pin.handle pin.page pin.n pin.want pin.fast (place_of c.args.place) c.args.op.now pin.is fits place
