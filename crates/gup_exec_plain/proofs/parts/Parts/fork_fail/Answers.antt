use Rattle.std.proofs.Common.{refl, subst}
use Rattle.gup_plain.specs.Event.{IsUnbornOrGrowing}
use Rattle.gup_exec_plain.proofs.Processes.{At, ended_badly}
use Rattle.gup_exec_parts.specs.Space.{SpaceState}
use Rattle.gup_exec_parts.specs.declared.space.Space.{Space}
use Rattle.gup_exec_plain.proofs.parts.Parts.fork_fail.Goals as goal

pub returns-clause-event : goal.returns-clause-event
returns-clause-event c =
    let was : Space = c.index_mut-space.result.now in
    let at : At c.args.self.now c.args.child c.get.result was = record { index = c.get.ensures.value; below = c.get.ensures.below; spaces = c.requires.all.spaces; is = c.index_mut-space.ensures.value } in
    let P : SpaceState → Type 0 = λ x. IsUnbornOrGrowing x.birth in
    (subst P c.space.ensures (c.if-not-may_fail.ensures.0 refl), ended_badly c.args.self.now c.args.child c.get.result was c.fail.new.self at c.fail.ensures)
