use Rattle.std.proofs.Common.{IsSome, refl, subst}
use Rattle.gup_exec_plain.proofs.Processes.{At, discarded, found}
use Rattle.gup_exec_parts.proofs.SpaceLemmas.{right_some}
use Rattle.gup_exec_parts.specs.Space.{SpaceState}
use Rattle.gup_exec_parts.specs.declared.space.Space.{Space}
use Rattle.gup_exec_plain.proofs.parts.Parts.discard.Goals as goal

pub returns-clause-event : goal.returns-clause-event
returns-clause-event c =
    let can = c.if-not-is_named.ensures.0 refl in
    let was : Space = c.index_mut-space.result.now in
    let at : At c.args.self.now c.args.p c.get.result was = record { index = c.get.ensures.value; below = c.get.ensures.below; spaces = c.requires.all.spaces; is = c.index_mut-space.ensures.value } in
    let P : SpaceState → Type 0 = λ x. IsSome (x.page c.args.page) in
    let there = subst P (found c.args.self.now c.args.p c.get.result was at) (right_some _ can.1) in (
      can,
      discarded c.args.self.now c.args.p c.get.result c.args.page c.in_ok-self.field-0 was c.set_object.new.pages at
          c.requires.made c.in_ok-self.ensures there c.set_object.ensures.pages c.set_object.ensures.len,
    )
