use Rattle.std.proofs.Common.{◌≡◌, refl, subst}
use Rattle.gup_plain.specs.State.{born, unborn}
use Rattle.gup_exec_plain.proofs.Processes.{At, begun, numbered}
use Rattle.gup_exec_parts.specs.Space.{SpaceState}
use Rattle.gup_exec_parts.specs.declared.space.Space.{Space}
use Rattle.gup_exec_plain.proofs.parts.Parts.fork_begin.Goals as goal

pub returns-clause-event : goal.returns-clause-event
returns-clause-event c =
    let was : Space = c.index_mut-space.result.now in
    let at : At c.args.self.now c.args.child c.get.result was = record { index = c.get.ensures.value; below = c.get.ensures.below; spaces = c.requires.all.spaces; is = c.index_mut-space.ensures.value } in
    let P : SpaceState → Type 0 = λ x. x.birth ≡ born in
    let Q : SpaceState → Type 0 = λ x. x.birth ≡ unborn in (
      (subst P c.space.ensures (c.if-not-is_born.ensures.0 refl), subst Q c.space-else-not-is_born.ensures (c.if-not-is_unborn.ensures.0 refl)),
      begun c.args.self.now c.args.parent c.args.child c.get.result c.in_ok-made.made was c.grow.new.self c.space-2.result.now c.in_ok-pages.pages at
          c.requires.made c.in_ok-made.ensures c.space-2.ensures c.in_ok-pages.ensures.pages (c.in_ok-pages.ensures.counted (numbered c.args.self.now c.args.parent c.space-2.result.now c.requires.made c.space-2.ensures)) c.grow.ensures,
    )
