use Rattle.std.proofs.Common.{refl}
use Rattle.gup_exec_plain.proofs.Processes.{At, birthed}
use Rattle.gup_exec_parts.specs.declared.space.Birth.TheVariants as births
use Rattle.gup_exec_parts.specs.declared.space.Space.{Space}
use Rattle.gup_exec_plain.proofs.parts.Parts.birth.Goals as goal

pub returns-clause-state : goal.returns-clause-state
returns-clause-state c =
    let was : Space = c.index_mut-space.result.now in
    let at : At c.args.self.now c.args.p c.get.result was = record { index = c.get.ensures.value; below = c.get.ensures.below; spaces = c.requires.all.spaces; is = c.index_mut-space.ensures.value } in
    birthed c.args.self.now c.args.p c.get.result was (record was { birth = births.Born }) at refl
