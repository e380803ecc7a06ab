use Rattle.std.proofs.Common.{refl}
use Rattle.gup_exec_plain.proofs.Processes.{unmapped}
use Rattle.gup_exec_plain.proofs.parts.Parts.unmap.Goals as goal

pub returns-clause-event : goal.returns-clause-event
returns-clause-event c = (
  c.if-not-is_named.ensures.0 refl,
  unmapped c.args.self.now c.args.p c.get.result c.args.page c.index_mut-space.result.now c.remove.new.pages
      (record { index = c.get.ensures.value; below = c.get.ensures.below; spaces = c.requires.all.spaces; is = c.index_mut-space.ensures.value })
      c.remove.ensures.pages c.remove.ensures.len,
)
