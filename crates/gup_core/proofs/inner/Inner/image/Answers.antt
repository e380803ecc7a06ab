use Rattle.gup_core.specs.Machine.{machine_of}
use Rattle.gup_core.proofs.Sized.{few_frames}
use Rattle.gup_core.proofs.inner.Inner.image.Goals as goal

pub image-requires-clause-frames : goal.image-requires-clause-frames
image-requires-clause-frames c =
    let i = c.self.inside in
    few_frames (machine_of i.script i.parts i.mirrors i.seats.items i.pool i.turns) c.self.invariant.shown.0 c.actors-actors.ensures.valid c.self.invariant.shown.1
