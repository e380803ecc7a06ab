use Rattle.std.proofs.lemmas.List.{take_rest}
use Rattle.gup_io.proofs.Told.{drop_split}
use Rattle.gup_io.proofs.memory.SureSourceSource.read.Goals as goal

pub returns-clause-bytes : goal.returns-clause-bytes
returns-clause-bytes c =
    let copied = rw take_rest at c.copy_front-given.ensures.copied in
    rw (← c.self.view_is) (drop_split _ _ _ _ (rw c.deref.ensures.value at copied))
