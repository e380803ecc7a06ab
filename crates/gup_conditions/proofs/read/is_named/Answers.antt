use Rattle.gup_conditions.proofs.FoundOperations.{named_so}
use Rattle.gup_conditions.proofs.read.is_named.Goals as goal

pub returns : goal.returns
returns c = named_so c.args.script.now c.args.actor c.name_of.result.now c.args.name.now c.eq.result c.requires c.name_of.ensures c.eq.ensures
