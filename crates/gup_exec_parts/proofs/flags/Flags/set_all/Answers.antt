use Rattle.gup_exec_parts.proofs.FlagsLemmas.{all_set-flag_of}
use Rattle.gup_exec_parts.proofs.flags.Flags.set_all.Goals as goal

pub returns : goal.returns
returns c = rw c.set_each.ensures.items (all_set-flag_of c.args.self.now)
