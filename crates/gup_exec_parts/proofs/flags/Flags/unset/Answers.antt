use Rattle.gup_exec_parts.proofs.FlagsLemmas.{unset-flag_of}
use Rattle.gup_exec_parts.proofs.flags.Flags.unset.Goals as goal

pub returns : goal.returns
returns c = rw c.in_ok-unset.ensures.0 unset-flag_of
