use Rattle.std.specs.Option.{option_copied}
use Rattle.gup_spec_journal.specs.Place.{doer}
use Rattle.gup_check_plain.proofs.DoerLemmas.{named_or_own}
use Rattle.gup_check_plain.proofs.doer.Doer.of.Goals as goal

pub returns : goal.returns
returns c =
    rw (c.or.ensures, c.slots_of.ensures)
    (named_or_own c.named_by.result c.own_process.result (option_copied c.args.op) (doer c.args.script.now c.args.actor) c.named_by.ensures c.own_process.ensures)
