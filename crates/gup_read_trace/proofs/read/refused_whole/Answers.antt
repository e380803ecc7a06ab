use Rattle.gup_read_trace.proofs.Refused.{ends_early}
use Rattle.gup_read_trace.proofs.read.refused_whole.Goals as goal

pub returns-in-Ok : goal.returns-in-Ok
returns-in-Ok c =
    ends_early c.args.text.now c.in-Ok._script c.count_feeds.result c.requires.few c.requires.journal c.in-Ok.ensures.script c.count_feeds.ensures
