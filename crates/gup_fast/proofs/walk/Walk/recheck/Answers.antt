use Rattle.std.proofs.Common.{rules, ap}
use Rattle.gup_frames.specs.Frames.{frames_of}
use Rattle.gup_space.specs.Space.{space_of}
use Rattle.gup_tables.specs.Path.{tables_on}
use Rattle.gup_fast.specs.Stages.{stage_of}
use Rattle.gup_fast.proofs.Pages.{rechecking, takes_page}
use Rattle.gup_fast.proofs.walk.Walk.recheck.Goals as goal

pub read_again-changed-requires : goal.read_again-changed-requires
read_again-changed-requires c = c.requires.kept c.in-Grabbed.page (tables_on c.in-Grabbed.path) c.in-Grabbed.entry (search rules)

pub returns-then-is_some-clause-walk : goal.returns-then-is_some-clause-walk
returns-then-is_some-clause-walk c page path e is = search rules

pub returns-then-is_some-clause-events : goal.returns-then-is_some-clause-events
returns-then-is_some-clause-events c frames page path e is =
    rechecking (frames_of frames) (space_of c.args.space.now) c.args.self.now _ page path e is
    (returns-then-is_some-clause-walk c page path e is)

pub invariant_of-self-2 : goal.invariant_of-self-2
invariant_of-self-2 c =
    takes_page _ c.in-Grabbed.page (tables_on c.in-Grabbed.path) c.in-Grabbed.entry c.push.new.self.items c.self.invariant
    (ap stage_of c.in-Grabbed.is) c.push.ensures.items

pub returns-clause-walk : goal.returns-clause-walk
returns-clause-walk c page path e is = search rules

pub returns-clause-events : goal.returns-clause-events
returns-clause-events c frames page path e is =
    rechecking (frames_of frames) (space_of c.args.space.now) c.args.self.now _ page path e is
    (returns-clause-walk c page path e is)
