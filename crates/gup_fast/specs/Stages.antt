-- How a walk keeps where it stands.
use Rattle.gup_spec_events.specs.State.{entered, ready, read, grabbed, rechecked, differed, refused, stopped, dropping}
use Rattle.gup_tables.specs.Path.{tables_on}
use Rattle.gup_fast.specs.Walks.{Stage, unbegun, at, left}
use Rattle.gup_fast.specs.declared.walk.Stage.{Stage as KeptStage}
use Rattle.gup_fast.specs.declared.walk.Stage.TheVariants.{Unbegun, Entered, Ready, Read, Grabbed, Rechecked, Differed, Refused, Stopped, Dropping, Left}

abbrev pub stage_of : KeptStage → Stage
stage_of Unbegun = unbegun
stage_of Entered = at entered
stage_of Ready = at ready
stage_of (Read page path entry) = at (read page (tables_on path) entry)
stage_of (Grabbed page path entry) = at (grabbed page (tables_on path) entry)
stage_of (Rechecked page entry) = at (rechecked page entry)
stage_of (Differed frame) = at (differed frame)
stage_of Refused = at refused
stage_of Stopped = at stopped
stage_of Dropping = at dropping
stage_of Left = left
