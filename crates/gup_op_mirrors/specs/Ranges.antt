-- The pages that a call answers, as a range of the specification.
use Rattle.std.specs.Prelude.{Option, Some, None}
use Rattle.gup_spec_turns.specs.Emptying.{PageRange}
use Rattle.gup_op_mirrors.specs.declared.ranges.Pages.{Pages}

abbrev pub range_of : Option Pages → Option PageRange
range_of None = None
range_of (Some pages) = Some (record { proc = pages.proc; page = pages.page; n = pages.n })
