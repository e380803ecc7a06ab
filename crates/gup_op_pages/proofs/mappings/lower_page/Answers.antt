use Rattle.std.proofs.Common.{sym}
use Rattle.gup_space.specs.Space.{space_of}
use Rattle.gup_op_pages.proofs.Mapping.{lowered_entry}
use Rattle.gup_op_pages.proofs.mappings.lower_page.Goals as goal

pub returns-then-entry : goal.returns-then-entry
returns-then-entry c =
    lowered_entry c.args.page c.in-Some.entry (space_of c.args.space.now) (space_of c.set_entry.new.self) (sym c.in-Some.ensures) c.set_entry.ensures
