use Rattle.std.proofs.Common.{is_none, refl, sym, ap}
use Rattle.gup_frames.specs.Frames.{frames_of}
use Rattle.gup_space.specs.Space.{space_of}
use Rattle.gup_op_base.specs.Said.{loaded_said}
use Rattle.gup_op_pages.proofs.Loading.{load_by_entry}
use Rattle.gup_op_pages.proofs.loads.load.Goals as goal

pub load_from-requires-clause-there : goal.load_from-requires-clause-there
load_from-requires-clause-there c = c.requires.tidy.there c.args.page c.in-Some.entry (sym c.in-Some.ensures)

pub returns-in-Some : goal.returns-in-Some
returns-in-Some c =
    let a = c.args in
    let F = frames_of a.frames.now in
    record {
      said = loaded_said a.head.now.actor a.proc a.page a.word (F.word c.in-Some.entry.frame a.word);
      tells = c.load_from.ensures;
      ends = refl;
      is_so = load_by_entry F (space_of a.space.now) a.head.now.actor a.proc a.page a.word c.in-Some.entry (sym c.in-Some.ensures);
    }

pub load_by_fault-requires-clause-table : goal.load_by_fault-requires-clause-table
load_by_fault-requires-clause-table c = c.requires.table (ap is_none (sym c.in-None.ensures))
