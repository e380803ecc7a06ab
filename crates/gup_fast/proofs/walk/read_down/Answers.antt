use Rattle.std.proofs.Common.{sym, ap, ◌∙◌}
use Rattle.std.specs.Option.{option_map}
use Rattle.gup_space.specs.Space.{space_of, tables_in}
use Rattle.gup_law_tables.proofs.ReadDown.{path_is_kept}
use Rattle.gup_fast.proofs.ReadingDown.{none_down, whole_down, none_same}
use Rattle.gup_fast.proofs.walk.read_down.Goals as goal

pub returns-in_err-path-clause-entry : goal.returns-in_err-path-clause-entry
returns-in_err-path-clause-entry c =
    none_down (tables_in (space_of c.args.space.now)) c.args.page c.in_err-path.ensures.path c.has_path.ensures
    ∙ sym (ap (option_map (λ r. r.1)) c.from_residual.ensures)

pub entry_by-requires : goal.entry_by-requires
entry_by-requires c =
    path_is_kept (tables_in (space_of c.args.space.now)) c.args.page c.in_ok-path.path.last c.in_ok-path.path.second c.in_ok-path.path.third c.in_ok-path.ensures.path

pub returns-in_err-path-clause-same : goal.returns-in_err-path-clause-same
returns-in_err-path-clause-same c =
    none_same (tables_in (space_of c.args.space.now)) c.args.page c.in_err-path.ensures.path c.has_path.ensures

pub returns-in_err-entry-clause-same : goal.returns-in_err-entry-clause-same
returns-in_err-entry-clause-same c =
    whole_down (tables_in (space_of c.args.space.now)) c.args.page c.in_ok-path.path.last c.in_ok-path.path.second c.in_ok-path.path.third c.in_ok-path.ensures.path
