use Rattle.std.proofs.Common.{◌∙◌, ap}
use Rattle.gup_read_notes.specs.Names.{place_of}
use Rattle.gup_read_notes.proofs.Places.{looked_up}
use Rattle.gup_read_notes.proofs.table.Table.find.Goals as goal

pub returns-in_err-at-clause-number : goal.returns-in_err-at-clause-number
returns-in_err-at-clause-number c =
    let name = c.args.name.now in
    c.from_residual.ensures ∙ c.in_err-at.ensures.index ∙ looked_up c.self.inside.names.keys name ∙ ap (λ names. place_of names name) c.self.view_is

pub returns-clause-number : goal.returns-clause-number
returns-clause-number c =
    let name = c.args.name.now in
    c.in_ok-at.ensures.index ∙ looked_up c.self.inside.names.keys name ∙ ap (λ names. place_of names name) c.self.view_is
