use Rattle.std.proofs.Common.{◌≡◌, true, map, ap, ◌∙◌}
use Rattle.gup_spec_grammar.specs.Names.{is_unused, declared}
use Rattle.gup_read_names.specs.Views.{entry_of}
use Rattle.gup_read_names.proofs.Entries.{insert_declares}
use Rattle.gup_read_names.proofs.names.Names.declare.Goals as goal

pub returns-clause-ok : goal.returns-clause-ok
returns-clause-ok c =
    let m = c.self.inside.entries in
    let name = c.args.name.now in
    let unused : is_unused (map entry_of m.entries) name ≡ true = ap (λ es. is_unused es name) c.self.view_is ∙ c.requires in
    ap (map entry_of) c.in_ok-insert.ensures.entries
    ∙ insert_declares m c.in_ok-key.key name c.args.named c.in_ok-key.ensures.ok unused
    ∙ ap (λ es. declared es name c.args.named) c.self.view_is
