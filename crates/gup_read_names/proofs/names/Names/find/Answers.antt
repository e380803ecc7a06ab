use Rattle.std.proofs.Common.{sym, ap, ◌∙◌}
use Rattle.gup_spec_grammar.specs.Names.{find}
use Rattle.gup_read_names.proofs.Entries.{find_looks_up}
use Rattle.gup_read_names.proofs.names.Names.find.Goals as goal

pub returns : goal.returns
returns c =
    let name = c.args.name.now in
    c.copied.ensures ∙ c.get.ensures.value ∙ sym (find_looks_up c.self.inside.entries.entries name)
    ∙ ap (λ es. find es name) c.self.view_is
