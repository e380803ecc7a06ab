use Rattle.std.proofs.Common.{◌≡◌, sym, ap, ◌∙◌, rules}
use Rattle.gup_script.specs.Script.{is_thread}
use Rattle.gup_spec_grammar.specs.Outline.{how_many}
use Rattle.gup_read_outline.proofs.Actors.{count_fields, counted}
use Rattle.gup_read_outline.proofs.reader.Reader.threads.Goals as goal

pub returns : goal.returns
returns c =
    let actors = c.self.inside.contents.actors.items in
    let here : c.count.result ≡ count_fields is_thread actors = search rules in
    here ∙ sym (counted is_thread actors) ∙ ap (how_many is_thread) c.self.view_is
