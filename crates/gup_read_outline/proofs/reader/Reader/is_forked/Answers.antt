use Rattle.std.proofs.Common.{sym, ap, ◌∙◌, rules}
use Rattle.std.specs.List.{list_any}
use Rattle.std.proofs.lemmas.Iterator.{YieldsList-from_slice}
use Rattle.std.proofs.lemmas.Iterator.Search.{any_from_yields_List}
use Rattle.gup_script.specs.declared.script.Actor.{Actor as Fields}
use Rattle.gup_script.specs.Script.{Actor}
use Rattle.gup_spec_grammar.specs.Outline.{Outline, forks_child, is_forked}
use Rattle.gup_read_outline.proofs.Actors.{any_found}
use Rattle.gup_read_outline.proofs.reader.Reader.is_forked.Goals as goal

pub returns : goal.returns
returns c =
    let actors = c.self.inside.contents.actors.items in
    let brings = forks_child c.args.p in
    any_from_yields_List (λ (a : Fields). list_any brings a.ops.items) _ _ c.any.result c.any.ensures.ran (YieldsList-from_slice actors cc) (λ x b q k. search rules)
    ∙ sym (any_found (λ (a : Actor). list_any brings a.ops) actors)
    ∙ ap (λ (st : Outline). is_forked st c.args.p) c.self.view_is
