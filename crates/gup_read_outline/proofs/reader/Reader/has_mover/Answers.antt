use Rattle.std.proofs.Common.{sym, ap, ◌∙◌, rules}
use Rattle.std.proofs.lemmas.Iterator.{YieldsList-from_slice}
use Rattle.std.proofs.lemmas.Iterator.Search.{any_from_yields_List}
use Rattle.gup_script.specs.declared.script.Actor.{Actor as Fields}
use Rattle.gup_script.specs.Script.{Actor}
use Rattle.gup_spec_grammar.specs.Outline.{is_mover, has_mover}
use Rattle.gup_read_outline.proofs.Actors.{any_found}
use Rattle.gup_read_outline.proofs.reader.Reader.has_mover.Goals as goal

pub returns : goal.returns
returns c =
    let actors = c.self.inside.contents.actors.items in
    any_from_yields_List (λ (a : Fields). is_mover a.kind) _ _ c.any.result c.any.ensures.ran (YieldsList-from_slice actors cc) (λ x b q k. search rules)
    ∙ sym (any_found (λ (a : Actor). is_mover a.kind) actors)
    ∙ ap has_mover c.self.view_is
