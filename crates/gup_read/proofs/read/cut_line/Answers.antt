use Rattle.std.proofs.Common.{◌+◌, sym, ◌∙◌, arith, rules}
use Rattle.std.proofs.lemmas.List.{length-drop, length-take, take_rest}
use Rattle.std.proofs.lemmas.Iterator.{YieldsList-from_slice}
use Rattle.std.proofs.lemmas.Iterator.Search.{position_from_yields_List}
use Rattle.gup_read.proofs.Cuts.{is_feed, uncut, cut, position_none, position_some}
use Rattle.gup_read.proofs.read.cut_line.Goals as goal

pub returns-in_err-end : goal.returns-in_err-end
returns-in_err-end c =
    let found = position_from_yields_List is_feed _ _ c.position.result c.position.ensures.ran (YieldsList-from_slice c.args.text.now cc) (λ x b q k. search rules) in
    rw c.from_residual.ensures (uncut c.args.text.now (position_none c.args.text.now (sym found ∙ c.in_err-end.was)))

pub returns : goal.returns
returns c =
    let text = c.args.text.now in
    let found = position_from_yields_List is_feed _ _ c.position.result c.position.ensures.ran (YieldsList-from_slice text cc) (λ x b q k. search rules) in
    let p = position_some text c.in_ok-end.end (sym found ∙ c.in_ok-end.was) in
    let e = cut text c.in_ok-end.end p.0 p.1 in
    rw take_rest (e, omega (arith, length-drop (c.in_ok-end.end + 1) text, length-take c.in_ok-end.end text))
