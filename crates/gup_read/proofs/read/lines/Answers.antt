use Rattle.std.proofs.Common.{Result, sym, subst, ap, ◌∙◌}
use Rattle.gup_spec_grammar.specs.declared.fault.ScriptFault.{ScriptFault}
use Rattle.gup_spec_grammar.specs.Outline.{Outline}
use Rattle.gup_read.specs.Reading.{lines_in}
use Rattle.gup_read.specs.Steps.{IsRefusal, refusal_at}
use Rattle.gup_read.specs.StageViews.{stage_value}
use Rattle.gup_read.proofs.Cuts.{line_wrong, one_line}
use Rattle.gup_read.proofs.read.lines.Goals as goal

pub returns-in-Err : goal.returns-in-Err
returns-in-Err c =
    let stage = stage_value c.loop-line.stage in
    let line = c.in-Some.line.now in
    let cut = c.in-Some.ensures in
    let same = ap (lines_in c.loop-line.number stage) (sym cut.0) ∙ c.loop-line.invariant.same in
    rw c.at.ensures (subst (λ (found : Result Outline ScriptFault). IsRefusal found (refusal_at c.loop-line.number c.in-Err.trouble)) same (line_wrong c.loop-line.number stage line c.in-Some.behind.now c.in-Err.trouble c.in-Err.ensures))

pub loop-line-preserved : goal.loop-line-preserved
loop-line-preserved c =
    let cut = c.in-Some.ensures in
    one_line c.args.text.now c.loop-line.number (stage_value c.loop-line.stage) (stage_value c.take_line.new.self) c.in-Some.line.now c.loop-line.rest.now c.in-Some.behind.now c.loop-line.invariant cut.0 cut.1 c.in-Ok.ensures
