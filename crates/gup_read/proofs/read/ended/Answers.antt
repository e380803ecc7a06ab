use Rattle.std.proofs.Common.{◌≡◌, cond, length, sym, ap, ◌∙◌}
use Rattle.std.proofs.lemmas.Bool.{eqb-true, eqb-false}
use Rattle.gup_read_words.specs.Text.{is_printable}
use Rattle.gup_spec_grammar.specs.declared.fault.Reason.TheVariants as reasons
use Rattle.gup_read.specs.Reading.{fault_at}
use Rattle.gup_read.specs.StageViews.{stage_value}
use Rattle.gup_read.proofs.Cuts.{refused, no_end, ends, frames_missing}
use Rattle.gup_read.proofs.read.ended.Goals as goal
use Rattle.gup_read.proofs.read.ended.Goals.{then-is_printable, else-is_printable}

pub returns-then-not-is_empty : goal.returns-then-not-is_empty
returns-then-not-is_empty c =
    let rest = c.args.rest.now in
    let some : length rest ≡ 0 → ⊥ = eqb-false _ _ (sym c.is_empty.ensures ∙ c.if-not-is_empty.true) in
    let reason : cond (is_printable rest) reasons.End reasons.Byte ≡ c.if-is_printable.reason =
    elim c.if-is_printable.branch [ then-is_printable w ↦ rw (sym c.is_printable.ensures ∙ w.if-is_printable.true) (sym w.reason-is) | else-is_printable w ↦ rw (sym c.is_printable.ensures ∙ w.if-is_printable.false) (sym w.reason-is) ] in
    rw c.at.ensures (no_end c.args.number (stage_value c.args.stage) rest some ∙ ap (λ r. refused (fault_at c.args.number r)) reason)

pub returns-in-Open : goal.returns-in-Open
returns-in-Open c =
    let empty : length c.args.rest.now ≡ 0 = eqb-true _ _ (sym c.is_empty.ensures ∙ c.if-not-is_empty.false) in
    rw c.in-Open.is (ends c.args.number c.in-Open.reader c.args.rest.now empty)

pub returns-in-BeforeHead : goal.returns-in-BeforeHead
returns-in-BeforeHead c =
    let empty : length c.args.rest.now ≡ 0 = eqb-true _ _ (sym c.is_empty.ensures ∙ c.if-not-is_empty.false) in
    rw c.at-in-BeforeHead.ensures (frames_missing c.args.number c.args.stage c.args.rest.now empty c.in-BeforeHead.is)
