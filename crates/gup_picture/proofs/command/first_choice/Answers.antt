use Rattle.std.proofs.Common.{arith}
use Rattle.std.specs.Prelude.{string_bytes, codes}
use Rattle.gup_picture.proofs.FirstWords.{first_is}
use Rattle.gup_picture.proofs.command.first_choice.Goals as goal

pub returns-then-eq : goal.returns-then-eq
returns-then-eq c =
    (first_is string_bytes c.args.words.now c.option-item.result c.as_str.result.now (codes "--svg") c.eq.result (omega (arith, c.in-len1-up.len_at_least)) c.option-item.is c.as_str.ensures.value c.eq.ensures c.if-eq.true, tt)

pub returns-then-eq-2 : goal.returns-then-eq-2
returns-then-eq-2 c =
    (first_is string_bytes c.args.words.now c.option-item.result c.as_str-2.result.now (codes "--frames") c.eq-2.result (omega (arith, c.in-len1-up.len_at_least)) c.option-item.is c.as_str-2.ensures.value c.eq-2.ensures c.if-eq-2.true, tt)
