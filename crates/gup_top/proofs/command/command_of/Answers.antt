use Rattle.std.proofs.Common.{[], ◌∷◌, ap₂, sym, ◌∙◌, arith}
use Rattle.std.specs.Prelude.{string_bytes}
use Rattle.gup_top.proofs.Commands.{two_of, make_words, no_number}
use Rattle.gup_top.proofs.command.command_of.Goals as goal

pub returns-in_ok-number-in-len2-clause-found : goal.returns-in_ok-number-in-len2-clause-found
returns-in_ok-number-in-len2-clause-found c =
    let two = two_of string_bytes c.args.words.now c.word-item-then-words-lt3.result c.count-item.result (omega (arith, c.in-len2.len_at_least)) (omega (arith, c.in-len2.len_below)) c.word-item-then-words-lt3.is c.count-item.is in
    make_words _ c.as_str-then-words-lt3.result.now c.as_str-in-len2.result.now c.in_ok-number-in-len2.field-0
    (two ∙ ap₂ (λ w k. w ∷ k ∷ []) (sym c.as_str-then-words-lt3.ensures.value) (sym c.as_str-in-len2.ensures.value)) (sym c.eq.ensures ∙ c.if-eq.true) (sym c.number.ensures ∙ c.in_ok-number-in-len2.was)

pub returns-in_err-number-in-len2-clause-none : goal.returns-in_err-number-in-len2-clause-none
returns-in_err-number-in-len2-clause-none c none =
    let two = two_of string_bytes c.args.words.now c.word-item-then-words-lt3.result c.count-item.result (omega (arith, c.in-len2.len_at_least)) (omega (arith, c.in-len2.len_below)) c.word-item-then-words-lt3.is c.count-item.is in
    no_number _ c.as_str-then-words-lt3.result.now c.as_str-in-len2.result.now
    (two ∙ ap₂ (λ w k. w ∷ k ∷ []) (sym c.as_str-then-words-lt3.ensures.value) (sym c.as_str-in-len2.ensures.value)) (sym c.number.ensures ∙ c.in_err-number-in-len2.was)
