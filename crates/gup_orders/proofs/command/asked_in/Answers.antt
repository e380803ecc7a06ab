use Rattle.std.proofs.Common.{[], ◌∷◌, ap₂, sym, ap, ◌∙◌, arith}
use Rattle.std.specs.Prelude.{string_bytes}
use Rattle.gup_orders.proofs.Asking.{one_of, two_of, three_of, asked_behind, asked_from_start, asked_from_behind}
use Rattle.gup_orders.proofs.command.asked_in.Goals as goal

pub returns-in-len1-clause-found : goal.returns-in-len1-clause-found
returns-in-len1-clause-found c =
    let one = one_of string_bytes c.args.words.now c.word-item.result (omega (arith, c.in-len1.len_at_least)) (omega (arith, c.in-len1.len_below)) c.word-item.is in
    asked_behind _ c.as_str.result.now c.usual-in-len1.result.behind c.usual-in-len1.result.limit (one ∙ ap (λ w. w ∷ []) (sym c.as_str.ensures.value)) (sym c.eq.ensures ∙ c.if-eq.true)
    c.usual-in-len1.ensures.behind c.usual-in-len1.ensures.limit

pub returns-in-len2-clause-found : goal.returns-in-len2-clause-found
returns-in-len2-clause-found c =
    let two = two_of string_bytes c.args.words.now c.word-item-then-words-lt3.result c.limit-item.result (omega (arith, c.in-len2.len_at_least)) (omega (arith, c.in-len2.len_below)) c.word-item-then-words-lt3.is c.limit-item.is in
    asked_from_start _ c.as_str-then-words-lt3.result.now c.as_str-in-len2.result.now c.limited.result
    (two ∙ ap₂ (λ w k. w ∷ k ∷ []) (sym c.as_str-then-words-lt3.ensures.value) (sym c.as_str-in-len2.ensures.value)) (sym c.eq-then-words-lt3.ensures ∙ c.if-eq-2.true) c.limited.ensures

pub returns-in-len3-clause-found : goal.returns-in-len3-clause-found
returns-in-len3-clause-found c =
    let three = three_of string_bytes c.args.words.now c.first-item.result c.word-item-then-words-lt4.result c.limit-item-then-words-lt4.result (omega (arith, c.in-len3.len_at_least)) (omega (arith, c.in-len3.len_below)) c.first-item.is c.word-item-then-words-lt4.is c.limit-item-then-words-lt4.is in
    asked_from_behind _ c.as_str-then-words-lt4.result.now c.as_str-then-eq-3.result.now c.as_str-in-len3.result.now c.limited-in-len3.result
    (
    three
    ∙ ap₂ (λ v w. v ∷ w ∷ string_bytes c.limit-item-then-words-lt4.result ∷ []) (sym c.as_str-then-words-lt4.ensures.value) (sym c.as_str-then-eq-3.ensures.value)
    ∙ ap (λ k. c.as_str-then-words-lt4.result.now ∷ c.as_str-then-eq-3.result.now ∷ k ∷ []) (sym c.as_str-in-len3.ensures.value)
    )
    (sym c.eq-then-words-lt4.ensures ∙ c.if-eq-3.true) (sym c.eq-then-eq-3.ensures ∙ c.if-eq-4.true) c.limited-in-len3.ensures
