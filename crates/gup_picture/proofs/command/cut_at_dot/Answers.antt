use native.Mathlib.Numerals.{unary_clauses}
use Rattle.std.proofs.Common.{◌≡◌, ◌==◌, ℕ, ◌+◌, ◌<◌, ◌≤◌, not, Bool, length, get_or, take, drop, sym, ap, ◌∙◌, arith, rules, lit<}
use Rattle.std.specs.List.{slice_range, position_or_len}
use Rattle.std.proofs.lemmas.List.Sums.{prefix_len-le-length}
use Rattle.std.proofs.lemmas.Iterator.{YieldsList-from_slice}
use Rattle.std.proofs.lemmas.Iterator.Search.{position_from_yields_List}
use Rattle.std.proofs.lemmas.Str.{IsCharBoundary-before_ascii, IsCharBoundary-after_ascii}
use Rattle.gup_read_words.proofs.WordCuts.{position_none, position_some, byte_at}
use Rattle.gup_picture.proofs.command.cut_at_dot.Goals as goal

pub returns-in_err-at : goal.returns-in_err-at
returns-in_err-at c =
    let text = c.args.text.now in
    let test : ℕ → Bool = λ b. b == 46 in
    let found = position_from_yields_List test _ _ c.position.result c.position.ensures.ran (YieldsList-from_slice text cc) (λ x b q k. search rules) in
    let none : position_or_len test text < length text → ⊥ = position_none test text (sym found ∙ c.in_err-at.was) in
    let le : position_or_len test text ≤ length text = prefix_len-le-length (λ b. not (test b)) text in
    let none_is : position_or_len test text ≡ length text = omega (arith, none, le) in
    rw c.from_residual.ensures none_is

pub range_from-requires : goal.range_from-requires
range_from-requires c = λ _.
    let text = c.args.text.now in
    let test : ℕ → Bool = λ b. b == 46 in
    let found = position_from_yields_List test _ _ c.position.result c.position.ensures.ran (YieldsList-from_slice text cc) (λ x b q k. search rules) in
    let p = position_some test text c.in_ok-at.at (sym found ∙ c.in_ok-at.was) in
    let here : get_or text c.in_ok-at.at 0 < 128 = rw (byte_at 46 text c.in_ok-at.at p.0 p.1) (lit< tt) in
    IsCharBoundary-after_ascii text c.in_ok-at.at (rw c.as_bytes.ensures.value at c.as_bytes.ensures.utf8) p.1 here

pub range-requires-clause-end_boundary : goal.range-requires-clause-end_boundary
range-requires-clause-end_boundary c =
    let text = c.args.text.now in
    let test : ℕ → Bool = λ b. b == 46 in
    let found = position_from_yields_List test _ _ c.position.result c.position.ensures.ran (YieldsList-from_slice text cc) (λ x b q k. search rules) in
    let p = position_some test text c.in_ok-at.at (sym found ∙ c.in_ok-at.was) in
    let here : get_or text c.in_ok-at.at 0 < 128 = rw (byte_at 46 text c.in_ok-at.at p.0 p.1) (lit< tt) in
    IsCharBoundary-before_ascii text c.in_ok-at.at p.1 here

pub returns : goal.returns
returns c =
    let text = c.args.text.now in
    let test : ℕ → Bool = λ b. b == 46 in
    let found = position_from_yields_List test _ _ c.position.result c.position.ensures.ran (YieldsList-from_slice text cc) (λ x b q k. search rules) in
    let p = position_some test text c.in_ok-at.at (sym found ∙ c.in_ok-at.was) in
    let front : slice_range text 0 c.in_ok-at.at ≡ take c.in_ok-at.at text = simp unary_clauses in
    let lt : position_or_len test text < length text = omega (arith, p.0, p.1) in
    (lt, c.range.ensures.value ∙ front ∙ ap (λ (n : ℕ). take n text) p.0, c.range_from.ensures.value ∙ ap (λ (n : ℕ). drop (n + 1) text) p.0)
