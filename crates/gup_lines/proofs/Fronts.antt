-- Lists that begin with a list: what writing piece by piece leaves where it breaks off.
use Rattle.std.proofs.Common.{◌≡◌, ℕ, ◌≤◌, List, ◌++◌, length, take, take-append-drop, drop, sym, ◌∙◌, arith, ap, length-append, subst}
use Rattle.std.proofs.lemmas.List.{take-take, take-append-le, take_all}
use Rattle.gup_lines.specs.Text.{BeginsWith}

pub begins-self : (xs : List ℕ) → BeginsWith xs xs
begins-self xs = take_all (length xs) xs (omega arith)

-- what begins with a longer list begins with its prefix
pub begins-append : (new old more : List ℕ) → BeginsWith new (old ++ more) → BeginsWith new old
begins-append new old more h =
    let le : length old ≤ length (old ++ more) = omega (arith, length-append old more) in
    sym (take-take (length old) (length (old ++ more)) new le) ∙ ap (take (length old)) h ∙ take-append-le (length old) old more (omega arith) ∙ begins-self old

-- a list that goes on as the old one with more at its end
pub begins-then : (new middle old more : List ℕ) → middle ≡ old ++ more → BeginsWith new middle → BeginsWith new old
begins-then new middle old more e h = begins-append new old more (let P : List ℕ → Type 0 = λ m. BeginsWith new m in subst P e h)

pub begins-same : (new old : List ℕ) → new ≡ old → BeginsWith new old
begins-same new old e = let P : List ℕ → Type 0 = λ m. BeginsWith m old in subst P (sym e) (begins-self old)

pub begins-trans : (new middle old : List ℕ) → BeginsWith new middle → BeginsWith middle old → BeginsWith new old
begins-trans new middle old h begins =
    let whole : middle ≡ old ++ drop (length old) middle = sym (take-append-drop (length old) middle) ∙ ap (λ xs. xs ++ drop (length old) middle) begins in
    begins-then new middle old (drop (length old) middle) whole h

pub ruleset fronts = (begins-self, begins-then, begins-same, begins-trans)
