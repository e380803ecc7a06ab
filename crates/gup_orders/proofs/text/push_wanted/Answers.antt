use Rattle.std.proofs.Common.{◌≡◌, ◌++◌, ℕ, List, Bor, codes, zero, suc, refl, sym, ap, ◌∙◌, take, append_assoc}
use Rattle.gup_conditions.specs.Line.{LineValue, line_text}
use Rattle.gup_conditions.specs.Condition.{wanted_text}
use Rattle.gup_orders.proofs.Written.{before_piece, wanted_more}
use Rattle.gup_orders.proofs.text.push_wanted.Goals as goal
use Rattle.gup_orders.proofs.text.push_wanted.Goals.{then-k-eq0, else-k-eq0}

front_first : (k : ℕ) (word : List ℕ) → k ≡ 0 → word ≡ codes " " → word ≡ before_piece k ++ codes " "
front_first k word none is = is ∙ ap (λ (n : ℕ). before_piece n ++ codes " ") (sym none)

front_later : (k : ℕ) (word : List ℕ) → (k ≡ 0 → ⊥) → word ≡ codes "; " → word ≡ before_piece k ++ codes " "
front_later zero word some is = absurd (some refl)
front_later (suc k) word some is = is

pub loop-k-preserved : goal.loop-k-preserved
loop-k-preserved c =
    let script = c.args.script.now in
    let k = c.loop-k.k in
    let line = c.index-lines-k.result in
    let so_far : List ℕ = wanted_text script (take k c.args.lines.now) in
    let word : c.if-k-eq0.push_text.now ≡ before_piece k ++ codes " " =
    elim c.if-k-eq0.branch [
      | then-k-eq0 w ↦ front_first k c.if-k-eq0.push_text.now w.if-k-eq0.true (ap (λ (b : Bor (List ℕ)). b.now) w.push_text-is)
      | else-k-eq0 w ↦ front_later k c.if-k-eq0.push_text.now w.if-k-eq0.false (ap (λ (b : Bor (List ℕ)). b.now) w.push_text-is)
    ] in
    c.in_ok-push_line_text.ensures
    ∙ ap (λ (t : List ℕ). t ++ line_text script line) (c.in_ok-push_text.ensures.ok ∙ ap (λ (w : List ℕ). c.loop-k.text.items ++ w) word ∙ ap (λ (t : List ℕ). t ++ (before_piece k ++ codes " ")) c.loop-k.invariant)
    ∙ append_assoc (c.args.text.now.items ++ so_far) (before_piece k ++ codes " ") (line_text script line)
    ∙ append_assoc c.args.text.now.items so_far ((before_piece k ++ codes " ") ++ line_text script line)
    ∙ ap (λ (t : List ℕ). c.args.text.now.items ++ (so_far ++ t)) (append_assoc (before_piece k) (codes " ") (line_text script line))
    ∙ ap (λ (l : LineValue). c.args.text.now.items ++ (so_far ++ (before_piece k ++ (codes " " ++ line_text script l)))) c.index-lines-k.is
    ∙ ap (λ (t : List ℕ). c.args.text.now.items ++ t) (sym (wanted_more script c.args.lines.now k line c.loop-k-test.true))
