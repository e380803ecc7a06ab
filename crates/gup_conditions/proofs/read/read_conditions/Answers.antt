use Rattle.std.proofs.Common.{◌≡◌, ◌+◌, ℕ, slice_get, List, map, sym, ap, subst, ◌∙◌, take, take_all, length, refl, arith}
use Rattle.std.specs.Borrow.{Bor}
use Rattle.std.proofs.lemmas.List.{length-map}
use Rattle.gup_spec_grammar.specs.Spelling.{parts}
use Rattle.gup_conditions.specs.Reading.{AreConditions}
use Rattle.gup_conditions.proofs.Pieces.{text_at}
use Rattle.gup_conditions.proofs.ConditionLines.{one_read, first_fault, printable, few_lines}
use Rattle.gup_conditions.proofs.read.read_conditions.Goals as goal

pub loop-line-init : goal.loop-line-init
loop-line-init c = record { number = refl; conditions = c.new-conditions.ensures.items }

pub read_line-requires : goal.read_line-requires
read_line-requires c =
    let items : List (Bor (List ℕ)) = c.deref-line-items.result.now in
    let all : map (λ line. line.now) items ≡ parts 10 c.args.text.now = ap (λ (xs : List (Bor (List ℕ))). map (λ line. line.now) xs) c.deref-line-items.ensures.value ∙ c.in_ok-lines_of.ensures in
    printable c.args.script.now c.args.text.now c.requires c.loop-line.line-index _ (sym (ap (λ (xs : List (List ℕ)). slice_get xs c.loop-line.line-index) all) ∙ text_at items c.loop-line.line-index _ c.loop-line-test.true)

pub returns-in-Err-clause-refused : goal.returns-in-Err-clause-refused
returns-in-Err-clause-refused c =
    let items : List (Bor (List ℕ)) = c.deref-line-items.result.now in
    let all : map (λ line. line.now) items ≡ parts 10 c.args.text.now = ap (λ (xs : List (Bor (List ℕ))). map (λ line. line.now) xs) c.deref-line-items.ensures.value ∙ c.in_ok-lines_of.ensures in
    let at = text_at items c.loop-line.line-index _ c.loop-line-test.true in
    rw c.at.ensures (rw (← all) (first_fault c.args.script.now (map (λ line. line.now) items) c.loop-line.line-index c.loop-line.number _ c.loop-line.conditions.items c.in-Err.trouble c.loop-line.invariant.number at c.loop-line.invariant.conditions c.in-Err.ensures.refused))

pub overflow_add-number : goal.overflow_add-number
overflow_add-number c =
    let items : List (Bor (List ℕ)) = c.deref-line-items.result.now in
    let all : map (λ line. line.now) items ≡ parts 10 c.args.text.now = ap (λ (xs : List (Bor (List ℕ))). map (λ line. line.now) xs) c.deref-line-items.ensures.value ∙ c.in_ok-lines_of.ensures in
    let few = few_lines c.args.script.now c.args.text.now c.requires in
    omega (arith, ap length all, length-map items (λ (line : Bor (List ℕ)). line.now), few, c.loop-line.invariant.number)

pub loop-line-preserved : goal.loop-line-preserved
loop-line-preserved c =
    let items : List (Bor (List ℕ)) = c.deref-line-items.result.now in
    let at = text_at items c.loop-line.line-index _ c.loop-line-test.true in
    let number : c.loop-line.number + 1 ≡ (c.loop-line.line-index + 1) + 1 = ap (λ (n : ℕ). n + 1) c.loop-line.invariant.number in
    record {
      number = number;
      conditions = rw c.in_ok-push_read-in-Ok.ensures (one_read c.args.script.now (map (λ line. line.now) items) c.loop-line.line-index _ c.in-Ok.read c.loop-line.conditions.items at c.loop-line.invariant.conditions c.in-Ok.ensures.read);
    }

pub returns-clause-conditions : goal.returns-clause-conditions
returns-clause-conditions c =
    let items : List (Bor (List ℕ)) = c.deref-line-items.result.now in
    let lines : List (List ℕ) = map (λ line. line.now) items in
    let all : lines ≡ parts 10 c.args.text.now = ap (λ (xs : List (Bor (List ℕ))). map (λ line. line.now) xs) c.deref-line-items.ensures.value ∙ c.in_ok-lines_of.ensures in
    let whole : take c.loop-line.line-index lines ≡ lines = take_all c.loop-line.line-index lines (omega (arith, length-map items (λ (line : Bor (List ℕ)). line.now))) in
    subst (λ (xs : List (List ℕ)). AreConditions c.args.script.now xs c.loop-line.conditions.items) (whole ∙ all) c.loop-line.invariant.conditions
