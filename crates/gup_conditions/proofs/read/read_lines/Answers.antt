use Rattle.std.proofs.Common.{◌≡◌, ℕ, List, map, ap, subst, ◌∙◌, take, take_all, arith}
use Rattle.std.specs.Borrow.{Bor}
use Rattle.std.proofs.lemmas.List.{length-map}
use Rattle.std.proofs.lemmas.Result.{err_from_is_err_and}
use Rattle.gup_spec_grammar.specs.Spelling.{parts}
use Rattle.gup_conditions.specs.Reading.{ArePieces, IsFirstWrong}
use Rattle.gup_conditions.proofs.Pieces.{text_at, one_piece, first_wrong}
use Rattle.gup_conditions.proofs.read.read_lines.Goals as goal

pub loop-piece-init : goal.loop-piece-init
loop-piece-init c = c.new-lines.ensures.items

pub returns-in_err-read_piece-clause-refused : goal.returns-in_err-read_piece-clause-refused
returns-in_err-read_piece-clause-refused c =
    let script = c.args.script.now in
    let items : List (Bor (List ℕ)) = c.deref-piece-items.result.now in
    let k = c.loop-piece.piece-index in
    let all : map (λ piece. piece.now) items ≡ parts 59 c.args.wanted.now = ap (λ (xs : List (Bor (List ℕ))). map (λ piece. piece.now) xs) c.deref-piece-items.ensures.value ∙ c.in_ok-pieces_of.ensures in
    let at = text_at items k _ c.loop-piece-test.true in
    let wrong = first_wrong script (map (λ piece. piece.now) items) k _ c.loop-piece.lines.items _ at c.loop-piece.invariant c.in_err-read_piece.ensures.refused in
    let here : IsFirstWrong script (parts 59 c.args.wanted.now) c.in_err-read_piece.field-0.0 = subst (λ (xs : List (List ℕ)). IsFirstWrong script xs c.in_err-read_piece.field-0.0) all wrong in
    let given = err_from_is_err_and c.from_residual-in_err-read_piece.result c.from_residual-in_err-read_piece.ensures.1 in
    let same : given.0 ≡ c.in_err-read_piece.field-0.0 = given.2 in
    rw given.1 (rw same here)

pub loop-piece-preserved : goal.loop-piece-preserved
loop-piece-preserved c =
    let items : List (Bor (List ℕ)) = c.deref-piece-items.result.now in
    let at = text_at items c.loop-piece.piece-index _ c.loop-piece-test.true in
    rw c.in_ok-push.ensures.items (one_piece c.args.script.now (map (λ piece. piece.now) items) c.loop-piece.piece-index _ c.in_ok-read_piece.field-0 c.loop-piece.lines.items at c.loop-piece.invariant c.in_ok-read_piece.ensures.read)

pub returns-clause-read : goal.returns-clause-read
returns-clause-read c =
    let items : List (Bor (List ℕ)) = c.deref-piece-items.result.now in
    let pieces : List (List ℕ) = map (λ piece. piece.now) items in
    let all : pieces ≡ parts 59 c.args.wanted.now = ap (λ (xs : List (Bor (List ℕ))). map (λ piece. piece.now) xs) c.deref-piece-items.ensures.value ∙ c.in_ok-pieces_of.ensures in
    let whole : take c.loop-piece.piece-index pieces ≡ pieces = take_all c.loop-piece.piece-index pieces (omega (arith, length-map items (λ (piece : Bor (List ℕ)). piece.now))) in
    subst (λ (xs : List (List ℕ)). ArePieces c.args.script.now xs c.loop-piece.lines.items) (whole ∙ all) c.loop-piece.invariant
