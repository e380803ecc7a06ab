use Rattle.std.proofs.Common.{sym, subst, ◌∙◌}
use Rattle.gup_conditions.specs.Line.{LineValue}
use Rattle.gup_conditions.specs.Reading.{IsPiece}
use Rattle.gup_conditions.proofs.PieceTexts.{spelled}
use Rattle.gup_conditions.proofs.read.read_piece.Goals as goal

pub returns-then-not-branch-clause-refused : goal.returns-then-not-branch-clause-refused
returns-then-not-branch-clause-refused c =
    let found = c.in-Some-operation.found in
    let line : LineValue = record { actor = found.actor; op = found.number; text = c.in-Some.text.now } in
    let is = spelled c.args.script.now c.args.piece.now c.in-Some.name.now c.in-Some.number.now c.in-Some.text.now found.actor found.number found.op.now c.in-Some.ensures c.in-Some-operation.ensures in
    (line, found.op.now, is, c.in-Some-operation.ensures.has, sym c.in_ok-answers.ensures ∙ c.if-not-branch.true)

pub returns-clause-read : goal.returns-clause-read
returns-clause-read c =
    let found = c.in-Some-operation.found in
    let line : LineValue = record { actor = found.actor; op = found.number; text = c.in-Some.text.now } in
    let is = spelled c.args.script.now c.args.piece.now c.in-Some.name.now c.in-Some.number.now c.in-Some.text.now found.actor found.number found.op.now c.in-Some.ensures c.in-Some-operation.ensures in
    let piece : IsPiece c.args.script.now c.args.piece.now line = (is, record { op = found.op.now; has = c.in-Some-operation.ensures.has; can = sym c.in_ok-answers.ensures ∙ c.if-not-branch.false }) in
    subst (IsPiece c.args.script.now c.args.piece.now) (sym c.in_ok-line.ensures) piece
