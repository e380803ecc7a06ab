use Rattle.std.proofs.Common.{None, Some, lit<}
use Rattle.std.proofs.lemmas.Str.Pattern.{strip_prefix_char}
use Rattle.gup_conditions.proofs.PieceTexts.{no_space, no_name, no_number, is_split}
use Rattle.gup_conditions.proofs.read.split_piece.Goals as goal

pub returns-in_err-strip_prefix : goal.returns-in_err-strip_prefix
returns-in_err-strip_prefix c =
    rw c.from_residual.ensures (no_space c.args.piece.now (strip_prefix_char 32 c.args.piece.now None c.in_err-strip_prefix.ensures.cases (lit< tt)))

pub returns-in_err-name : goal.returns-in_err-name
returns-in_err-name c =
    let behind = c.in_ok-strip_prefix.field-0 in
    let is = strip_prefix_char 32 c.args.piece.now (Some behind) c.in_ok-strip_prefix.ensures.cases (lit< tt) in
    rw c.from_residual-in_err-name.ensures (no_name c.args.piece.now behind.now is c.in_err-name.ensures)

pub returns-in_err-number : goal.returns-in_err-number
returns-in_err-number c =
    let behind = c.in_ok-strip_prefix.field-0 in
    let is = strip_prefix_char 32 c.args.piece.now (Some behind) c.in_ok-strip_prefix.ensures.cases (lit< tt) in
    let name = c.in_ok-name.ensures in
    rw c.from_residual-in_err-number.ensures (no_number c.args.piece.now behind.now c.in_ok-name.name.now c.in_ok-name.behind.now is name.0 name.1 c.in_err-number.ensures)

pub returns : goal.returns
returns c =
    let behind = c.in_ok-strip_prefix.field-0 in
    let is = strip_prefix_char 32 c.args.piece.now (Some behind) c.in_ok-strip_prefix.ensures.cases (lit< tt) in
    let name = c.in_ok-name.ensures in
    let number = c.in_ok-number.ensures in
    is_split c.args.piece.now behind.now c.in_ok-name.name.now c.in_ok-name.behind.now c.in_ok-number.number.now c.in_ok-number.text.now is name.0 number.0 name.1 number.1
