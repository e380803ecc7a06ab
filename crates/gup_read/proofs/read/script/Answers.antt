use Rattle.std.proofs.Common.{sym, subst, ◌∙◌}
use Rattle.gup_script.specs.Valid.{IsScript}
use Rattle.gup_read.proofs.Validity.{valid}
use Rattle.gup_read.proofs.Cuts.{read_lines}
use Rattle.gup_read.proofs.read.script.Goals as goal

pub new-requires : goal.new-requires
new-requires c =
    let read = read_lines c.args.text.now c.if-text-gt-MAX_BYTES.false in
    subst IsScript (sym c.into_contents.ensures) (valid c.args.text.now c.in_ok-reader.reader (read ∙ c.in_ok-reader.ensures))
