use Rattle.std.proofs.Common.{◌≡◌, MatchOption}
use Rattle.std.proofs.lemmas.Result.{IfOk-weaker}
use Rattle.gup_spec_trace.specs.Trace.{IsLineOf, IsNoLine}
use Rattle.gup_read_notes.specs.Reading.{read_in}
use Rattle.gup_read_notes.proofs.Lines.{line_told}
use Rattle.gup_read_notes.proofs.note.read_note.Goals as goal

pub returns : goal.returns
returns c =
    let s = c.args.script.now in
    let line = c.args.line.now in
    record {
      found = IfOk-weaker c.note_of_line.result (λ found. found ≡ read_in s line) (λ found. MatchOption found (IsNoLine s line) (λ note. IsLineOf s line note)) (line_told s c.requires.names line) c.note_of_line.ensures;
    }
