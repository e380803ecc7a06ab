use Rattle.std.proofs.Common.{◌≡◌, ◌++◌, List, sym, ap, ◌∙◌, append_assoc}
use Rattle.std.specs.List.{flat_map}
use Rattle.gup_plain.specs.Note.{NoteValue}
use Rattle.gup_script.specs.Script.{ScriptValue}
use Rattle.gup_spec_trace.specs.Note.{note_line}
use Rattle.gup_spec_trace.specs.Trace.{journal_line}
use Rattle.gup_top.proofs.serial.tell_trace.Goals as goal

pub returns-clause-told : goal.returns-clause-told
returns-clause-told c =
    let run = c.in_ok-ran.ensures.run in
    let bytes = c.args.found.text.items in
    let notes = c.in_ok-ran.ran.journal.notes in
    let of_lines : c.script.result.now ≡ c.args.found.script = c.script.ensures ∙ c.in_ok-ran.ensures.script in (
      run.0,
      run.1.run,
      (c.in_ok-ran.ensures.script, run.1.shown, run.1.turns),
      c.in_ok-push_journal.ensures.ok
          ∙ ap (λ (ns : List NoteValue). bytes ++ (journal_line ++ flat_map (note_line c.script.result.now) ns)) c.notes.ensures
          ∙ ap (λ (s : ScriptValue). bytes ++ (journal_line ++ flat_map (note_line s) notes)) of_lines
          ∙ sym (append_assoc bytes journal_line (flat_map (note_line c.args.found.script) notes)),
    )
