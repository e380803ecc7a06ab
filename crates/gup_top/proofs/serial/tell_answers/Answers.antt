use Rattle.std.proofs.Common.{◌≡◌, ◌++◌, ℕ, List, sym, ap, subst, ◌∙◌}
use Rattle.gup_script.specs.Script.{ScriptValue}
use Rattle.gup_spec_turns.specs.Run.{RunState}
use Rattle.gup_lines.specs.Text.{text_of}
use Rattle.gup_top.specs.Stuck.{stuck_text}
use Rattle.gup_top.proofs.RunEnd.{WaitsSo}
use Rattle.gup_top.proofs.serial.tell_answers.Goals as goal

pub push_stuck_lines-requires-clause-named : goal.push_stuck_lines-requires-clause-named
push_stuck_lines-requires-clause-named c =
    let run = c.in_ok-ran.ensures.run in
    let own : c.args.found.script ≡ c.script-2.result.now = sym (c.script-2.ensures ∙ c.in_ok-ran.ensures.script) in
    (run.0, run.1.shown, subst (λ (s : ScriptValue). WaitsSo s run.0) own run.1.named)

pub returns : goal.returns
returns c =
    let script = c.args.found.script in
    let run = c.in_ok-ran.ensures.run in
    let end : RunState = run.0 in
    let notes = c.in_ok-ran.ran.journal.notes in
    let of_lines : c.script.result.now ≡ script = c.script.ensures ∙ c.in_ok-ran.ensures.script in
    let of_stuck : c.script-2.result.now ≡ script = c.script-2.ensures ∙ c.in_ok-ran.ensures.script in (
      end,
      run.1.run,
      (c.in_ok-ran.ensures.script, run.1.shown, run.1.turns),
      c.in_ok-push_stuck_lines.ensures end run.1.shown
          ∙ ap (λ (l : List ℕ). l ++ stuck_text c.script-2.result.now end) c.in_ok-text.ensures
          ∙ ap (λ (s : ScriptValue). text_of s notes ++ stuck_text c.script-2.result.now end) of_lines
          ∙ ap (λ (s : ScriptValue). text_of script notes ++ stuck_text s end) of_stuck,
    )
