use Rattle.std.proofs.Common.{◌≡◌, ◌++◌, ℕ, List, sym, ap, subst, ◌∙◌}
use Rattle.gup_script.specs.Script.{ScriptValue}
use Rattle.gup_spec_turns.specs.Run.{RunState}
use Rattle.gup_top.specs.Stuck.{stuck_text}
use Rattle.gup_summary.specs.Summary.{summary_lines}
use Rattle.gup_top.proofs.RunEnd.{WaitsSo}
use Rattle.gup_top.proofs.serial.tell_made_run.Goals as goal

pub push_stuck_lines-requires-clause-named : goal.push_stuck_lines-requires-clause-named
push_stuck_lines-requires-clause-named c =
    let run = c.in_ok-ran.ensures.run in
    let own : c.in_ok-script.script ≡ c.script.result.now = sym (c.script.ensures ∙ c.in_ok-ran.ensures.script) in
    (run.0, run.1.shown, subst (λ (s : ScriptValue). WaitsSo s run.0) own run.1.named)

pub returns : goal.returns
returns c =
    let script = c.in_ok-script.script in
    let run = c.in_ok-ran.ensures.run in
    let end : RunState = run.0 in
    let notes = c.in_ok-ran.ran.journal.notes in
    let of_stuck : c.script.result.now ≡ script = c.script.ensures ∙ c.in_ok-ran.ensures.script in (
      script,
      notes,
      end,
      c.in_ok-script.ensures,
      run.1.run,
      c.in_ok-push_stuck_lines.ensures end run.1.shown
          ∙ ap (λ (l : List ℕ). l ++ stuck_text c.script.result.now end) c.in_ok-text.ensures
          ∙ ap (λ (n : ℕ). summary_lines notes n ++ stuck_text c.script.result.now end) (c.turns.ensures ∙ run.1.turns)
          ∙ ap (λ (s : ScriptValue). summary_lines notes end.turns ++ stuck_text s end) of_stuck,
    )
