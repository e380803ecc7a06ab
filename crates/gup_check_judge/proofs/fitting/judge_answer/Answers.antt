use Rattle.std.proofs.Common.{ℕ, sym, ◌∙◌, ap}
use Rattle.gup_check_answers.specs.Answers.{got_by}
use Rattle.gup_exec_plain.specs.Parts.{state_of}
use Rattle.gup_check_judge.proofs.Shown.{not_passed, not_come, answer_shown}
use Rattle.gup_check_judge.proofs.fitting.judge_answer.Goals as goal

pub returns-then-not-passes : goal.returns-then-not-passes
returns-then-not-passes c seen times shows knows turn =
    not_passed c.args.script.now c.args.kept.now seen times c.args.note.now c.args.progress.now c.args.op.now c.passes.result
    (record { shows = shows; knows = knows; turn = turn; present = c.requires.present }) c.if-not-passes.true c.passes.ensures

pub returns-then-not-has_come : goal.returns-then-not-has_come
returns-then-not-has_come c seen times shows knows turn =
    not_come c.args.script.now c.args.kept.now seen times c.args.note.now c.args.progress.now c.args.op.now c.args.answer.now c.has_come.result c.actor-actor.result
    (record { shows = shows; knows = knows; turn = turn; present = c.requires.present }) c.requires.answer c.actor-actor.ensures c.if-not-has_come.true c.has_come.ensures

pub denied_at-denied-requires-clause-in_range : goal.denied_at-denied-requires-clause-in_range
denied_at-denied-requires-clause-in_range c =
    (c.operations_fit.ensures c.args.script.now c.args.note.now.actor c.args.progress.now.answered c.args.op.now c.requires.present.valid c.requires.present.next).1

pub returns : goal.returns
returns c seen times shows knows turn =
    rw c.then_some.ensures
    (answer_shown c.args.script.now c.args.kept.now seen times c.args.note.now c.args.progress.now c.args.op.now c.args.answer.now c.in_ok-step.step
    c.passes.result c.has_come.result c.is_right_answer.result c.has_had.result c.judged_before-judged.result c.denied_at-denied.result c.actor-actor.result c.pages_got-got.result
    (record { shows = shows; knows = knows; turn = turn; present = c.requires.present }) c.requires.answer (sym c.step_of.ensures ∙ c.in_ok-step.was) c.if-not-passes.false c.passes.ensures
    c.actor-actor.ensures c.if-not-has_come.false c.has_come.ensures
    (c.pages_got-got.ensures ∙ ap (λ (n : ℕ). got_by n c.args.answer.now) c.pages_pending.ensures ∙ sym (c.pages_are_got.ensures (state_of c.args.kept.now.plain) c.actor-actor.result c.args.answer.now))
    c.denied_at-denied.ensures c.has_had.ensures c.judged_before-judged.ensures c.is_right_answer.ensures)
