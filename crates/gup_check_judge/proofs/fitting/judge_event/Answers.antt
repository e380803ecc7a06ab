use Rattle.std.proofs.Common.{sym, ◌∙◌}
use Rattle.gup_check_judge.proofs.Shown.{not_passed, event_shown}
use Rattle.gup_check_judge.proofs.fitting.judge_event.Goals as goal

pub returns-then-not-passes : goal.returns-then-not-passes
returns-then-not-passes c seen times shows knows turn =
    not_passed c.args.script.now c.args.kept.now seen times c.args.note.now c.args.progress.now c.args.op.now c.passes.result
    (record { shows = shows; knows = knows; turn = turn; present = c.requires.present }) c.if-not-passes.true c.passes.ensures

pub denied_at-denied-requires-clause-in_range : goal.denied_at-denied-requires-clause-in_range
denied_at-denied-requires-clause-in_range c =
    (c.operations_fit.ensures c.args.script.now c.args.note.now.actor c.args.progress.now.answered c.args.op.now c.requires.present.valid c.requires.present.next).1

pub returns : goal.returns
returns c seen times shows knows turn =
    rw c.then_some.ensures
    (event_shown c.args.script.now c.args.kept.now seen times c.args.note.now c.args.progress.now c.args.op.now c.args.event.now c.in_ok-step.step
    c.passes.result c.may_stand.result c.has_had.result c.denied_at-denied.result c.actor-actor.result c.pages_pending-got.result
    (record { shows = shows; knows = knows; turn = turn; present = c.requires.present }) c.requires.event (sym c.step_of.ensures ∙ c.in_ok-step.was) c.if-not-passes.false c.passes.ensures
    c.actor-actor.ensures c.pages_pending-got.ensures c.denied_at-denied.ensures c.has_had.ensures c.may_stand.ensures)
