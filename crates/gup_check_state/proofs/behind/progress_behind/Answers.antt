use Rattle.std.proofs.Common.{◌∙◌, ap, subst}
use Rattle.gup_script.specs.Script.{actor_at}
use Rattle.gup_check_state.proofs.NoteProgress.{IsBehind, event_behind, answer_behind}
use Rattle.gup_check_state.proofs.Operations.{ops_are}
use Rattle.gup_check_state.proofs.behind.progress_behind.Goals as goal

pub returns-in-Event : goal.returns-in-Event
returns-in-Event c seen times was fits agree counted =
    subst (IsBehind c.args.script.now seen times c.args.note.now.turn c.args.note.now.actor c.args.note.now.op c.args.fit.now c.gone_on.result) c.in-Event.ensures
    (event_behind c.events_go_on.ensures c.args.script.now seen times c.args.note.now.turn c.args.note.now.actor c.args.note.now.op c.in-Event.event c.args.fit.now c.course.result c.args.count c.args.progress.now c.gone_on.result was c.course.ensures counted c.gone_on.ensures)
    fits

pub returns-in-Done : goal.returns-in-Done
returns-in-Done c seen times was fits agree counted =
    subst (IsBehind c.args.script.now seen times c.args.note.now.turn c.args.note.now.actor c.args.note.now.op c.args.fit.now c.ended.result) c.in-Done.ensures
    (answer_behind c.answers_end.ensures c.args.script.now seen times c.args.note.now.turn c.args.note.now.actor c.args.note.now.op c.in-Done.field-0 c.args.fit.now c.args.count c.ops.result.now c.args.progress.now c.ended.result was agree counted
    (ops_are c.args.script.now c.args.note.now.actor c.ops.result.now c.requires.actor (λ actor at. c.ops.ensures actor (ap (actor_at c.args.script.now) c.actor.ensures ∙ at))) c.ended.ensures)
    fits
