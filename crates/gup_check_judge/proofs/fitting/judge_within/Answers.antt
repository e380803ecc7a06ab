use Rattle.std.proofs.Common.{◌≡◌, Some, ◌↔◌, IsTrue, ℕ, sym, ◌∙◌, subst}
use Rattle.gup_spec_accepted.specs.Waits.{WaitsRight}
use Rattle.gup_spec_journal.specs.Place.{present_op}
use Rattle.gup_check_judge.specs.Present.{standing_of}
use Rattle.gup_check_judge.proofs.Judging.{silent_judged, idle_judged, wait_judged}
use Rattle.gup_check_judge.proofs.Shown.{within_shown}
use Rattle.gup_check_judge.proofs.fitting.judge_within.Goals as goal

pub returns-in-Silent : goal.returns-in-Silent
returns-in-Silent c seen times shows knows turn =
    silent_judged c.args.script.now seen c.args.note.now (standing_of c.args.progress.now) c.args.op.now
    (within_shown c.args.script.now c.args.kept.now seen times c.args.note.now c.args.progress.now c.args.op.now
    (record { shows = shows; knows = knows; turn = turn; present = c.requires.present }))
    (sym c.what.ensures ∙ c.in-Silent.is)

pub returns-in-Idle : goal.returns-in-Idle
returns-in-Idle c seen times shows knows turn =
    idle_judged c.args.script.now seen c.args.note.now (standing_of c.args.progress.now) c.args.op.now
    (within_shown c.args.script.now c.args.kept.now seen times c.args.note.now c.args.progress.now c.args.op.now
    (record { shows = shows; knows = knows; turn = turn; present = c.requires.present }))
    (sym c.what.ensures ∙ c.in-Idle.is)

pub returns-in-Wait : goal.returns-in-Wait
returns-in-Wait c seen times shows knows turn =
    let within = within_shown c.args.script.now c.args.kept.now seen times c.args.note.now c.args.progress.now c.args.op.now
    (record { shows = shows; knows = knows; turn = turn; present = c.requires.present }) in
    rw c.then_some.ensures
    (wait_judged c.args.script.now seen c.args.note.now (standing_of c.args.progress.now) c.args.op.now c.in-Wait.waiting c.waits_right.result within
    (sym c.what.ensures ∙ c.in-Wait.is)
    (subst (λ (a : ℕ). present_op c.args.script.now a (seen.judged.places a) ≡ Some c.args.op.now → IsTrue c.waits_right.result ↔ WaitsRight c.args.script.now seen.judged a c.in-Wait.waiting)
    c.actor.ensures (c.waits_right.ensures seen times shows knows) within.present))
