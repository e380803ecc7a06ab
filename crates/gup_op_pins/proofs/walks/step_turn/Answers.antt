use Rattle.std.proofs.Common.{◌≡◌, ℕ, sym, ap, ◌∙◌, subst, refl}
use Rattle.gup_space.specs.Space.{space_of}
use Rattle.gup_space.specs.Shows.{change_of}
use Rattle.gup_fast.specs.Stages.{stage_of}
use Rattle.gup_fast.specs.Walks.{WalkValue, Stage, at, walk_at, left_in}
use Rattle.gup_op_base.specs.Jobs.{step_of}
use Rattle.gup_op_base.specs.Said.{whats_of}
use Rattle.gup_op_base.specs.declared.jobs.JobPlace.TheVariants.{Walking}
use Rattle.gup_op_pins.specs.Pins.{pinning_view, last_page}
use Rattle.gup_op_pins.specs.Steps.{HasEnd, IsStep}
use Rattle.gup_op_pins.proofs.WalkTurning.{step_leads, has_end}
use Rattle.gup_op_pins.proofs.walks.step_turn.Goals as goal

pub returns : goal.returns
returns c =
    let x = c.args in
    let a = x.head.now.actor in
    let turn = c.walk_on-next.ensures.step in
    let step = step_of x.place x.page in
    let walk : c.resume.new.self ≡ walk_at x.call.page x.call.n x.call.want x.sequence (at step) x.taken.now.items =
    c.resume.ensures ∙ ap (λ (w : WalkValue). walk_at w.page w.n w.want x.sequence (stage_of c.stage_at-stage.result) x.taken.now.items) c.new-walk.ensures
    ∙ ap (λ (k : Stage). walk_at x.call.page x.call.n x.call.want x.sequence k x.taken.now.items) c.stage_at-stage.ensures in
    let counted : space_of c.leave_where_over.new.space ≡ left_in (space_of x.space.now) c.walk_on-next.new.walk.stage (space_of x.space.now).walks =
    c.leave_where_over.ensures ∙ ap (λ (k : Stage). left_in (space_of x.space.now) k (space_of x.space.now).walks) c.stage.ensures in
    let ends = subst (λ (many : ℕ). HasEnd step (last_page (Walking x.place x.page x.sequence)) c.end_of-last.result x.call.page many) (sym c.requires.taken)
    (has_end x.place x.page x.sequence c.end_of-last.result x.call.page x.got (c.end_of-last.ensures step c.stage_at-stage.ensures)) in
    record {
      said = turn.said;
      tells = turn.tells;
      ends = turn.ends;
      is_so = λ handles far s shown stands.
          step_leads (pinning_view x.frames.now x.space.now handles x.taken.now.items (Walking x.place x.page x.sequence)) (pinning_view c.walk_on-next.new.frames c.leave_where_over.new.space handles c.walk_on-next.new.taken.items c.walk_on-next.result)
          a x.call.proc x.call.handle x.call.page x.call.n far c.end_of-last.result x.sequence x.call.want x.call.fast step refl ends s shown stands
          c.walk_on-next.new.walk (whats_of turn.said)
          (subst (λ (w : WalkValue). IsStep (change_of x.frames.now c.walk_on-next.new.frames x.space.now x.space.now) w c.walk_on-next.new.walk a x.call.proc c.end_of-last.result (whats_of turn.said)) walk turn.is_so)
          counted refl c.walk_on-next.ensures.taken c.walk_on-next.ensures.place c.walk_on-next.ensures.last;
    }
