use Rattle.std.proofs.Common.{ap, ◌∙◌}
use Rattle.gup_frames.specs.Frames.{frames_of, IsFrame}
use Rattle.gup_tables.specs.Path.{tables_on}
use Rattle.gup_space.specs.Space.{space_of}
use Rattle.gup_space.specs.Shows.{change_of}
use Rattle.std.specs.Prelude.{ℕ, ◌≤◌}
use Rattle.gup_fast.specs.Walks.{WalkValue}
use Rattle.gup_op_pins.specs.Steps.{dropped_event}
use Rattle.gup_op_pins.proofs.Stepping.{read_step, grab_step, again_steps, drop_step, read_there, grabbed_there, rechecked_there, drop_there, if_one}
use Rattle.gup_op_pins.proofs.walks.take_step.Goals as goal

pub grab-requires-clause-there : goal.grab-requires-clause-there
grab-requires-clause-there c page path e is =
    read_there (frames_of c.args.frames.now) (space_of c.args.space.now) c.args.walk.now.taken c.args.walk.now.stage page path e c.requires.steps is

pub recheck-requires-clause-kept : goal.recheck-requires-clause-kept
recheck-requires-clause-kept c page path e is =
    grabbed_there (frames_of c.args.frames.now) (space_of c.args.space.now) c.args.walk.now.taken c.args.walk.now.stage page path e c.requires.steps is

pub mark-requires-clause-there : goal.mark-requires-clause-there
mark-requires-clause-there c page e is =
    rechecked_there (frames_of c.args.frames.now) (space_of c.args.space.now) c.args.walk.now.taken c.args.walk.now.stage page e c.requires.steps is

pub drop_one-requires-clause-there : goal.drop_one-requires-clause-there
drop_one-requires-clause-there c =
    let F = frames_of c.args.frames.now in
    let w = c.args.walk.now in
    if_one (IsFrame F) _ c.in-Drop.field-0 c.in-Drop.ensures
    (drop_there F (space_of c.args.space.now) w.taken w.stage c.in-Drop.field-0 c.requires.steps c.in-Drop.ensures).0

pub drop_one-requires-clause-held : goal.drop_one-requires-clause-held
drop_one-requires-clause-held c =
    let F = frames_of c.args.frames.now in
    let w = c.args.walk.now in
    if_one (λ (f : ℕ). 1024 ≤ F.count f) _ c.in-Drop.field-0 c.in-Drop.ensures
    (drop_there F (space_of c.args.space.now) w.taken w.stage c.in-Drop.field-0 c.requires.steps c.in-Drop.ensures).1

pub returns-in-Grab-clause-step : goal.returns-in-Grab-clause-step
returns-in-Grab-clause-step c =
    let a = c.args in
    grab_step (change_of a.frames.now c.grab.new.frames a.space.now a.space.now) a.walk.now c.grab.new.self a.actor a.proc a.last c.in-Grab.page (tables_on c.in-Grab.path) c.in-Grab.entry
    c.in-Grab.ensures (c.grab.ensures.events a.space.now c.in-Grab.page (tables_on c.in-Grab.path) c.in-Grab.entry c.in-Grab.ensures)

pub returns-in-Grab-clause-page : goal.returns-in-Grab-clause-page
returns-in-Grab-clause-page c =
    ap (λ (w : WalkValue). w.page) (c.grab.ensures.walk c.in-Grab.page (tables_on c.in-Grab.path) c.in-Grab.entry c.in-Grab.ensures)

pub returns-in-Grab-clause-n : goal.returns-in-Grab-clause-n
returns-in-Grab-clause-n c =
    ap (λ (w : WalkValue). w.n) (c.grab.ensures.walk c.in-Grab.page (tables_on c.in-Grab.path) c.in-Grab.entry c.in-Grab.ensures)

pub returns-in-Recheck-clause-step : goal.returns-in-Recheck-clause-step
returns-in-Recheck-clause-step c = c.recheck.ensures.step c.args.frames.now c.args.last

pub returns-in-Mark-clause-page : goal.returns-in-Mark-clause-page
returns-in-Mark-clause-page c =
    ap (λ (w : WalkValue). w.page) (c.mark.ensures.walk c.in-Mark.page c.in-Mark.entry c.in-Mark.ensures)

pub returns-in-Mark-clause-n : goal.returns-in-Mark-clause-n
returns-in-Mark-clause-n c =
    ap (λ (w : WalkValue). w.n) (c.mark.ensures.walk c.in-Mark.page c.in-Mark.entry c.in-Mark.ensures)

pub returns-in-Drop-clause-step : goal.returns-in-Drop-clause-step
returns-in-Drop-clause-step c =
    let a = c.args in
    drop_step (change_of a.frames.now c.drop_one.new.frames a.space.now a.space.now) a.walk.now c.drop_one.new.self a.actor a.proc a.last a.got c.in-Drop.field-0
    c.drop_event-event.result c.requires.taken c.in-Drop.ensures c.drop_one.ensures.walk
    (c.drop_event-event.ensures ∙ ap (λ x. dropped_event x a.actor a.got a.last) c.stage.ensures) (c.drop_one.ensures.events a.space.now)

pub returns-in-Read-clause-step : goal.returns-in-Read-clause-step
returns-in-Read-clause-step c =
    let a = c.args in
    read_step (change_of a.frames.now a.frames.now a.space.now a.space.now) a.walk.now c.read.new.self a.actor a.proc a.last c.in-Read.ensures.0 c.in-Read.ensures.1
    c.read.ensures.events

pub returns-in-Again-clause-step : goal.returns-in-Again-clause-step
returns-in-Again-clause-step c =
    let a = c.args in
    again_steps (change_of a.frames.now a.frames.now a.space.now a.space.now) a.walk.now c.again.new.self a.actor a.proc a.last c.in-Again.ensures c.requires.some c.requires.other
    (λ step is. c.again.ensures.events a.frames.now step is)
