use Rattle.std.proofs.Common.{None, Some, sym, ap, ◌∙◌}
use Rattle.gup_plain.specs.declared.event.PlainEvent.TheVariants.{PinTry}
use Rattle.gup_space.specs.Space.{space_of, tables_in}
use Rattle.gup_spec_tables.specs.Paths.{entry_at, leads_still}
use Rattle.gup_space.specs.Shows.{change_of}
use Rattle.gup_fast.specs.Walks.{is_same as is_same_entry}
use Rattle.gup_op_pins.proofs.Stepping.{grabbed_entry, other_tells, same_tells, recheck_page, recheck_step}
use Rattle.gup_op_pins.proofs.walks.recheck.Goals as goal

pub returns-then-is_some-clause-step : goal.returns-then-is_some-clause-step
returns-then-is_some-clause-step c frames last =
    let a = c.args in
    let w = a.walk.now in
    let g = a.page in
    let found = grabbed_entry w.stage g c.requires.grabbed in
    let v = tables_in (space_of a.space.now) in
    recheck_step (change_of frames frames a.space.now a.space.now) w c.recheck.new.self a.actor a.proc last g found.0 found.1 None found.2
    (c.recheck.ensures.walk g found.0 found.1 found.2)
    (other_tells (leads_still v found.0 g) (is_same_entry found.1 (entry_at v found.0 g)) _ _ c.recheck.result a.actor a.proc g w.want.write (c.recheck.ensures.found g found.0 found.1 found.2) (sym c.is_some.ensures ∙ c.if-is_some.true))
    (c.recheck.ensures.events frames g found.0 found.1 found.2)

pub returns-then-is_some-clause-page : goal.returns-then-is_some-clause-page
returns-then-is_some-clause-page c =
    let w = c.args.walk.now in
    let found = grabbed_entry w.stage c.args.page c.requires.grabbed in
    (recheck_page (tables_in (space_of c.args.space.now)) w c.recheck.new.self c.args.page found.0 found.1 (c.recheck.ensures.walk c.args.page found.0 found.1 found.2)).0

pub returns-then-is_some-clause-n : goal.returns-then-is_some-clause-n
returns-then-is_some-clause-n c =
    let w = c.args.walk.now in
    let found = grabbed_entry w.stage c.args.page c.requires.grabbed in
    (recheck_page (tables_in (space_of c.args.space.now)) w c.recheck.new.self c.args.page found.0 found.1 (c.recheck.ensures.walk c.args.page found.0 found.1 found.2)).1

pub returns-clause-step : goal.returns-clause-step
returns-clause-step c frames last =
    let a = c.args in
    let w = a.walk.now in
    let g = a.page in
    let found = grabbed_entry w.stage g c.requires.grabbed in
    let v = tables_in (space_of a.space.now) in
    recheck_step (change_of frames frames a.space.now a.space.now) w c.recheck.new.self a.actor a.proc last g found.0 found.1 _ found.2
    (c.recheck.ensures.walk g found.0 found.1 found.2)
    (ap (λ b. Some (PinTry a.actor a.proc g b)) (sym c.requires.write)
    ∙ same_tells (leads_still v found.0 g) (is_same_entry found.1 (entry_at v found.0 g)) _ _ c.recheck.result a.actor a.proc g w.want.write (c.recheck.ensures.found g found.0 found.1 found.2) (sym c.is_some.ensures ∙ c.if-is_some.false))
    (c.recheck.ensures.events frames g found.0 found.1 found.2)

pub returns-clause-page : goal.returns-clause-page
returns-clause-page c =
    let w = c.args.walk.now in
    let found = grabbed_entry w.stage c.args.page c.requires.grabbed in
    (recheck_page (tables_in (space_of c.args.space.now)) w c.recheck.new.self c.args.page found.0 found.1 (c.recheck.ensures.walk c.args.page found.0 found.1 found.2)).0

pub returns-clause-n : goal.returns-clause-n
returns-clause-n c =
    let w = c.args.walk.now in
    let found = grabbed_entry w.stage c.args.page c.requires.grabbed in
    (recheck_page (tables_in (space_of c.args.space.now)) w c.recheck.new.self c.args.page found.0 found.1 (c.recheck.ensures.walk c.args.page found.0 found.1 found.2)).1
