use Rattle.std.proofs.Common.{ℕ, ap, ◌∙◌}
use Rattle.gup_frames.specs.Frames.{no_references}
use Rattle.gup_op_waits.proofs.FirstParts.{first_parts, parts_shown}
use Rattle.gup_op_waits.proofs.parts.first.Goals as goal

pub returns-clause-parts : goal.returns-clause-parts
returns-clause-parts c =
    first_parts c.args.script.now _ (c.in_ok-empty_spaces.ensures.many ∙ c.processes.ensures) c.in_ok-first.ensures.many
    (c.in_ok-empty_pins.ensures.many ∙ c.actors.ensures.count) c.in_ok-empty_stores.ensures.many c.in_ok-empty_stores.ensures.empty

pub returns-clause-shown : goal.returns-clause-shown
returns-clause-shown c =
    parts_shown c.args.script.now _ (c.in_ok-new.ensures ∙ ap (λ (t : ℕ × ℕ × ℕ). no_references t.0 t.1) c.frames-movable.ensures.counts)
    c.in_ok-empty_spaces.ensures.empty c.in_ok-first.ensures.many c.in_ok-first.ensures.births c.in_ok-new-2.ensures c.in_ok-empty_pins.ensures.empty c.in_ok-empty_stores.ensures.empty
