use Rattle.std.proofs.Common.{true, false, sym, refl}
use Rattle.gup_plain.specs.declared.answer.Answer.TheVariants as answers
use Rattle.gup_plain.specs.declared.event.PlainEvent.TheVariants as events
use Rattle.gup_frames.specs.Frames.{frames_of}
use Rattle.gup_handles.specs.Handles.{handles_of}
use Rattle.gup_op_base.specs.Said.{silent_said, done_said}
use Rattle.gup_op_pins.proofs.Holding.{pin_is_mine, pages_left, none_left_of, last_weighed, page_unpinned, still_says, gone_says}
use Rattle.gup_op_pins.proofs.holds.unpin.Goals as goal

pub put-requires-clause-there : goal.put-requires-clause-there
put-requires-clause-there c =
    let a = c.args in
    let v = handles_of a.handles.now a.handle in
    (last_weighed (frames_of a.frames.now) v a.head.now.actor c.in-Ok-drop_last.frame c.requires.weighed
    (pin_is_mine v a.head.now.actor c.in-Ok.pages.now c.in-Ok.field-0-1 c.in-Ok.ensures.pages) c.in-Ok-drop_last.ensures.last).0

pub put-requires-clause-held : goal.put-requires-clause-held
put-requires-clause-held c =
    let a = c.args in
    let v = handles_of a.handles.now a.handle in
    (last_weighed (frames_of a.frames.now) v a.head.now.actor c.in-Ok-drop_last.frame c.requires.weighed
    (pin_is_mine v a.head.now.actor c.in-Ok.pages.now c.in-Ok.field-0-1 c.in-Ok.ensures.pages) c.in-Ok-drop_last.ensures.last).1

pub returns-then-not-last-clause-turn : goal.returns-then-not-last-clause-turn
returns-then-not-last-clause-turn c =
    let a = c.args in
    let F = frames_of a.frames.now in
    let F1 = frames_of c.put.new.self in
    let H = handles_of a.handles.now in
    let H1 = handles_of c.drop_last.new.self in
    let actor = a.head.now.actor in
    let last = c.in-Ok-drop_last in
    let left = pages_left H H1 actor a.handle last.frame c.in-Ok.pages.now c.in-Ok.field-0-1 c.in-Ok.ensures.pages last.ensures.last last.ensures.dropped c.if-not-last.true in
    record {
      said = silent_said;
      tells = c.silent.ensures;
      ends = refl;
      is_so =
          page_unpinned F F1 H H1 actor a.handle last.frame true
          (pin_is_mine (H a.handle) actor c.in-Ok.pages.now c.in-Ok.field-0-1 c.in-Ok.ensures.pages) last.ensures.last c.put.ensures last.ensures.dropped
          (λ so. left) (λ so. absurd (cc));
    }

pub returns-clause-turn : goal.returns-clause-turn
returns-clause-turn c =
    let a = c.args in
    let F = frames_of a.frames.now in
    let F1 = frames_of c.put.new.self in
    let H = handles_of a.handles.now in
    let H1 = handles_of c.drop_last.new.self in
    let actor = a.head.now.actor in
    let last = c.in-Ok-drop_last in
    let none = none_left_of H H1 actor a.handle last.frame c.in-Ok.pages.now c.in-Ok.field-0-1 c.in-Ok.ensures.pages last.ensures.last last.ensures.dropped c.if-not-last.false in
    record {
      said = done_said (events.Unpin actor a.handle) answers.Plain;
      tells = c.done.ensures;
      ends = refl;
      is_so =
          page_unpinned F F1 H H1 actor a.handle last.frame false
          (pin_is_mine (H a.handle) actor c.in-Ok.pages.now c.in-Ok.field-0-1 c.in-Ok.ensures.pages) last.ensures.last c.put.ensures last.ensures.dropped
          (λ so. absurd (cc)) (λ so holds. none holds);
    }

-- ---- whatever the other handles are

pub returns-then-not-last-clause-held : goal.returns-then-not-last-clause-held
returns-then-not-last-clause-held c mine =
    let a = c.args in
    let H = handles_of a.handles.now in
    let H1 = handles_of c.drop_last.new.self in
    let actor = a.head.now.actor in
    let last = c.in-Ok-drop_last in
    let left = pages_left H H1 actor a.handle last.frame c.in-Ok.pages.now c.in-Ok.field-0-1 c.in-Ok.ensures.pages last.ensures.last last.ensures.dropped c.if-not-last.true in
    record {
      said = silent_said;
      tells = c.silent.ensures;
      ends = refl;
      is_so = record {
        pins = last.ensures.dropped;
        frames = (last.frame, last.ensures.last, c.put.ensures);
        says = sym (still_says (H1 a.handle) actor a.handle left);
      };
    }

pub returns-clause-held : goal.returns-clause-held
returns-clause-held c mine =
    let a = c.args in
    let H = handles_of a.handles.now in
    let H1 = handles_of c.drop_last.new.self in
    let actor = a.head.now.actor in
    let last = c.in-Ok-drop_last in
    let none = none_left_of H H1 actor a.handle last.frame c.in-Ok.pages.now c.in-Ok.field-0-1 c.in-Ok.ensures.pages last.ensures.last last.ensures.dropped c.if-not-last.false in
    record {
      said = done_said (events.Unpin actor a.handle) answers.Plain;
      tells = c.done.ensures;
      ends = refl;
      is_so = record {
        pins = last.ensures.dropped;
        frames = (last.frame, last.ensures.last, c.put.ensures);
        says = sym (gone_says H H1 actor a.handle mine last.ensures.dropped none);
      };
    }
