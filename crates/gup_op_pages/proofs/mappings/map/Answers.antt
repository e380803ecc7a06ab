use Rattle.std.proofs.Common.{Err, refl, ap, ◌∙◌}
use Rattle.gup_maps.specs.declared.maps.MapRefusal.{MapRefusal}
use Rattle.gup_plain.specs.declared.answer.Answer.TheVariants as answers
use Rattle.gup_plain.specs.declared.event.PlainEvent.TheVariants as events
use Rattle.gup_plain.specs.Denial.{any_mapped}
use Rattle.gup_frames.specs.Frames.{frames_of}
use Rattle.gup_space.specs.Space.{space_of}
use Rattle.gup_op_base.specs.Said.{done_said, answered_said}
use Rattle.gup_op_pages.proofs.Mapping.{map_denied, map_refused, map_done, refused_with}
use Rattle.gup_op_pages.proofs.mappings.map.Goals as goal

pub returns-in-Ok : goal.returns-in-Ok
returns-in-Ok c =
    let a = c.args in
    let S = space_of a.space.now in
    record {
      said = done_said (events.Map a.head.now.actor a.proc a.page a.n a.rights) answers.Plain;
      tells = c.done.ensures;
      ends = refl;
      is_so =
          map_done (frames_of a.frames.now) S (space_of c.map.new.self) a.head.now.actor a.proc a.page a.n a.rights
          (map_denied c.map.result (any_mapped S.right a.page a.n) S.pages a.n c.map.ensures.overlap c.map.ensures.full ∙ ap refused_with c.in-Ok.is) c.in-Ok.ensures.mapped;
    }

pub returns-in-Err-Overlap : goal.returns-in-Err-Overlap
returns-in-Err-Overlap c =
    let a = c.args in
    let S = space_of a.space.now in
    record {
      said = answered_said answers.Overlap;
      tells = c.answered.ensures;
      ends = refl;
      is_so =
          map_refused (frames_of a.frames.now) S (space_of c.map.new.self) a.head.now.actor a.proc a.page a.n a.rights answers.Overlap
          (map_denied c.map.result (any_mapped S.right a.page a.n) S.pages a.n c.map.ensures.overlap c.map.ensures.full ∙ ap refused_with (c.in-Err-Overlap.is ∙ ap (λ (e : MapRefusal). Err e) c.in-Err-Overlap.field-0-is)) c.in-Err-Overlap.ensures.err;
    }

pub returns-in-Err-Full : goal.returns-in-Err-Full
returns-in-Err-Full c =
    let a = c.args in
    let S = space_of a.space.now in
    record {
      said = answered_said answers.Full;
      tells = c.answered-in-Err-Full.ensures;
      ends = refl;
      is_so =
          map_refused (frames_of a.frames.now) S (space_of c.map.new.self) a.head.now.actor a.proc a.page a.n a.rights answers.Full
          (map_denied c.map.result (any_mapped S.right a.page a.n) S.pages a.n c.map.ensures.overlap c.map.ensures.full ∙ ap refused_with (c.in-Err-Full.is ∙ ap (λ (e : MapRefusal). Err e) c.in-Err-Full.field-0-is)) c.in-Err-Full.ensures.err;
    }
