use Rattle.std.proofs.Common.{◌≡◌, ℕ, Bool, true, false, List, Option, None, refl, sym, ap, ◌∙◌, subst}
use Rattle.gup_base.specs.Parts.{Part}
use Rattle.gup_plain.specs.declared.answer.Answer.TheVariants as answers
use Rattle.gup_frames.specs.Frames.{frames_of}
use Rattle.gup_handles.specs.Handles.{HandleValue, handles_of}
use Rattle.gup_op_base.specs.Said.{happened_said, answered_said}
use Rattle.gup_spec_journal.specs.Follows.{moves_word}
use Rattle.gup_dio.specs.Job.{JobValue, job_of}
use Rattle.gup_op_pins.specs.Held.{slots_in}
use Rattle.gup_op_pins.proofs.Telling.{told_after}
use Rattle.gup_op_devices.specs.Transfers.{IsFound, refusal_in}
use Rattle.gup_op_devices.proofs.Moving.{word_said, found_turn, found_moved}
use Rattle.gup_op_devices.proofs.transfers.transfer.Goals as goal

-- as the contract names the parts and the slots
found_in : (v : HandleValue) (slot : ℕ) (parts : List Part) (job : JobValue) (far index place frame : ℕ) (is_last last : Bool) → job ≡ job_of slot parts → IsFound v job.first_slot job.parts far index place frame is_last → is_last ≡ last → IsFound v slot parts far index place frame last
found_in v slot parts job far index place frame is_last last same found is =
    subst (λ (b : Bool). IsFound v slot parts far index place frame b) is
    (subst (λ (j : JobValue). IsFound v j.first_slot j.parts far index place frame is_last) same found)

unrefused : (v : HandleValue) (a : ℕ) (outward : Bool) (store : Option (List ℕ)) (slots slot : ℕ) (parts : List Part) (job : JobValue) → slots ≡ slots_in store → job ≡ job_of slot parts → refusal_in v a outward slots job.first_slot job.parts ≡ None
    → refusal_in v a outward (slots_in store) slot parts ≡ None
unrefused v a outward store slots slot parts job many same none =
    ap (λ k. refusal_in v a outward k slot parts) (sym many) ∙ ap (λ (j : JobValue). refusal_in v a outward slots j.first_slot j.parts) (sym same) ∙ none

pub move_word-value-requires-clause-there : goal.move_word-value-requires-clause-there
move_word-value-requires-clause-there c =
    (c.requires.weighed _ c.in-Ok.found.frame c.in-Ok.ensures.found.page).0

pub returns-else-found-clause-turn : goal.returns-else-found-clause-turn
returns-else-found-clause-turn c =
    let a = c.args in
    let actor = a.head.now.actor in
    let F = frames_of a.frames.now in
    let F1 = frames_of c.move_word-value.new.frames in
    let H = handles_of a.handles.now in
    let word = c.in-Ok.found in
    let place = word.place in
    let found = found_in (H a.handle) a.slot a.parts.now c.new-job.result a.far place.index place.slot word.frame word.last false c.new-job.ensures c.in-Ok.ensures.found c.if-found.false in
    record {
      said = word_said (moves_word actor a.handle a.outward place.index place.slot c.move_word-value.result) false;
      tells = c.tell_moved.ensures.says;
      ends = c.if-found.false;
      is_so =
          found_turn F F1 H a.store.now c.in-Some.store c.move_word-value.new.store actor a.handle word.frame a.slot a.parts.now a.far place.index place.slot c.move_word-value.result a.outward false
          c.in-Some.is (unrefused (H a.handle) actor a.outward a.store.now c.slots_of-slots.result a.slot a.parts.now c.new-job.result c.slots_of-slots.ensures c.new-job.ensures c.in-Ok.ensures.unrefused)
          c.requires.within found c.move_word-value.ensures;
    }

pub returns-else-found-clause-moved : goal.returns-else-found-clause-moved
returns-else-found-clause-moved c none =
    let a = c.args in
    let actor = a.head.now.actor in
    let F = frames_of a.frames.now in
    let F1 = frames_of c.move_word-value.new.frames in
    let H = handles_of a.handles.now in
    let word = c.in-Ok.found in
    let place = word.place in
    let found = found_in (H a.handle) a.slot a.parts.now c.new-job.result a.far place.index place.slot word.frame word.last false c.new-job.ensures c.in-Ok.ensures.found c.if-found.false in
    record {
      said = word_said (moves_word actor a.handle a.outward place.index place.slot c.move_word-value.result) false;
      tells = c.tell_moved.ensures.says;
      ends = c.if-found.false;
      is_so =
          found_moved F F1 H a.store.now c.in-Some.store c.move_word-value.new.store actor a.handle word.frame a.slot a.parts.now a.far place.index place.slot c.move_word-value.result a.outward false
          c.in-Some.is found c.move_word-value.ensures;
    }

pub returns-then-found-clause-turn : goal.returns-then-found-clause-turn
returns-then-found-clause-turn c =
    let a = c.args in
    let actor = a.head.now.actor in
    let F = frames_of a.frames.now in
    let F1 = frames_of c.move_word-value.new.frames in
    let H = handles_of a.handles.now in
    let word = c.in-Ok.found in
    let place = word.place in
    let found = found_in (H a.handle) a.slot a.parts.now c.new-job.result a.far place.index place.slot word.frame word.last true c.new-job.ensures c.in-Ok.ensures.found c.if-found.true in
    record {
      said = word_said (moves_word actor a.handle a.outward place.index place.slot c.move_word-value.result) true;
      tells = told_after a.head.now a.journal.now c.tell_moved.new.journal c.answered-then-found.new.journal (happened_said (moves_word actor a.handle a.outward place.index place.slot c.move_word-value.result)) (answered_said answers.Words)
          (word_said (moves_word actor a.handle a.outward place.index place.slot c.move_word-value.result) true) c.tell_moved.ensures.says c.answered-then-found.ensures refl;
      ends = c.if-found.true;
      is_so =
          found_turn F F1 H a.store.now c.in-Some.store c.move_word-value.new.store actor a.handle word.frame a.slot a.parts.now a.far place.index place.slot c.move_word-value.result a.outward true
          c.in-Some.is (unrefused (H a.handle) actor a.outward a.store.now c.slots_of-slots.result a.slot a.parts.now c.new-job.result c.slots_of-slots.ensures c.new-job.ensures c.in-Ok.ensures.unrefused)
          c.requires.within found c.move_word-value.ensures;
    }

pub returns-then-found-clause-moved : goal.returns-then-found-clause-moved
returns-then-found-clause-moved c none =
    let a = c.args in
    let actor = a.head.now.actor in
    let F = frames_of a.frames.now in
    let F1 = frames_of c.move_word-value.new.frames in
    let H = handles_of a.handles.now in
    let word = c.in-Ok.found in
    let place = word.place in
    let found = found_in (H a.handle) a.slot a.parts.now c.new-job.result a.far place.index place.slot word.frame word.last true c.new-job.ensures c.in-Ok.ensures.found c.if-found.true in
    record {
      said = word_said (moves_word actor a.handle a.outward place.index place.slot c.move_word-value.result) true;
      tells = told_after a.head.now a.journal.now c.tell_moved.new.journal c.answered-then-found.new.journal (happened_said (moves_word actor a.handle a.outward place.index place.slot c.move_word-value.result)) (answered_said answers.Words)
          (word_said (moves_word actor a.handle a.outward place.index place.slot c.move_word-value.result) true) c.tell_moved.ensures.says c.answered-then-found.ensures refl;
      ends = c.if-found.true;
      is_so =
          found_moved F F1 H a.store.now c.in-Some.store c.move_word-value.new.store actor a.handle word.frame a.slot a.parts.now a.far place.index place.slot c.move_word-value.result a.outward true
          c.in-Some.is found c.move_word-value.ensures;
    }
