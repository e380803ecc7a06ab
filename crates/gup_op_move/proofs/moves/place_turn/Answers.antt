use Rattle.std.proofs.Common.{◌≡◌, ℕ, Bool, true, false, not, [], ◌∷◌, Option, Some, None, is_none, if◌then◌else◌, refl, sym, ap, ◌∙◌}
use Rattle.gup_base.specs.declared.entry.Allowed.TheVariants.{Only}
use Rattle.gup_base.specs.declared.entry.Entry.{Entry}
use Rattle.gup_base.specs.declared.entry.Zone.{Zone}
use Rattle.gup_plain.specs.declared.answer.Answer.{Answer}
use Rattle.gup_plain.specs.declared.answer.Answer.TheVariants.{Plain, NoFrame}
use Rattle.gup_plain.specs.declared.note.What.TheVariants.{Done}
use Rattle.gup_frames.specs.Frames.{frames_of, free_frame}
use Rattle.gup_space.specs.Space.{space_of}
use Rattle.gup_spec_turns.specs.MoveTurns.{place_turn}
use Rattle.gup_op_base.specs.Said.{answered_said}
use Rattle.gup_op_move.proofs.Moving.{place_moved}
use Rattle.gup_op_move.proofs.moves.place_turn.Goals as goal

-- the answer says whether a frame was free
says : (a p page : ℕ) (zone : Zone) (e : Entry) (free : Option ℕ) (placed : Bool) → not placed ≡ is_none free → (place_turn a p page e (Only zone) free).whats ≡ Done (if placed then Plain else NoFrame) ∷ []
says a p page zone e None true is = absurd (cc is)
says a p page zone e None false is = refl
says a p page zone e (Some f) true is = refl
says a p page zone e (Some f) false is = absurd (cc is)

pub returns : goal.returns
returns c =
    let x = c.args in
    let free = free_frame (frames_of x.frames.now) (Only x.zone) in
    let answer : Answer = c.answer_of.result in
    record {
      said = answered_said answer;
      tells = c.answered.ensures;
      ends = refl;
      is_so = λ p.
          place_moved (frames_of x.frames.now) (space_of x.space.now) x.head.now.actor x.page x.zone x.entry (frames_of c.place.new.frames) (space_of c.place.new.space) (space_of c.set_table.new.self)
          free refl (c.place.ensures.events x.head.now.actor) c.set_table.ensures (Done answer ∷ [])
          (λ q. says x.head.now.actor q x.page x.zone x.entry free c.is_ok-placed.result (sym c.is_ok-placed.ensures.negation ∙ c.place.ensures.refused) ∙ ap (λ (y : Answer). Done y ∷ []) (sym c.answer_of.ensures)) p;
    }
