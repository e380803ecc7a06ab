use Rattle.std.proofs.Common.{List, subst}
use Rattle.gup_plain.specs.Note.{NoteValue}
use Rattle.gup_search.specs.Search.{Tells}
use Rattle.gup_search.proofs.Lists.{on_ok_both}
use Rattle.gup_search.proofs.replay.tell_turn.Goals as goal

pub returns-clause-turn : goal.returns-clause-turn
returns-clause-turn c =
    on_ok_both c.tell_notes.result _ _ _
    (
    λ told in_order.
    record {
      notes = c.turn-turn.result;
      taken = c.turn-turn.ensures.turn;
      in_order = in_order;
      tells = subst (λ (ns : List NoteValue). Tells c.args.named.now c.args.tells.now.items c.tell_notes.new.tells.items ns) c.notes.ensures.notes told;
    }
    )
    c.tell_notes.ensures.tells c.tell_notes.ensures.in_order
