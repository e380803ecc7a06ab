-- The turns of a move: the page's entry is cleared, then its frame is counted, and then another frame takes its place, or the
-- entry is put back.
use Rattle.std.specs.Prelude.{ℕ, [], ◌∷◌, Option, Some, None}
use Rattle.gup_base.specs.declared.entry.Allowed.{Allowed}
use Rattle.gup_base.specs.declared.entry.Allowed.TheVariants.{Only}
use Rattle.gup_base.specs.declared.entry.Entry.{Entry}
use Rattle.gup_base.specs.declared.entry.Zone.{Zone}
use Rattle.gup_plain.specs.Denial.{load_denial}
use Rattle.gup_plain.specs.declared.answer.Answer.{Answer}
use Rattle.gup_plain.specs.declared.answer.Answer.TheVariants as answers
use Rattle.gup_plain.specs.declared.note.What.TheVariants.{Silent, Done}
use Rattle.gup_spec_events.specs.State.{CoreState, Job, idle, moving, Counted, unread, one, more}
use Rattle.gup_spec_events.specs.Event.{take_frame, put_entry, clear_entry, count_moved, place_frame, restore_entry}
use Rattle.gup_spec_turns.specs.CoreTurn.{CoreTurn, answers_with, denied_or, free_in}

-- a page without an entry has nothing to move
abbrev pub clear_turn : (a p page : ℕ) → Zone → Option Entry → CoreTurn
clear_turn a p page zone None = answers_with answers.Untouched
clear_turn a p page zone (Some e) = record { events = clear_entry a p page e (Only zone) ∷ []; whats = Silent ∷ [] }

-- the frame's count as it is now
abbrev pub count_turn : (a p page : ℕ) → Entry → Allowed → (count : ℕ) → CoreTurn
count_turn a p page e allowed count =
    record { events = count_moved a p page e allowed count ∷ []; whats = Silent ∷ [] }

-- the entry is put back, and the move refused
abbrev pub restores : (a p page : ℕ) → Entry → Allowed → Counted → Answer → CoreTurn
restores a p page e allowed count answer =
    record { events = restore_entry a p page e allowed count ∷ []; whats = Done answer ∷ [] }

-- after a count of 1 a frame is taken, if one is free, gets the words and the mark, and takes the place of the old one, whose
-- reference is given back
abbrev pub place_turn : (a p page : ℕ) → Entry → Allowed → (free : Option ℕ) → CoreTurn
place_turn a p page e allowed None = restores a p page e allowed one answers.NoFrame
place_turn a p page e allowed (Some f) =
    record {
      events = take_frame a f ∷ place_frame a p page f e allowed ∷ put_entry a e.frame ∷ [];
      whats = Done answers.Plain ∷ [];
    }

-- the turns after the clearing, by what was read of the count
abbrev pub counted_turn : CoreState → (a p page : ℕ) → Entry → Allowed → Counted → CoreTurn
counted_turn s a p page e allowed unread = count_turn a p page e allowed (s.count e.frame)
counted_turn s a p page e allowed one = place_turn a p page e allowed (free_in s allowed)
counted_turn s a p page e allowed (more count) = restores a p page e allowed (more count) (answers.Busy count)

abbrev pub move_turn : CoreState → (a p page : ℕ) → Zone → Job → CoreTurn
move_turn s a p page zone idle =
    denied_or (load_denial (s.right p page)) (clear_turn a p page zone (s.entry p page))
move_turn s a p page zone (moving q g e allowed count) = counted_turn s a p page e (Only zone) count
move_turn s a p page zone job = record { events = []; whats = Silent ∷ [] }
