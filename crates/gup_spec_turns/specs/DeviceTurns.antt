-- The turns of a device's transfer: one word a turn.
use Rattle.std.specs.Prelude.{if◌then◌else◌, ℕ, ◌+◌, ◌/◌, ◌%◌, ◌==◌, Bool, true, false, List, [], ◌∷◌, slice_index}
use Rattle.gup_base.specs.Parts.{Part, words_of, word_at}
use Rattle.gup_plain.specs.Event.{words}
use Rattle.gup_plain.specs.declared.answer.Answer.TheVariants as answers
use Rattle.gup_plain.specs.declared.note.What.{What}
use Rattle.gup_plain.specs.declared.note.What.TheVariants.{Event, Done}
use Rattle.gup_spec_events.specs.State.{CoreState}
use Rattle.gup_spec_events.specs.Event.{CoreEvent, move_out, move_in}
use Rattle.gup_plain.specs.Denial.{transfer_denial}
use Rattle.gup_spec_journal.specs.Follows.{moves_word}
use Rattle.gup_spec_turns.specs.CoreTurn.{CoreTurn, denied_or}

-- the frame of the page that has this word of a pin
abbrev pub frame_at : (pinned : List ℕ) → (index : ℕ) → ℕ
frame_at pinned index = slice_index pinned (index / words)

abbrev pub moves_value : CoreState → (a : ℕ) → (outward : Bool) → (index slot f : ℕ) → ℕ
moves_value s a true index slot f = s.word f (index % words)
moves_value s a false index slot f = s.store a slot

abbrev pub moves : (a handle : ℕ) → (outward : Bool) → (index slot f value : ℕ) → CoreEvent
moves a handle true index slot f value = move_out a handle index slot f value
moves a handle false index slot f value = move_in a handle index slot f value

abbrev pub moved_if : (last : Bool) → List What
moved_if last = if last then Done answers.Words ∷ [] else []

abbrev pub word_turn : (a handle : ℕ) → (outward last : Bool) → (index slot f value : ℕ) → CoreTurn
word_turn a handle outward last index slot f value =
    record {
      events = moves a handle outward index slot f value ∷ [];
      whats = Event (moves_word a handle outward index slot value) ∷ moved_if last;
    }

abbrev pub moves_from : CoreState → (a handle : ℕ) → (outward last : Bool) → (index slot f : ℕ) → CoreTurn
moves_from s a handle outward last index slot f =
    word_turn a handle outward last index slot f (moves_value s a outward index slot f)

-- the turn that moves this word to or from this slot
abbrev pub moves_at : CoreState → (a handle : ℕ) → (outward last : Bool) → (index slot : ℕ) → CoreTurn
moves_at s a handle outward last index slot =
    moves_from s a handle outward last index slot (frame_at (s.pinned handle) index)

-- it is refused as a whole, before its first word moves; nothing that refuses it comes later
abbrev pub transfer_turn : CoreState → (a slots handle : ℕ) → (outward : Bool) → (slot : ℕ) → List Part → (far : ℕ) → CoreTurn
transfer_turn s a slots handle outward slot parts far =
    denied_or (transfer_denial (s.handle handle) a outward slots slot parts)
    (moves_at s a handle outward (far + 1 == words_of parts) (word_at parts far) (slot + far))
