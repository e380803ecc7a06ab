-- What a word of a transfer does to a pin's frames and to the store of its device, and what refuses it.
use Rattle.std.specs.Prelude.{◌≡◌, ℕ, ◌+◌, ◌/◌, ◌%◌, ◌==◌, Bool, true, false, if◌then◌else◌, List, [], length, slice_get, slice_index, Option, Some, None}
use Rattle.gup_base.specs.Parts.{Part, words_of, word_at}
use Rattle.gup_plain.specs.Denial.{is_held_by, transfer_denial_by}
use Rattle.gup_plain.specs.Event.{words}
use Rattle.gup_plain.specs.Put.{put}
use Rattle.gup_plain.specs.State as plain
use Rattle.gup_plain.specs.declared.answer.Answer.{Answer}
use Rattle.gup_plain.specs.declared.answer.Answer.TheVariants as answers
use Rattle.gup_frames.specs.Frames.{FramesValue, with_word}
use Rattle.gup_device.specs.Store.{store_of}
use Rattle.gup_dio.specs.Job.{job_of, fits_in}
use Rattle.gup_handles.specs.Handles.{HandleValue, unmade, held, given, got, gone}
use Rattle.gup_spec_events.specs.State.{CoreState}
use Rattle.gup_spec_journal.specs.Follows.{moves_word}
use Rattle.gup_op_base.specs.Said.{Said}
use Rattle.gup_op_pins.specs.Pins.{frames_in}
use Rattle.gup_op_pins.specs.Held.{HeldView}

-- does the actor hold the pin, and may the pin write?
abbrev pub is_pin_of : HandleValue → (a : ℕ) → Bool
is_pin_of (held by frames write) a = by == a
is_pin_of (given to frames write) a = false
is_pin_of unmade a = false
is_pin_of (got by frame) a = false
is_pin_of gone a = false

abbrev pub writes_in : HandleValue → Bool
writes_in (held by frames write) = write
writes_in (given to frames write) = write
writes_in unmade = false
writes_in (got by frame) = false
writes_in gone = false

-- what refuses a transfer, by the pin as it is kept
abbrev pub refusal_in : HandleValue → (a : ℕ) → (outward : Bool) → (slots slot : ℕ) → List Part → Option Answer
refusal_in handle a outward slots slot parts =
    transfer_denial_by (is_pin_of handle a) outward (writes_in handle)
    (fits_in (length (frames_in handle)) slots (job_of slot parts))

-- The word of the parts with this number is the one with this index, and goes with this slot, where the first of them has that one;
-- the frame is that of its page in the pin, and this is whether it is the last.
pub record IsFound (handle : HandleValue) (first_slot : ℕ) (parts : List Part) (far index slot frame : ℕ) (last : Bool) : Type 0 where
  pub word : index ≡ word_at parts far
  pub goes : slot ≡ first_slot + far
  pub page : slice_get (frames_in handle) (index / words) ≡ Some frame
  pub ends : last ≡ (far + 1 == words_of parts)

-- Frames and a store after a word that moved, by its value: outward into the slot, or inward into the frame.
abbrev pub HasMoved : (outward : Bool) → (old new : FramesValue) → (old_words new_words : List ℕ) → (f word slot value : ℕ) → Type 0
HasMoved true old new old_words new_words f word slot value =
    (value ≡ old.word f word) × (new ≡ old)
    × (store_of new_words ≡ record (store_of old_words) { word = put slot value (store_of old_words).word })
HasMoved false old new old_words new_words f word slot value =
    (value ≡ slice_index old_words slot) × (new ≡ with_word f word value old)
    × (store_of new_words ≡ store_of old_words)

-- the pin that the actor holds, if it does, has all its pages
abbrev pub IsWhole : CoreState → (a handle : ℕ) → Type 0
IsWhole s a handle =
    is_held_by (s.handle handle) a ≡ true → length (s.pinned handle) ≡ length (plain.objects_of (s.handle handle))

-- the words of a store, if there is one
abbrev pub words_in : Option (List ℕ) → List ℕ
words_in None = []
words_in (Some words) = words

-- The word of the pin with this index moved, out into this slot or in from it, and is said, with the answer at the last.
abbrev pub IsMoved : (old new : HeldView) → (a handle : ℕ) → (outward : Bool) → (index slot : ℕ) → (last : Bool) → Said → Type 0
IsMoved old new a handle outward index slot last said =
    (frame : ℕ) × (value : ℕ) × (slice_get (frames_in (old.pins handle)) (index / words) ≡ Some frame)
    × HasMoved outward old.frames new.frames (words_in old.store) (words_in new.store) frame (index % words) slot value
    × (said ≡ record { event = Some (moves_word a handle outward index slot value); next = None; answer = if last then Some answers.Words else None })
