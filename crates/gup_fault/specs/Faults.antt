-- What a fault does to frames and a process.
use Rattle.std.specs.Prelude.{◌≡◌, ℕ, Bool, true, false, List, [], ◌∷◌, Option, Some, None}
use Rattle.gup_base.specs.declared.entry.Entry.{Entry}
use Rattle.gup_plain.specs.declared.answer.Answer.{Answer}
use Rattle.gup_frames.specs.Frames.{FramesValue}
use Rattle.gup_space.specs.Shows.{Change, AreEvents}
use Rattle.gup_space.specs.Counted.{AreCounted}
use Rattle.gup_spec_events.specs.Event.{CoreEvent}
use Rattle.gup_spec_events.specs.Invariant.{frame_of}
use Rattle.gup_spec_events.specs.Fault.{Fault, events_of, refusal_of}

-- the word of a page: that of its frame, or 0 where it has no entry
abbrev pub page_word : FramesValue → Option Entry → (w : ℕ) → ℕ
page_word frames None w = 0
page_word frames (Some e) w = frames.word e.frame w

-- No byte changes: neither those of a frame that has a reference, nor those of a page.
pub record KeepsBytes (c : Change) : Type 0 where
  pub frames : (f w : ℕ) → (c.old_frames.count f ≡ 0 → ⊥) → c.new_frames.word f w ≡ c.old_frames.word f w
  pub pages : (page w : ℕ) → AreCounted c.old_frames c.old_space → page_word c.new_frames (c.new_space.entry page) w ≡ page_word c.old_frames (c.old_space.entry page) w

-- the call changed nothing
abbrev pub IsUnchanged : Change → Type 0
IsUnchanged c = (c.new_frames ≡ c.old_frames) × (c.new_space ≡ c.old_space)

-- The call was refused as the fault is, and then changed nothing; or else what is now is what the fault's events make
-- of what was. Either way no byte changed.
pub record IsFault (c : Change) (denied : Option Answer) (fault : (a p : ℕ) → Fault) : Type 0 where
  pub refused : (a p : ℕ) → refusal_of (fault a p) ≡ denied
  pub unchanged : (answer : Answer) → denied ≡ Some answer → IsUnchanged c
  pub events : AreEvents c (λ a p. events_of (fault a p))
  pub bytes : KeepsBytes c

-- there is an entry, and it is so
abbrev pub HasEntry : Option Entry → (Entry → Type 0) → Type 0
HasEntry None P = ⊥
HasEntry (Some e) P = P e

-- the entry is so writable or not, and its frame marked
abbrev pub IsExclusiveEntry : FramesValue → (writable : Bool) → Option Entry → Type 0
IsExclusiveEntry frames writable entry =
    HasEntry entry (λ e. (e.writable ≡ writable) × (frames.mark e.frame ≡ true))

-- there is an entry of a marked frame, or a writable one
abbrev pub IsMarked : FramesValue → Option Entry → Type 0
IsMarked frames entry = HasEntry entry (λ e. frames.mark e.frame ≡ true)

abbrev pub IsWritable : Option Entry → Type 0
IsWritable entry = HasEntry entry (λ e. e.writable ≡ true)

-- there is no writable entry
abbrev pub IsReadOnly : Option Entry → Type 0
IsReadOnly None = Unit {0}
IsReadOnly (Some e) = e.writable ≡ false

-- one event alone
abbrev pub one_event : CoreEvent → List CoreEvent
one_event e = e ∷ []

-- A page whose unmarked frame has one reference keeps that frame, and no frame's count changes.
abbrev pub KeepsAlone : Change → (page : ℕ) → Type 0
KeepsAlone c page =
    (e : Entry) → c.old_space.entry page ≡ Some e → c.old_frames.mark e.frame ≡ false → c.old_frames.count e.frame ≡ 1
    → (frame_of (c.new_space.entry page) ≡ Some e.frame) × ((f : ℕ) → c.new_frames.count f ≡ c.old_frames.count f)
