-- Pins and got references by their holders, and what each call makes of them.
use Rattle.std.specs.Prelude.{◌≡◌, ℕ, ◌-◌, Bool, List, [], ◌∷◌, ◌++◌, length, take, slice_index_or}

-- A pin is held by an actor or given to one, with the frames of the pages that it still has, in order, and whether it may
-- write them. A got reference is one of a frame.
pub data HandleValue : Type 0 where
  unmade : HandleValue
  held : (by : ℕ) (frames : List ℕ) (write : Bool) → HandleValue
  given : (to : ℕ) (frames : List ℕ) (write : Bool) → HandleValue
  got : (by frame : ℕ) → HandleValue
  gone : HandleValue

-- each handle, by its number
abbrev pub HandlesValue : Type 0
HandlesValue = ℕ → HandleValue

-- the handles of this list, and unmade ones past its end
abbrev pub handles_of : List HandleValue → HandlesValue
handles_of handles h = slice_index_or handles h unmade

-- the actor holds it, and it is a pin
abbrev pub IsPinOf : HandleValue → (actor : ℕ) → Type 0
IsPinOf (held by frames write) actor = by ≡ actor
IsPinOf unmade actor = ⊥
IsPinOf (given to frames write) actor = ⊥
IsPinOf (got by frame) actor = ⊥
IsPinOf gone actor = ⊥

-- the actor holds it, be it a pin or a got reference
abbrev pub IsHeldBy : HandleValue → (actor : ℕ) → Type 0
IsHeldBy (held by frames write) actor = by ≡ actor
IsHeldBy (got by frame) actor = by ≡ actor
IsHeldBy unmade actor = ⊥
IsHeldBy (given to frames write) actor = ⊥
IsHeldBy gone actor = ⊥

-- the actor holds it, and it is a got reference
abbrev pub IsGotBy : HandleValue → (actor : ℕ) → Type 0
IsGotBy (got by frame) actor = by ≡ actor
IsGotBy unmade actor = ⊥
IsGotBy (held by frames write) actor = ⊥
IsGotBy (given to frames write) actor = ⊥
IsGotBy gone actor = ⊥

abbrev pub IsGivenTo : HandleValue → (actor : ℕ) → Type 0
IsGivenTo (given to frames write) actor = to ≡ actor
IsGivenTo unmade actor = ⊥
IsGivenTo (held by frames write) actor = ⊥
IsGivenTo (got by frame) actor = ⊥
IsGivenTo gone actor = ⊥

-- a pin that one actor holds is given to another
abbrev pub given_to : (to : ℕ) → HandleValue → HandleValue
given_to to (held by frames write) = given to frames write
given_to to handle = handle

-- and the other way round
abbrev pub taken_by : (by : ℕ) → HandleValue → HandleValue
taken_by by (given to frames write) = held by frames write
taken_by by handle = handle

-- all pages but the last
abbrev pub but_last : List ℕ → List ℕ
but_last frames = take (length frames - 1) frames

-- a pin with these pages, which is gone where there is none
abbrev pub held_or_gone : (by : ℕ) → List ℕ → Bool → HandleValue
held_or_gone by [] write = gone
held_or_gone by (f ∷ frames) write = held by (f ∷ frames) write

-- without its last page, or without the reference: that is as one that was never got
abbrev pub without_last : HandleValue → HandleValue
without_last (held by frames write) = held_or_gone by (but_last frames) write
without_last (got by frame) = unmade
without_last handle = handle

-- the frame of its last page, or of the reference
abbrev pub HasLast : HandleValue → (frame : ℕ) → Type 0
HasLast (held by frames write) frame = frames ≡ but_last frames ++ frame ∷ []
HasLast (got by f) frame = f ≡ frame
HasLast unmade frame = ⊥
HasLast (given to frames write) frame = ⊥
HasLast gone frame = ⊥
