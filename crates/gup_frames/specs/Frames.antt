-- The frames of the machine, and what each call makes of them.
use Rattle.std.specs.Prelude.{ℕ, ◌+◌, ◌-◌, ◌*◌, ◌<◌, ◌==◌, nat_lt, Bool, false, if◌then◌else◌, Option, List, slice_index, slice_index_or, zero, suc}
use Rattle.gup_base.specs.declared.entry.Allowed.{Allowed}
use Rattle.gup_base.specs.declared.entry.Allowed.TheVariants.{Any, Only}
use Rattle.gup_base.specs.declared.entry.Zone.{Zone}
use Rattle.gup_base.specs.declared.entry.Zone.TheVariants.{Movable, Normal}
use Rattle.gup_plain.specs.Put.{put, put2, lowest}

-- Frames below `movable` are of the movable zone, the `normal` ones after them of the normal zone. Of each frame:
-- its references, with 1,024 for each pin; its mark, which says that it is exclusive; its words.
pub record FramesValue : Type 0 where
  pub movable : ℕ
  pub normal : ℕ
  pub count : ℕ → ℕ
  pub mark : ℕ → Bool
  pub word : ℕ → ℕ → ℕ

abbrev pub no_references : (movable normal : ℕ) → FramesValue
no_references movable normal =
    record { movable = movable; normal = normal; count = λ _. 0; mark = λ _. false; word = λ _ _. 0 }

abbrev pub frames_in : FramesValue → ℕ
frames_in s = s.movable + s.normal

-- the frame is there
abbrev pub IsFrame : FramesValue → ℕ → Type 0
IsFrame s f = f < frames_in s

abbrev pub zone_of : FramesValue → ℕ → Zone
zone_of s f = if nat_lt f s.movable then Movable else Normal

-- the lowest free one of the n frames from the first on
abbrev pub free_from : FramesValue → (first n : ℕ) → Option ℕ
free_from s first n = lowest first n (λ f. s.count f == 0)

-- the lowest free frame of the zones allowed: the movable frames have the lower numbers
abbrev pub free_frame : FramesValue → Allowed → Option ℕ
free_frame s Any = free_from s 0 (frames_in s)
free_frame s (Only Movable) = free_from s 0 s.movable
free_frame s (Only Normal) = free_from s s.movable s.normal

-- a free frame gets its first reference, and no mark
abbrev pub claimed : ℕ → FramesValue → FramesValue
claimed f s = record s { count = put f 1 s.count; mark = put f false s.mark }

-- a free frame is taken: it gets its first reference, and nothing stays of what it was
abbrev pub taken : ℕ → FramesValue → FramesValue
taken f s =
    record s { count = put f 1 s.count; mark = put f false s.mark; word = put f (λ _. 0) s.word }

-- the frame gets n references more
abbrev pub with_references : ℕ → ℕ → FramesValue → FramesValue
with_references f n s = record s { count = put f (s.count f + n) s.count }

-- the frame loses n references; at 0 it is free, and nothing marks it
abbrev pub without_references : ℕ → ℕ → FramesValue → FramesValue
without_references f n s =
    record s {
      count = put f (s.count f - n) s.count;
      mark = put f (if s.count f == n then false else s.mark f) s.mark;
    }

abbrev pub with_mark : ℕ → Bool → FramesValue → FramesValue
with_mark f on s = record s { mark = put f on s.mark }

abbrev pub with_word : ℕ → ℕ → ℕ → FramesValue → FramesValue
with_word f w v s = record s { word = put2 f w v s.word }

-- frame `to` gets the words of frame `from`
abbrev pub copied : (from to : ℕ) → FramesValue → FramesValue
copied from to s = record s { word = put to (s.word from) s.word }

-- how many of the n frames from the first on are free
abbrev pub free_in : FramesValue → (first n : ℕ) → ℕ
free_in s first zero = 0
free_in s first (suc n) = (if s.count first == 0 then 1 else 0) + free_in s (first + 1) n

abbrev pub free_of : FramesValue → Zone → ℕ
free_of s Movable = free_in s 0 s.movable
free_of s Normal = free_in s s.movable s.normal

-- what a `Frames` keeps, in order of the frames: their counts, their marks, and 512 words of each. The list of words
-- ends with the last frame that was written so far.
pub record FrameLists : Type 0 where
  pub movable : ℕ
  pub normal : ℕ
  pub counts : List ℕ
  pub marks : List Bool
  pub words : List ℕ

-- the words of each frame, of which each has 512: past the end of the list they are 0
abbrev pub word_in : List ℕ → ℕ → ℕ → ℕ
word_in words f w = if nat_lt w 512 then slice_index words (512 * f + w) else 0

-- the frames that these lists are of
abbrev pub frames_of : FrameLists → FramesValue
frames_of l =
    record {
      movable = l.movable;
      normal = l.normal;
      count = slice_index l.counts;
      mark = λ f. slice_index_or l.marks f false;
      word = word_in l.words;
    }
