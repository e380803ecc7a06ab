-- What a `Frames` keeps true of its lists.
use Rattle.std.specs.Prelude.{◌≡◌, ℕ, ◌+◌, ◌*◌, ◌≤◌, ◌==◌, List, length, slice_index_or}
use Rattle.gup_base.specs.declared.entry.Zone.TheVariants.{Movable, Normal}
use Rattle.gup_bits.specs.Bits.{has, room_of}
use Rattle.gup_frames.specs.Frames.{FrameLists, frames_of, free_of}

-- There are at most 1,024 frames, and each has its count, its mark, room for its words and room in the set; there are no others. The set has
-- the free ones: a number past the end reads as that of a taken frame. The two numbers are how many are free in each zone.
pub record IsKept (l : FrameLists) (room : ℕ) (free : List ℕ) (free_movable free_normal : ℕ) : Type 0 where
  pub few : l.movable + l.normal ≤ 1024
  pub counts : length l.counts ≡ l.movable + l.normal
  pub marks : length l.marks ≡ l.movable + l.normal
  pub words : 512 * (l.movable + l.normal) ≤ room
  pub few_words : length l.words ≤ 512 * (l.movable + l.normal)
  pub set_room : l.movable + l.normal ≤ room_of free
  pub set : (f : ℕ) → has free f ≡ (slice_index_or l.counts f 1 == 0)
  pub movable : free_movable ≡ free_of (frames_of l) Movable
  pub normal : free_normal ≡ free_of (frames_of l) Normal
