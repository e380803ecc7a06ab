-- Entries whose frames have references, and the bytes of pages.
use Rattle.std.specs.Prelude.{◌≡◌, ℕ, Some, IsSome}
use Rattle.gup_base.specs.declared.entry.Entry.{Entry}
use Rattle.gup_frames.specs.Frames.{FramesValue, IsFrame}
use Rattle.gup_space.specs.Space.{SpaceValue}

-- what a call needs of the entry that it reads: it is of a mapped page, and its frame is there and has a reference
pub record IsCounted (frames : FramesValue) (space : SpaceValue) (page : ℕ) : Type 0 where
  pub mapped : (e : Entry) → space.entry page ≡ Some e → IsSome (space.right page)
  pub there : (e : Entry) → space.entry page ≡ Some e → IsFrame frames e.frame
  pub counted : (e : Entry) → space.entry page ≡ Some e → frames.count e.frame ≡ 0 → ⊥

-- the frame of each entry has a reference
abbrev pub AreCounted : FramesValue → SpaceValue → Type 0
AreCounted frames space = (page : ℕ) (e : Entry) → space.entry page ≡ Some e → frames.count e.frame ≡ 0 → ⊥
