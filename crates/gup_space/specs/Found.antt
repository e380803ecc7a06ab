-- The frame that is found for a page of a process.
use Rattle.std.specs.Prelude.{ℕ, ◌==◌, if◌then◌else◌, Option, None}
use Rattle.gup_base.specs.declared.entry.Allowed.{Allowed}
use Rattle.gup_frames.specs.Frames.{FramesValue, free_frame}
use Rattle.gup_space.specs.Space.{SpaceValue, lacking}

-- the one that is taken next of these zones, and none where the page lacks a page table
abbrev pub found_for : FramesValue → SpaceValue → (page : ℕ) → Allowed → Option ℕ
found_for frames space page allowed = if lacking space page == 0 then free_frame frames allowed else None
