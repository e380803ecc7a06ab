-- What is true of frames and a process between two turns, and which turns need the table lock.
use Rattle.std.specs.Prelude.{◌≡◌, ℕ, ◌<◌, Bool, true, false, not, Some, IsSome, is_none}
use Rattle.gup_base.specs.declared.entry.Entry.{Entry}
use Rattle.gup_base.specs.declared.entry.Rights.{Rights}
use Rattle.gup_plain.specs.Event.{page_numbers}
use Rattle.gup_script.specs.declared.op.Op.{Op}
use Rattle.gup_script.specs.declared.op.Op.TheVariants.{Map, Unmap, Protect, Discard, Load, Store, Pin, Get, Mirror, Fork, Exit}
use Rattle.gup_frames.specs.Frames.{FramesValue, IsFrame}
use Rattle.gup_space.specs.Space.{SpaceValue}
use Rattle.gup_spec_turns.specs.CoreTurn.{allows_store}

-- each mapped page has the number of one
abbrev pub AreNumbered : SpaceValue → Type 0
AreNumbered space = (page : ℕ) (rights : Rights) → space.right page ≡ Some rights → page < page_numbers

-- Each entry is of a mapped page, its frame is there and has a reference, and is marked where the entry is writable.
pub record IsTidy (frames : FramesValue) (space : SpaceValue) : Type 0 where
  pub numbered : AreNumbered space
  pub mapped : (page : ℕ) (e : Entry) → space.entry page ≡ Some e → IsSome (space.right page)
  pub there : (page : ℕ) (e : Entry) → space.entry page ≡ Some e → IsFrame frames e.frame
  pub counted : (page : ℕ) (e : Entry) → space.entry page ≡ Some e → frames.count e.frame ≡ 0 → ⊥
  pub marked : (page : ℕ) (e : Entry) → space.entry page ≡ Some e → e.writable ≡ true → frames.mark e.frame ≡ true

-- A load or a store needs the table lock where its entry doesn't allow it, every other operation on pages needs it, and what
-- is done with a pin, a reference or a mirror that is there needs none.
abbrev pub needs_table : SpaceValue → Op → Bool
needs_table space (Load page word) = is_none (space.entry page)
needs_table space (Store page word value) = not (allows_store (space.entry page))
needs_table space (Map page n rights) = true
needs_table space (Unmap page n) = true
needs_table space (Protect page n rights) = true
needs_table space (Discard page n) = true
needs_table space (Pin handle page n want fast) = true
needs_table space (Get handle page) = true
needs_table space (Mirror mirror proc page) = true
needs_table space (Fork child) = true
needs_table space Exit = true
needs_table space op = false
