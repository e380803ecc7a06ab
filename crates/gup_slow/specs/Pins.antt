-- A slow pin of one page, and a reference of its frame: what they find, and what they are.
use Rattle.std.specs.Prelude.{◌≡◌, ℕ, ◌<◌, ◌≤◌, ◌^◌, true, List, [], ◌∷◌, Option, Some, None, IsSome}
use Rattle.gup_base.specs.declared.entry.Entry.{Entry}
use Rattle.gup_base.specs.declared.entry.Want.{Want}
use Rattle.gup_frames.specs.Frames.{FramesValue, IsFrame}
use Rattle.gup_space.specs.Space.{SpaceValue}
use Rattle.gup_spec_events.specs.Event.{CoreEvent, raise_flag, pin_page, get_reference}

-- The entry and its frame are right for the pin: the frame has a reference, is marked, and has room for the weight of a
-- pin; the entry is writable where the pin is to write, and the frame is of the normal zone where it is for long.
pub record IsPinnable (frames : FramesValue) (want : Want) (e : Entry) : Type 0 where
  pub there : IsFrame frames e.frame
  pub held : 0 < frames.count e.frame
  pub few : frames.count e.frame < 2 ^ 40
  pub marked : frames.mark e.frame ≡ true
  pub writable : want.write ≡ true → e.writable ≡ true
  pub normal : want.long ≡ true → frames.movable ≤ e.frame

-- the page has an entry, and it is right for the pin
pub record IsReady (frames : FramesValue) (space : SpaceValue) (page : ℕ) (want : Want) : Type 0 where
  pub entry : IsSome (space.entry page)
  pub pinnable : (e : Entry) → space.entry page ≡ Some e → IsPinnable frames want e

-- the events of a slow pin of a page with this entry
abbrev pub pins : (a p page : ℕ) → Option Entry → Want → List CoreEvent
pins a p page None want = []
pins a p page (Some e) want = raise_flag a p ∷ pin_page a p page e want.write want.long ∷ []

-- the frame of the entry is there, has a reference, and has room for one more
pub record IsGettable (frames : FramesValue) (e : Entry) : Type 0 where
  pub there : IsFrame frames e.frame
  pub held : 0 < frames.count e.frame
  pub few : frames.count e.frame < 2 ^ 40

-- the page has an entry, and its frame is so
pub record HasFrame (frames : FramesValue) (space : SpaceValue) (page : ℕ) : Type 0 where
  pub entry : IsSome (space.entry page)
  pub gettable : (e : Entry) → space.entry page ≡ Some e → IsGettable frames e

-- the event of a reference got of a page with this entry, by the handle k
abbrev pub gets : (a p page : ℕ) → Option Entry → (k : ℕ) → List CoreEvent
gets a p page None k = []
gets a p page (Some e) k = get_reference a p page e.frame k e.writable ∷ []
