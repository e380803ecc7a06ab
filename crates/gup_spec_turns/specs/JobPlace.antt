-- Where an actor's job stands between two turns.
use Rattle.std.specs.Prelude.{◌≡◌, ℕ, ◌+◌, ◌≤◌, ◌<◌, false, List, Contains, Option, Some, None, IsSome}
use Rattle.gup_base.specs.declared.entry.Allowed.TheVariants.{Only}
use Rattle.gup_base.specs.declared.entry.Entry.{Entry}
use Rattle.gup_base.specs.declared.entry.Zone.{Zone}
use Rattle.gup_plain.specs.Event.{words}
use Rattle.gup_plain.specs.State.{unborn, growing, born}
use Rattle.gup_script.specs.declared.op.Op.{Op}
use Rattle.gup_script.specs.declared.op.Op.TheVariants.{Pin, Move, Fork}
use Rattle.gup_spec_events.specs.State.{CoreState, Job, idle, moving, Counted, unread, one, more, forking, between, counted, copying, walking, WalkStep}
use Rattle.gup_spec_turns.specs.ForkTurns.{first_behind}

-- Where an actor's operation stands between two turns. It has not begun, or keeps nothing. A fork looks for its next page
-- from this one on; or it has counted this page, and is to share it, or to copy it and wants a frame for that; or it has
-- copied so many words of this page into that frame. A move, or a long pin, has cleared this entry of this page, and has read
-- so much of the frame's count. The walk of a pin has read this sequence, and stands at this step.
pub data JobPlace : Type 0 where
  unbegun : JobPlace
  from_page : (page : ℕ) → JobPlace
  at_page : (page : ℕ) → JobPlace
  wants_frame : (page : ℕ) → JobPlace
  at_word : (page word to : ℕ) → JobPlace
  moving_page : (page : ℕ) (entry : Entry) (count : Counted) → JobPlace
  in_walk : (sequence : ℕ) (step : WalkStep) → JobPlace

abbrev pub copying_place : (page word : ℕ) → (prepared : Option ℕ) → JobPlace
copying_place page word None = wants_frame page
copying_place page word (Some to) = at_word page word to

abbrev pub job_place : Job → (prepared : Option ℕ) → JobPlace
job_place (forking p c done between) prepared = from_page (first_behind done)
job_place (forking p c done (counted page)) prepared = at_page page
job_place (forking p c done (copying page word)) prepared = copying_place page word prepared
job_place (moving p page e allowed count) prepared = moving_page page e count
job_place (walking p write long sequence step) prepared = in_walk sequence step
job_place job prepared = unbegun

-- where the operation of this actor stands
abbrev pub place_in : CoreState → ℕ → JobPlace
place_in s a = job_place (s.job a) (s.prepared a)

-- Actor a is in the middle of a fork of process p into this child: it holds the structure lock; the child's pages below
-- the place where it looks for the next one are done, and those from there on have no entry.
pub record IsForking (s : CoreState) (a p child q c : ℕ) (done : List ℕ) : Type 0 where
  pub parent : q ≡ p
  pub into : c ≡ child
  pub birth : s.birth child ≡ growing p
  pub locked : s.structure p ≡ Some a
  pub below : (page : ℕ) → Contains done page → page < first_behind done
  pub done_all : (page : ℕ) → page < first_behind done → IsSome (s.right child page) → Contains done page
  pub fresh : (page : ℕ) → first_behind done ≤ page → s.entry child page ≡ None

-- it has counted this page, the lowest mapped one that is not done, and keeps the table lock until the page is done
pub record HasCounted (s : CoreState) (a p child : ℕ) (done : List ℕ) (page : ℕ) : Type 0 where
  pub above : first_behind done ≤ page
  pub lowest : (g : ℕ) → first_behind done ≤ g → g < page → s.right child g ≡ None
  pub locked : s.table p ≡ Some a
  pub entry : IsSome (s.entry p page)
  pub mapped : IsSome (s.right child page)

-- of a page that it copies it has copied some words, or none yet where it wants a frame
abbrev pub HasCopied : (word : ℕ) → (prepared : Option ℕ) → Type 0
HasCopied word None = word ≡ 0
HasCopied word (Some to) = word ≤ words

-- where a fork of process p stands between two turns, by the job of its actor and the frame that this has prepared
abbrev pub StandsFork : CoreState → (a p child : ℕ) → Job → (prepared : Option ℕ) → Type 0
StandsFork s a p child idle prepared = s.birth child ≡ unborn
StandsFork s a p child (forking q c done between) prepared = IsForking s a p child q c done
StandsFork s a p child (forking q c done (counted page)) prepared =
    IsForking s a p child q c done × HasCounted s a p child done page
StandsFork s a p child (forking q c done (copying page word)) prepared =
    IsForking s a p child q c done × HasCounted s a p child done page × HasCopied word prepared
StandsFork s a p child job prepared = ⊥

-- Actor a is in the middle of a move of this page of process p. The process is born, the page is mapped and has no entry, and
-- the actor holds the table lock.
pub record IsMoving (s : CoreState) (a p page : ℕ) : Type 0 where
  pub birth : s.birth p ≡ born
  pub mapped : IsSome (s.right p page)
  pub absent : s.entry p page ≡ None
  pub locked : s.table p ≡ Some a

-- a count that isn't 1 is kept as it was read
abbrev pub IsCount : Counted → Type 0
IsCount unread = Unit {0}
IsCount one = Unit {0}
IsCount (more count) = count ≡ 1 → ⊥

-- where a move of process p stands between two turns, by the job of its actor
abbrev pub StandsMove : CoreState → (a p page : ℕ) → Zone → Job → Type 0
StandsMove s a p page zone idle = Unit {0}
StandsMove s a p page zone (moving q g e allowed count) =
    (q ≡ p) × (g ≡ page) × (allowed ≡ Only zone) × IsCount count × IsMoving s a p page
StandsMove s a p page zone job = ⊥

-- an actor keeps a frame only where its fork copies a page
abbrev pub KeepsFrame : Job → (prepared : Option ℕ) → Type 0
KeepsFrame (forking q c done (copying page word)) prepared = Unit {0}
KeepsFrame job prepared = prepared ≡ None

-- a frame that an actor has prepared is one of the machine, is not free, and stands in no entry
pub record IsPrepared (s : CoreState) (f : ℕ) : Type 0 where
  pub there : f < s.movable + s.normal
  pub counted : s.count f ≡ 0 → ⊥
  pub apart : (p page : ℕ) (e : Entry) → s.entry p page ≡ Some e → f ≡ e.frame → ⊥

-- an actor that has no fork, no move, and no pin that is long or walks to do, or none at present, is in the middle of nothing
abbrev pub KeepsNoJob : Option Op → Type 0
KeepsNoJob (Some (Pin handle page n want fast)) = (want.long ≡ false) × (fast ≡ false)
KeepsNoJob (Some (Move proc page zone)) = ⊥
KeepsNoJob (Some (Fork child)) = ⊥
KeepsNoJob op = Unit {0}
