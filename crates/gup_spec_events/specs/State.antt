-- The state of the core machine: frames with counts and marks, processes with entries, page tables and locks, pins, and
-- what each actor is in the middle of.
use Rattle.std.specs.Prelude.{ℕ, Bool, false, nat_lt, if◌then◌else◌, List, [], map, Option, None}
use Rattle.gup_base.specs.declared.entry.Allowed.{Allowed}
use Rattle.gup_base.specs.declared.entry.Entry.{Entry}
use Rattle.gup_base.specs.declared.entry.Rights.{Rights}
use Rattle.gup_spec_tables.specs.declared.place.Place.{Place}
use Rattle.gup_plain.specs.State.{PlainState, Birth, Handle, Pending, Noted, born, unborn, unmade, named_or_zero}

-- what a mover has read of the count of the frame that it took out of its entry
pub data Counted : Type 0 where
  unread : Counted
  one : Counted
  more : (count : ℕ) → Counted

-- where a fork is: between two pages, in the share of a page, in the copy of a page with so many words copied,
-- or giving back what the child has
pub data ForkStep : Type 0 where
  between : ForkStep
  counted : (page : ℕ) → ForkStep
  lowered : (page : ℕ) → ForkStep
  cleared : (page : ℕ) → ForkStep
  copying : (page words : ℕ) → ForkStep
  failing : ForkStep

-- Where a lockless walk is. In the middle of a page it may be inside of the tables of its path: those below the root to which
-- words of the table before have led, the last one first.
pub data WalkStep : Type 0 where
  entered : WalkStep
  ready : WalkStep
  reading : (page : ℕ) (path : List ℕ) → WalkStep
  read : (page : ℕ) (path : List ℕ) (entry : Entry) → WalkStep
  grabbed : (page : ℕ) (path : List ℕ) (entry : Entry) → WalkStep
  rechecked : (page : ℕ) (entry : Entry) → WalkStep
  differed : (frame : ℕ) → WalkStep
  refused : WalkStep
  stopped : WalkStep
  dropping : WalkStep
  over : WalkStep

-- What an actor's operation is in the middle of, and will still use.
pub data Job : Type 0 where
  idle : Job
  -- it has read the count 1 of this page's frame, and is about to mark it
  marking : (p page frame : ℕ) → Job
  -- it has cleared this page's entry, to move the page to a frame of these zones
  moving : (p page : ℕ) (entry : Entry) (allowed : Allowed) (count : Counted) → Job
  forking : (p child : ℕ) (done : List ℕ) (step : ForkStep) → Job
  walking : (p : ℕ) (write long : Bool) (sequence : ℕ) (step : WalkStep) → Job

-- a page that a running pin has taken, and its process
pub record Taken : Type 0 where
  pub proc : ℕ
  pub page : ℕ
  pub frame : ℕ
  pub object : ℕ
  pub write : Bool
  pub long : Bool

-- Frames below `movable` are of the movable zone, the `normal` ones after them of the normal zone. Ghosts, which
-- no step reads, say what the plain model makes of a state: the object that a frame holds exclusively, the object
-- that each page, pin and slot names, and the contents of objects.
pub record CoreState : Type 0 where
  pub movable : ℕ
  pub normal : ℕ
  -- frames: references, with 1,024 for each pin; the mark of an exclusive frame; its words
  pub count : ℕ → ℕ
  pub mark : ℕ → Bool
  pub word : ℕ → ℕ → ℕ
  pub own : ℕ → Option ℕ
  -- processes
  pub birth : ℕ → Birth
  pub sequence : ℕ → ℕ
  pub has_pinned : ℕ → Bool
  pub structure : ℕ → Option ℕ
  pub table : ℕ → Option ℕ
  pub walks : ℕ → ℕ
  pub pages : ℕ → ℕ
  -- processes and pages
  pub right : ℕ → ℕ → Option Rights
  pub entry : ℕ → ℕ → Option Entry
  pub object : ℕ → ℕ → ℕ
  pub copied : ℕ → ℕ → ℕ → Bool
  -- page tables: whether each is free, where it stands in the tree of a process, and which ones a process has taken out
  -- of its tree, the longest ago first. A table's words follow from the tree: those of one that stands nowhere are 0.
  pub free_table : ℕ → Bool
  pub place : ℕ → ℕ → Option Place
  pub retired : ℕ → List ℕ
  -- must a page have its tables before it gets an entry?
  pub needs_tables : Bool
  -- objects
  pub content : ℕ → ℕ → ℕ
  pub made : ℕ
  -- handles: who holds it, the frames of the pages that it still has, and whether it is for long; got references
  pub handle : ℕ → Handle
  pub pinned : ℕ → List ℕ
  pub for_long : ℕ → Bool
  pub got : ℕ → Option (ℕ × ℕ)
  -- mirror slots: the frame of a filled one, and what it was filled with last
  pub mirrored : ℕ → Option ℕ
  pub slot : ℕ → Option Noted
  -- actors: what each is in the middle of, a frame that it prepares, one that it has yet to give back, the pages
  -- that its pin has taken, and a device's words
  pub job : ℕ → Job
  pub prepared : ℕ → Option ℕ
  pub owed : ℕ → Option ℕ
  pub taken : ℕ → List Taken
  pub store : ℕ → ℕ → ℕ

abbrev pub pending_of : Taken → Pending
pending_of t = record { page = t.page; object = t.object; write = t.write }

-- The plain state that a core state stands for. The ghost of a page's object may outlive its mapping, where a failed
-- child's entry is yet to be given back; the plain state names no object there.
abbrev pub plain_of : CoreState → PlainState
plain_of s =
    record {
      content = s.content;
      made = s.made;
      birth = s.birth;
      right = s.right;
      object = λ p page. named_or_zero (s.right p page) (s.object p page);
      pages = s.pages;
      copied = s.copied;
      handle = s.handle;
      pending = λ a. map pending_of (s.taken a);
      store = s.store;
      slot = s.slot;
    }

-- the start: all frames and page tables are free and zero, and nothing is mapped
abbrev pub core_start : (movable normal tables : ℕ) → (needs_tables : Bool) → (ℕ → Bool) → CoreState
core_start movable normal tables needs_tables is_born =
    record {
      movable = movable;
      normal = normal;
      count = λ _. 0;
      mark = λ _. false;
      word = λ _ _. 0;
      own = λ _. None;
      birth = λ p. if is_born p then born else unborn;
      sequence = λ _. 0;
      has_pinned = λ _. false;
      structure = λ _. None;
      table = λ _. None;
      walks = λ _. 0;
      pages = λ _. 0;
      right = λ _ _. None;
      entry = λ _ _. None;
      object = λ _ _. 0;
      copied = λ _ _ _. false;
      free_table = λ table. nat_lt table tables;
      place = λ _ _. None;
      retired = λ _. [];
      needs_tables = needs_tables;
      content = λ _ _. 0;
      made = 0;
      handle = λ _. unmade;
      pinned = λ _. [];
      for_long = λ _. false;
      got = λ _. None;
      mirrored = λ _. None;
      slot = λ _. None;
      job = λ _. idle;
      prepared = λ _. None;
      owed = λ _. None;
      taken = λ _. [];
      store = λ _ _. 0;
    }
