-- What a turn does to page tables. Before a page is made ready it gets the tables that it lacks, once its rights allow what is to be
-- done with it; and after a page has lost its mapping, its empty tables go.
use Rattle.std.specs.Prelude.{ℕ, ◌+◌, ◌==◌, ◌&&◌, Bool, true, false, is_some, List, [], ◌++◌, length, Option, Some, None, zero, suc}
use Rattle.gup_base.specs.declared.entry.Rights.{Rights}
use Rattle.gup_base.specs.declared.entry.Rights.TheVariants.{RW}
use Rattle.gup_plain.specs.Event.{page_numbers}
use Rattle.gup_plain.specs.State.{Birth, failed}
use Rattle.gup_script.specs.declared.op.Op.{Op}
use Rattle.gup_script.specs.declared.op.Op.TheVariants.{Unmap, Load, Store, Pin, Get, Mirror, Fork, Exit}
use Rattle.gup_spec_events.specs.State.{CoreState, Job, moving, forking, walking, ForkStep, counted, copying}
use Rattle.gup_spec_events.specs.Event.{CoreEvent, run}
use Rattle.gup_spec_events.specs.Growth.{grows, retires}
use Rattle.gup_spec_turns.specs.CoreTurn.{allows_store}
use Rattle.gup_spec_turns.specs.PageTurns.{lowest_page}

-- a page of a process
pub record Spot : Type 0 where
  pub proc : ℕ
  pub page : ℕ

abbrev pub spot : (p page : ℕ) → Option Spot
spot p page = Some (record { proc = p; page = page })

-- the page, if it may be read, or if it may be written
abbrev pub if_mapped : (p page : ℕ) → Option Rights → Option Spot
if_mapped p page None = None
if_mapped p page (Some rights) = spot p page

abbrev pub if_writable : (p page : ℕ) → Option Rights → Option Spot
if_writable p page (Some RW) = spot p page
if_writable p page right = None

-- the page of a load or a store, unless its entry is enough
abbrev pub unless : (enough : Bool) → Option Spot → Option Spot
unless true page = None
unless false page = page

-- the page of a pin's slow turn
abbrev pub pinned_at : (p page : ℕ) → (write : Bool) → Option Rights → Option Spot
pinned_at p page true right = if_writable p page right
pinned_at p page false right = if_mapped p page right

-- the next turn of a pin is a slow one, but for the first of one that walks
abbrev pub pin_grows : CoreState → (p page far : ℕ) → (write fast : Bool) → Job → Option Spot
pin_grows s p page far write fast (moving q g e allowed count) = None
pin_grows s p page far write fast (walking q w long sequence step) = None
pin_grows s p page far write fast job = unless (fast && far == 0) (pinned_at p page write (s.right p page))

-- the page that a fork shares, or takes a frame for
abbrev pub fork_grows : (c : ℕ) → ForkStep → (prepared : Option ℕ) → Option Spot
fork_grows c (counted page) prepared = spot c page
fork_grows c (copying page word) None = spot c page
fork_grows c step prepared = None

abbrev pub forks_grow : (c : ℕ) → Job → (prepared : Option ℕ) → Option Spot
forks_grow c (forking q d done step) prepared = fork_grows c step prepared
forks_grow c job prepared = None

-- which page an operation's next turn makes ready, if it does
abbrev pub grown_by : CoreState → (a p far : ℕ) → Op → Option Spot
grown_by s a p far (Load page word) = unless (is_some (s.entry p page)) (if_mapped p page (s.right p page))
grown_by s a p far (Store page word value) = unless (allows_store (s.entry p page)) (if_writable p page (s.right p page))
grown_by s a p far (Get handle page) = if_mapped p page (s.right p page)
grown_by s a p far (Mirror mirror proc page) = if_mapped p page (s.right p page)
grown_by s a p far (Pin handle page n want fast) =
    pin_grows s p (page + length (s.taken a)) far want.write fast (s.job a)
grown_by s a p far (Fork child) = forks_grow child (s.job a) (s.prepared a)
grown_by s a p far op = None

abbrev pub grows_at : CoreState → (a : ℕ) → Option Spot → List CoreEvent
grows_at s a None = []
grows_at s a (Some at) = grows s a at.proc at.page

abbrev pub retires_at : CoreState → (a : ℕ) → Option Spot → List CoreEvent
retires_at s a None = []
retires_at s a (Some at) = retires s a at.proc at.page

-- the empty tables go that a process has on the path of each mapped page, of n from the first on
abbrev pub retires_mapped : CoreState → (a c : ℕ) → (right : ℕ → Option Rights) → (first n : ℕ) → List CoreEvent
retires_mapped s a c right first zero = []
retires_mapped s a c right first (suc n) =
    let es = retires_at s a (if_mapped c first (right first)) in
    es ++ retires_mapped (run s es) a c right (first + 1) n

abbrev pub if_failed : Birth → List CoreEvent → List CoreEvent
if_failed failed es = es
if_failed birth es = []

-- a failed child has no entry any more, and keeps no table but its root: those go of each page that its parent has mapped
abbrev pub fork_shrinks : CoreState → (a c : ℕ) → (right : ℕ → Option Rights) → Job → List CoreEvent
fork_shrinks s a c right (forking q d done step) = if_failed (s.birth c) (retires_mapped s a c right 0 page_numbers)
fork_shrinks s a c right job = []

abbrev pub lowest_spot : (p : ℕ) → Option ℕ → Option Spot
lowest_spot p None = None
lowest_spot p (Some page) = spot p page

-- which tables go after an operation's turn, by the states before it and after it
abbrev pub shrinks_by : (before after : CoreState) → (a p far : ℕ) → Op → List CoreEvent
shrinks_by s t a p far (Unmap page n) = retires_at t a (if_mapped p (page + far) (s.right p (page + far)))
shrinks_by s t a p far Exit = retires_at t a (lowest_spot p (lowest_page (s.right p)))
shrinks_by s t a p far (Fork child) = fork_shrinks t a child (t.right p) (s.job a)
shrinks_by s t a p far op = []
