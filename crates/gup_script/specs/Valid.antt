-- What is true of every script that is read.
use Rattle.std.specs.Prelude.{◌≡◌, ℕ, ◌+◌, ◌^◌, ◌<◌, ◌≤◌, Bool, false, List, length, slice_get, sum_by, All, Option, None, Some}
use Rattle.gup_base.specs.Parts.{Part, words_of}
use Rattle.gup_base.specs.declared.entry.Want.{Want}
use Rattle.gup_script.specs.declared.op.Kind.{Kind}
use Rattle.gup_script.specs.declared.op.Kind.TheVariants.{Thread, Device, Mover}
use Rattle.gup_script.specs.declared.op.Op.{Op}
use Rattle.gup_script.specs.declared.op.Op.TheVariants.{Map, Unmap, Protect, Discard, Load, Store, Pin, Unpin, Give, Take, Get, Put, Transfer, Mirror, Look, Move, Fork}
use Rattle.gup_script.specs.Script.{ScriptValue, Process, Actor, process_at, ops_of}
use Rattle.gup_script.specs.Limits.{most_handles, most_mirrors, most_operations, most_pinned, most_turns, most_words}
use Rattle.gup_base.specs.Counts.{most_slots}

-- the numbers of an operation are in range

abbrev pub IsPages : (page n : ℕ) → Type 0
IsPages page n = (1 ≤ n) × (n ≤ 1024) × (page + n ≤ 2 ^ 35)

-- the parts of a transfer: each has at least one word
abbrev pub AreParts : List Part → Type 0
AreParts parts =
    All (λ (part : Part). (part.0 < 2 ^ 32) × (1 ≤ part.1)) parts × (1 ≤ words_of parts) × (words_of parts ≤ most_words)

abbrev pub IsOp : Op → Type 0
IsOp (Map page n rights) = IsPages page n
IsOp (Unmap page n) = IsPages page n
IsOp (Protect page n rights) = IsPages page n
IsOp (Discard page n) = IsPages page n
IsOp (Load page word) = (page < 2 ^ 35) × (word < 512)
IsOp (Store page word value) = (page < 2 ^ 35) × (word < 512) × (value < 2 ^ 64)
IsOp (Pin handle page n want fast) = (1 ≤ n) × (n ≤ most_pinned) × (page + n ≤ 2 ^ 35)
IsOp (Transfer handle outward slot parts) = AreParts parts × (slot < 2 ^ 32)
IsOp (Get handle page) = page < 2 ^ 35
IsOp (Move proc page zone) = page < 2 ^ 35
IsOp (Mirror mirror proc page) = (mirror < most_mirrors) × (page < 2 ^ 35)
IsOp (Look mirror word) = (mirror < most_mirrors) × (word < 512)
IsOp op = Unit {0}

-- a process that is declared, and not born at the start
abbrev pub IsChild : Option Process → Type 0
IsChild None = ⊥
IsChild (Some process) = process.born ≡ false

-- What an operation names, beside its own process, is declared: the child of a fork, the process of a move or a mirror, the slot of
-- a mirror or a look, the handle of a pin or of a reference, and whom that is given to.
abbrev pub AreDeclared : ScriptValue → Op → Type 0
AreDeclared s (Fork child) = IsChild (process_at s child)
AreDeclared s (Pin handle page n want fast) = handle < length s.handles
AreDeclared s (Unpin handle) = handle < length s.handles
AreDeclared s (Give handle to) = (handle < length s.handles) × (to < length s.actors)
AreDeclared s (Take handle) = handle < length s.handles
AreDeclared s (Transfer handle outward slot parts) = handle < length s.handles
AreDeclared s (Get handle page) = handle < length s.handles
AreDeclared s (Put handle) = handle < length s.handles
AreDeclared s (Mirror mirror proc page) = (mirror < length s.mirrors) × (proc < length s.processes)
AreDeclared s (Look mirror word) = mirror < length s.mirrors
AreDeclared s (Move proc page zone) = proc < length s.processes
AreDeclared s op = Unit {0}

-- the actor's operation at this place is a fork that brings the child
abbrev pub ForksAt : ScriptValue → (a k child : ℕ) → Type 0
ForksAt s a k child = slice_get (ops_of s a) k ≡ Some (Fork child)

-- the handle that an operation makes: that of a pin, or of a reference
abbrev pub made_by : Op → Option ℕ
made_by (Pin handle page n want fast) = Some handle
made_by (Get handle page) = Some handle
made_by op = None

-- the actor's operation at this place makes the handle
abbrev pub MakesAt : ScriptValue → (a k handle : ℕ) → Type 0
MakesAt s a k handle = (op : Op) × (slice_get (ops_of s a) k ≡ Some op) × (made_by op ≡ Some handle)

-- The process of a thread is declared.
abbrev pub KindFits : ScriptValue → Kind → Type 0
KindFits s (Thread p) = p < length s.processes
KindFits s (Device slots) = (1 ≤ slots) × (slots ≤ most_slots)
KindFits s Mover = Unit {0}

-- only a device moves words and has mirrors, and only the mover moves pages
abbrev pub IsOfThread : Op → Type 0
IsOfThread (Transfer handle outward slot parts) = ⊥
IsOfThread (Mirror mirror proc page) = ⊥
IsOfThread (Look mirror word) = ⊥
IsOfThread (Move proc page zone) = ⊥
IsOfThread op = Unit {0}

-- and beside that it gives, takes and unpins
abbrev pub IsOfDevice : Op → Type 0
IsOfDevice (Unpin handle) = Unit {0}
IsOfDevice (Give handle to) = Unit {0}
IsOfDevice (Take handle) = Unit {0}
IsOfDevice (Transfer handle outward slot parts) = Unit {0}
IsOfDevice (Mirror mirror proc page) = Unit {0}
IsOfDevice (Look mirror word) = Unit {0}
IsOfDevice op = ⊥

-- and that is all that the mover does
abbrev pub IsOfMover : Op → Type 0
IsOfMover (Move proc page zone) = Unit {0}
IsOfMover op = ⊥

-- the operation is one of this kind of actor
abbrev pub FitsKind : Kind → Op → Type 0
FitsKind (Thread p) op = IsOfThread op
FitsKind (Device slots) op = IsOfDevice op
FitsKind Mover op = IsOfMover op

pub record IsScript (s : ScriptValue) : Type 0 where
  pub few_frames : s.frames.movable + s.frames.normal ≤ 1024
  pub few_tables : s.frames.tables ≤ 8192
  pub few_processes : length s.processes ≤ 16
  pub few_actors : length s.actors ≤ 81
  pub few_handles : length s.handles ≤ most_handles
  pub few_mirrors : length s.mirrors ≤ most_mirrors
  pub kinds : All (λ (a : Actor). KindFits s a.kind) s.actors
  pub ops : All (λ (a : Actor). All IsOp a.ops) s.actors
  pub ops_fit : All (λ (a : Actor). All (FitsKind a.kind) a.ops) s.actors
  pub declared : All (λ (a : Actor). All (AreDeclared s) a.ops) s.actors
  -- no two forks bring one child, and no two pins or references make one handle
  pub forks_once : (a b j k child : ℕ) → ForksAt s a j child → ForksAt s b k child → (a ≡ b) × (j ≡ k)
  pub handles_once : (a b j k handle : ℕ) → MakesAt s a j handle → MakesAt s b k handle → (a ≡ b) × (j ≡ k)
  pub few_ops : sum_by (λ (a : Actor). length a.ops) s.actors ≤ most_operations
  pub turns : All (λ a. a < length s.actors) s.turns
  pub few_turns : length s.turns ≤ most_turns
