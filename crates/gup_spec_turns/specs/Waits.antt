-- What an actor waits for before its next turn.
use Rattle.std.specs.Prelude.{ℕ, ◌==◌, ◌&&◌, Bool, true, false, not, if◌then◌else◌, Option, Some, None, is_some, is_none}
use Rattle.gup_base.specs.declared.entry.Rights.{Rights}
use Rattle.gup_plain.specs.declared.note.Waiting.{Waiting}
use Rattle.gup_plain.specs.declared.note.Waiting.TheVariants as waitings
use Rattle.gup_script.specs.declared.op.Op.{Op}
use Rattle.gup_script.specs.declared.op.Op.TheVariants.{Map, Unmap, Protect, Discard, Load, Store, Pin, Get, Mirror, Fork, Exit, Move}
use Rattle.gup_spec_events.specs.State.{CoreState, Job, idle, forking, between, walking}
use Rattle.gup_spec_journal.specs.Order.{handle_waits, waiting_at}
use Rattle.gup_spec_journal.specs.Place.{Doer, birth_for}
use Rattle.gup_spec_turns.specs.CoreTurn.{allows_store}
use Rattle.gup_spec_turns.specs.ForkTurns.{next_page}

-- waiting

-- which locks of its process a turn needs
pub record Locks : Type 0 where
  pub structure : Bool
  pub table : Bool

abbrev pub both_locks : Locks
both_locks = record { structure = true; table = true }

abbrev pub no_lock : Locks
no_lock = record { structure = false; table = false }

abbrev pub both_if : Bool → Locks
both_if needed = record { structure = needed; table = needed }

-- A fork needs both at its beginning. The first turn of each page needs the table lock, which it then has until the
-- page is done, shared or copied. Its end needs none.
abbrev pub fork_locks : (right : ℕ → Option Rights) → Job → Locks
fork_locks right idle = both_locks
fork_locks right (forking p c done between) = record { structure = false; table = is_some (next_page right done) }
fork_locks right job = no_lock

-- A move needs the table lock to clear the page's entry, and has it until it is done.
abbrev pub move_locks : Job → Locks
move_locks idle = record { structure = false; table = true }
move_locks job = no_lock

-- The walk of a pin needs none, and so its first turn, which begins it. Any other turn of a pin needs both.
abbrev pub pin_locks : (fast : Bool) → (far : ℕ) → Job → Locks
pin_locks fast far (walking p write long sequence step) = no_lock
pin_locks fast far job = both_if (not (fast && far == 0))

-- A load or a store needs both where its entry doesn't allow it, and what is done with a pin, a reference or a mirror that is
-- there needs none.
abbrev pub locks_needed : CoreState → (a p far : ℕ) → Op → Locks
locks_needed s a p far (Load page word) = both_if (is_none (s.entry p page))
locks_needed s a p far (Store page word value) = both_if (not (allows_store (s.entry p page)))
locks_needed s a p far (Move proc page zone) = move_locks (s.job a)
locks_needed s a p far (Fork child) = fork_locks (s.right child) (s.job a)
locks_needed s a p far (Map page n rights) = both_locks
locks_needed s a p far (Unmap page n) = both_locks
locks_needed s a p far (Protect page n rights) = both_locks
locks_needed s a p far (Discard page n) = both_locks
locks_needed s a p far (Pin handle page n want fast) = pin_locks fast far (s.job a)
locks_needed s a p far (Get handle page) = both_locks
locks_needed s a p far (Mirror mirror proc page) = both_locks
locks_needed s a p far Exit = both_locks
locks_needed s a p far op = no_lock

-- a needed lock that another actor holds
abbrev pub held_by_other : ℕ → Option ℕ → Option Waiting
held_by_other a None = None
held_by_other a (Some b) = if a == b then None else Some (waitings.Holder b)

abbrev pub waits_for_lock : (needed : Bool) → (a : ℕ) → (holder : Option ℕ) → Option Waiting
waits_for_lock true a holder = held_by_other a holder
waits_for_lock false a holder = None

abbrev pub first_waiting : Option Waiting → Option Waiting → Option Waiting
first_waiting None second = second
first_waiting (Some waiting) second = Some waiting

abbrev pub waits_for_locks : Locks → (a : ℕ) → (structure table : Option ℕ) → Option Waiting
waits_for_locks locks a structure table =
    first_waiting (waits_for_lock locks.structure a structure) (waits_for_lock locks.table a table)

abbrev pub waits_born : CoreState → (a p far : ℕ) → Op → Option Waiting
waits_born s a p far op =
    first_waiting (handle_waits s.handle a (Some op))
    (waits_for_locks (locks_needed s a p far op) a (s.structure p) (s.table p))

-- What an actor waits for before its next turn, if it waits: first that the operation's process is born, then that a pin is
-- given to it, then for the structure lock, then for the table lock.
abbrev pub waiting_for : CoreState → Doer → (far : ℕ) → Op → Option Waiting
waiting_for s who far op = waiting_at who.proc (birth_for s.birth who) (waits_born s who.actor who.proc far op)
