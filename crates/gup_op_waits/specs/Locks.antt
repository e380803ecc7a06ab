-- Which locks a turn needs, by what the machine keeps.
use Rattle.std.specs.Prelude.{ℕ, ◌-◌, ◌==◌, ◌&&◌, not, Bool, true, false, Option, Some, None, is_some}
use Rattle.gup_base.specs.declared.entry.Rights.{Rights}
use Rattle.gup_plain.specs.Event.{page_numbers}
use Rattle.gup_plain.specs.Put.{lowest}
use Rattle.gup_plain.specs.declared.note.Waiting.{Waiting}
use Rattle.gup_script.specs.declared.op.Op.{Op}
use Rattle.gup_script.specs.declared.op.Op.TheVariants.{Fork}
use Rattle.gup_spec_turns.specs.Waits.{Locks, both_locks, both_if, no_lock}
use Rattle.gup_spec_turns.specs.JobPlace.{JobPlace, unbegun, from_page, in_walk}
use Rattle.gup_op_waits.specs.declared.locks.Locks.{Locks as KeptLocks}

abbrev pub locks_of : KeptLocks → Locks
locks_of locks = record { structure = locks.structure; table = locks.table }

-- those of a fork, by the rights of its child and by where it stands
abbrev pub fork_needs : (right : ℕ → Option Rights) → JobPlace → Locks
fork_needs right unbegun = both_locks
fork_needs right (from_page page) =
    record { structure = false; table = is_some (lowest page (page_numbers - page) (λ g. is_some (right g))) }
fork_needs right other = no_lock

-- the table lock alone at the beginning of a move
abbrev pub move_needs : JobPlace → Locks
move_needs unbegun = record { structure = false; table = true }
move_needs other = no_lock

-- those of a pin, by whether it walks, how many of its turns are over, and where it stands
abbrev pub pin_needs : (fast : Bool) → (far : ℕ) → JobPlace → Locks
pin_needs fast far (in_walk sequence step) = no_lock
pin_needs fast far place = both_if (not (fast && far == 0))

-- the child that the operation brings, if it is a fork
abbrev pub child_in : Op → Option ℕ
child_in (Fork child) = Some child
child_in op = None

-- what an actor would wait for, if it needs that
abbrev pub waiting_if : (needed : Bool) → Option Waiting → Option Waiting
waiting_if true waiting = waiting
waiting_if false waiting = None
