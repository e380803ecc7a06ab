-- What an actor waits for, by values: of which process its operation is, if it is of one, the birth of that, and whether the
-- handle of a take is given to the actor.
use Rattle.std.specs.Prelude.{ℕ, Bool, false, is_some, unwrap_or, option_and_then, Option, Some, None}
use Rattle.std.specs.Option.{option_map_or}
use Rattle.gup_plain.specs.State.{Birth, Handle}
use Rattle.gup_plain.specs.declared.note.Waiting.{Waiting}
use Rattle.gup_script.specs.Limits.{most_processes}
use Rattle.gup_script.specs.declared.op.Op.{Op}
use Rattle.gup_script.specs.declared.op.Op.TheVariants.{Take}
use Rattle.gup_spec_journal.specs.Place.{birth_by}
use Rattle.gup_spec_journal.specs.Order.{waiting_at, taking_waits, is_given_to}

-- the handle that an operation takes
abbrev pub handle_taken : Option Op → Option ℕ
handle_taken (Some (Take h)) = Some h
handle_taken op = None

-- is the handle that the operation takes given to the actor?
abbrev pub is_given : (ℕ → Handle) → (a : ℕ) → Option Op → Bool
is_given handle a op = option_map_or (λ h. is_given_to (handle h) a) (handle_taken op) false

-- the handle that a take waits for, until it is given
abbrev pub waits_to_take : (given : Bool) → Option Op → Option Waiting
waits_to_take given op = option_and_then (taking_waits given) (handle_taken op)

-- the number of the process, or that of none
abbrev pub process_number : Option ℕ → ℕ
process_number process = unwrap_or process most_processes

-- what an actor waits for: where its operation is of no process, the birth counts for nothing
abbrev pub waits_by : (process : Option ℕ) → Birth → (given : Bool) → Option Op → Option Waiting
waits_by process birth given op =
    waiting_at (process_number process) (birth_by (is_some process) birth) (waits_to_take given op)
