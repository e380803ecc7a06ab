-- Where an actor stands in its operations, by its notes alone.
use Rattle.std.specs.Prelude.{ℕ, ◌+◌, Bool, true, false, List, [], ◌∷◌, Option, Some, None, slice_get, length, nat_le}
use Rattle.gup_plain.specs.declared.note.What.{What}
use Rattle.gup_plain.specs.declared.note.What.TheVariants.{Silent, Idle, Wait, Event, Done}
use Rattle.gup_script.specs.declared.op.Kind.{Kind}
use Rattle.gup_script.specs.declared.op.Kind.TheVariants.{Thread, Device, Mover}
use Rattle.gup_script.specs.declared.op.Op.{Op}
use Rattle.gup_script.specs.declared.op.Op.TheVariants.{Mirror, Move}
pub use Rattle.gup_script.specs.Script.{ops_in, ops_of}
use Rattle.gup_script.specs.Limits.{most_processes}
use Rattle.gup_script.specs.Script.{ScriptValue, Process, Actor, actor_at, is_thread}
use Rattle.gup_plain.specs.State.{Birth, born}

-- how many operations the actor has answered, how many notes the present one has, and whether one is an event
pub record Place : Type 0 where
  pub answered : ℕ
  pub far : ℕ
  pub had : Bool

abbrev pub first_place : Place
first_place = record { answered = 0; far = 0; had = false }

abbrev pub place_after : Place → What → Place
place_after place Silent = record place { far = place.far + 1 }
place_after place Idle = place
place_after place (Wait waiting) = place
place_after place (Event e) = record place { far = place.far + 1; had = true }
place_after place (Done answer) = record { answered = place.answered + 1; far = 0; had = false }

abbrev pub place_behind : Place → List What → Place
place_behind place [] = place
place_behind place (what ∷ whats) = place_behind (place_after place what) whats

-- The process of a thread. Devices and the mover are of none: the number is that of none.
abbrev pub process_of_kind : Kind → ℕ
process_of_kind (Thread p) = p
process_of_kind (Device slots) = most_processes
process_of_kind Mover = most_processes

abbrev pub process_in : Option Actor → ℕ
process_in None = most_processes
process_in (Some actor) = process_of_kind actor.kind

abbrev pub process_of : ScriptValue → ℕ → ℕ
process_of script a = process_in (actor_at script a)

abbrev pub thread_in : Option Actor → Bool
thread_in None = false
thread_in (Some actor) = is_thread actor.kind

-- how many slots the store of a device has
abbrev pub slots_of_kind : Kind → ℕ
slots_of_kind (Thread p) = 0
slots_of_kind (Device slots) = slots
slots_of_kind Mover = 0

abbrev pub slots_in : Option Actor → ℕ
slots_in None = 0
slots_in (Some actor) = slots_of_kind actor.kind

-- Who does an operation: an actor; whether the operation is of a process, its thread's own or one that it names, and of
-- which; and how many slots the actor's store has.
pub record Doer : Type 0 where
  pub actor : ℕ
  pub of_process : Bool
  pub proc : ℕ
  pub slots : ℕ

abbrev pub doer_in : (a : ℕ) → Option Actor → Doer
doer_in a actor = record { actor = a; of_process = thread_in actor; proc = process_in actor; slots = slots_in actor }

abbrev pub doer : ScriptValue → ℕ → Doer
doer script a = doer_in a (actor_at script a)

-- a move and a mirror are of the process that they name; any other operation is of its thread's own, if it is one of a thread
abbrev pub is_of_process : (own : Bool) → Option Op → Bool
is_of_process own (Some (Mirror mirror proc page)) = true
is_of_process own (Some (Move proc page zone)) = true
is_of_process own op = own

abbrev pub process_of_op : (own : ℕ) → Option Op → ℕ
process_of_op own (Some (Mirror mirror proc page)) = proc
process_of_op own (Some (Move proc page zone)) = proc
process_of_op own op = own

-- The same by the operation: of the process that this is of. So a move or a mirror waits for the birth of that, as a thread's operation does.
abbrev pub concerned : Doer → Option Op → Doer
concerned who op =
    record who { of_process = is_of_process who.of_process op; proc = process_of_op who.proc op }

-- who does an actor's operation
abbrev pub doer_of : ScriptValue → (a : ℕ) → Option Op → Doer
doer_of script a op = concerned (doer script a) op

-- the birth of the process that the operation is of; one that is of none waits for no birth
abbrev pub birth_by : (of_process : Bool) → Birth → Birth
birth_by true birth = birth
birth_by false birth = born

abbrev pub birth_for : (ℕ → Birth) → Doer → Birth
birth_for birth who = birth_by who.of_process (birth who.proc)

-- the operation of an actor after those that it has answered
abbrev pub present_op : ScriptValue → ℕ → Place → Option Op
present_op script a place = slice_get (ops_of script a) place.answered

-- has the actor answered all its operations?
abbrev pub has_finished : ScriptValue → ℕ → Place → Bool
has_finished script a place = nat_le (length (ops_of script a)) place.answered

-- is the process born at the start?
abbrev pub is_born : Option Process → Bool
is_born None = false
is_born (Some process) = process.born

abbrev pub starts_born : ScriptValue → ℕ → Bool
starts_born script p = is_born (slice_get script.processes p)
