-- What is true of the operations of every script.
use Rattle.std.proofs.Common.{◌≡◌, ℕ, ◌<◌, ◌≤◌, Bool, true, List, Option, Some, None, slice_get, length, All, refl, ap, subst, arith}
use Rattle.std.proofs.lemmas.Option.{slice_get_within, get_or_from_slice_get}
use Rattle.gup_script.specs.Script.{ScriptValue, Process, Actor, actor_at, process_at, ops_in, ops_of, is_thread}
use Rattle.gup_script.specs.Valid.{IsScript, IsOp, IsChild, AreDeclared, ForksAt, FitsKind, IsOfDevice, IsOfMover, KindFits}
use Rattle.gup_base.specs.Counts.{most_slots}
use Rattle.gup_script.specs.declared.op.Kind.{Kind}
use Rattle.gup_script.specs.declared.op.Kind.TheVariants.{Thread, Device, Mover}
use Rattle.gup_plain.specs.State.{Birth}
use Rattle.gup_spec_journal.specs.Place.{Doer, doer, doer_of, thread_in, birth_by, birth_for, slots_of_kind, slots_in, process_of, process_in, process_of_kind, ops_of, ops_in}
use Rattle.gup_script.specs.declared.op.Op.{Op}
use Rattle.gup_script.specs.declared.op.Op.TheVariants.{Mirror, Move, Fork}

-- an actor that is declared has operations of its kind
abbrev pub FitsIn : Option Actor → Op → Type 0
FitsIn None op = ⊥
FitsIn (Some actor) op = FitsKind actor.kind op

-- what holds of each element holds of the one at a place
pub all_at : {X : Type 0} (P : X → Type 0) (xs : List X) (k : ℕ) (x : X) → All P xs → slice_get xs k ≡ Some x → P x
all_at P xs k x all is = subst P (get_or_from_slice_get xs k x x is) (all k x (slice_get_within xs k x is))

-- what holds of each operation of each actor
pub ops_at : (P : Op → Type 0) (script : ScriptValue) → All (λ (x : Actor). All P x.ops) script.actors → (a k : ℕ) (op : Op) (actor : Option Actor) → actor_at script a ≡ actor → slice_get (ops_in actor) k ≡ Some op → P op
ops_at P script all a k op None is there = absurd (cc there)
ops_at P script all a k op (Some actor) is there = all_at P actor.ops k op (all_at (λ (x : Actor). All P x.ops) script.actors a actor all is) there

-- an operation of an actor has its numbers in range
pub op_is_op : (script : ScriptValue) → IsScript script → (a k : ℕ) (op : Op) → slice_get (ops_of script a) k ≡ Some op → IsOp op
op_is_op script valid a k op there = ops_at IsOp script valid.ops a k op (actor_at script a) refl there

-- a fork brings a declared process
pub child_there : (script : ScriptValue) (child : ℕ) (process : Option Process) → process_at script child ≡ process → IsChild process → child < length script.processes
child_there script child None is brings = absurd brings
child_there script child (Some process) is brings = slice_get_within script.processes child process is

pub child_is : (script : ScriptValue) → IsScript script → (a k child : ℕ) → ForksAt script a k child → IsChild (process_at script child)
child_is script valid a k child there = ops_at (AreDeclared script) script valid.declared a k (Fork child) (actor_at script a) refl there

pub child_declared : (script : ScriptValue) → IsScript script → (a k child : ℕ) → ForksAt script a k child → child < length script.processes
child_declared script valid a k child there = child_there script child (process_at script child) refl (child_is script valid a k child there)

-- an actor that has an operation is declared
pub actor_of_op : (script : ScriptValue) (a k : ℕ) (op : Op) (actor : Option Actor) → actor_at script a ≡ actor → slice_get (ops_in actor) k ≡ Some op → a < length script.actors
actor_of_op script a k op None is there = absurd (cc there)
actor_of_op script a k op (Some actor) is there = slice_get_within script.actors a actor is

pub has_ops_declared : (script : ScriptValue) (a k : ℕ) (op : Op) → slice_get (ops_of script a) k ≡ Some op → a < length script.actors
has_ops_declared script a k op there = actor_of_op script a k op (actor_at script a) refl there

-- an operation is one of its actor's kind

pub kind_at : (script : ScriptValue) → IsScript script → (a k : ℕ) (op : Op) (actor : Option Actor) → actor_at script a ≡ actor → slice_get (ops_in actor) k ≡ Some op → FitsIn actor op
kind_at script valid a k op None is there = absurd (cc there)
kind_at script valid a k op (Some actor) is there =
    all_at (FitsKind actor.kind) actor.ops k op (all_at (λ (x : Actor). All (FitsKind x.kind) x.ops) script.actors a actor valid.ops_fit is) there

pub op_fits_kind : (script : ScriptValue) → IsScript script → (a k : ℕ) (op : Op) → slice_get (ops_of script a) k ≡ Some op → FitsIn (actor_at script a) op
op_fits_kind script valid a k op there = kind_at script valid a k op (actor_at script a) refl there

-- an operation that is none of a device, and no move, is a thread's
thread_kind : (kind : Kind) (op : Op) → FitsKind kind op → (IsOfDevice op → ⊥) → (IsOfMover op → ⊥) → is_thread kind ≡ true
thread_kind (Thread p) op fits other unmoved = refl
thread_kind (Device slots) op fits other unmoved = absurd (other fits)
thread_kind Mover op fits other unmoved = absurd (unmoved fits)

thread_in_kind : (actor : Option Actor) (op : Op) → FitsIn actor op → (IsOfDevice op → ⊥) → (IsOfMover op → ⊥) → thread_in actor ≡ true
thread_in_kind None op fits other unmoved = absurd fits
thread_in_kind (Some actor) op fits other unmoved = thread_kind actor.kind op fits other unmoved

pub is_of_thread : (script : ScriptValue) → IsScript script → (a k : ℕ) (op : Op) → slice_get (ops_of script a) k ≡ Some op → (IsOfDevice op → ⊥) → (IsOfMover op → ⊥) → (doer script a).of_process ≡ true
is_of_thread script valid a k op there other unmoved =
    thread_in_kind (actor_at script a) op (op_fits_kind script valid a k op there) other unmoved

-- one that is none that a device does by itself is of a process, a thread's or the one that it names
abbrev pub IsOfNoDevice : Op → Type 0
IsOfNoDevice (Mirror mirror proc page) = Unit {0}
IsOfNoDevice op = IsOfDevice op → ⊥

pub has_own_process : (script : ScriptValue) → IsScript script → (a k : ℕ) (op : Op) → slice_get (ops_of script a) k ≡ Some op → IsOfNoDevice op → (doer_of script a (Some op)).of_process ≡ true
has_own_process script valid a k (Move proc page zone) there other = refl
has_own_process script valid a k (Mirror mirror proc page) there other = refl
has_own_process script valid a k op there other = is_of_thread script valid a k op there other (λ moves. moves)

-- so its process is born where the actor waits for no birth
pub thread_birth : (who : Doer) (birth : ℕ → Birth) → who.of_process ≡ true → birth_for birth who ≡ birth who.proc
thread_birth who birth is = ap (λ (t : Bool). birth_by t (birth who.proc)) is

-- a store has at most 4,096 slots
slots_of_fit : (script : ScriptValue) (kind : Kind) → KindFits script kind → slots_of_kind kind ≤ most_slots
slots_of_fit script (Thread p) fits = omega arith
slots_of_fit script (Device slots) fits = fits.1
slots_of_fit script Mover fits = omega arith

few_slots_in : (script : ScriptValue) → IsScript script → (a : ℕ) (actor : Option Actor) → actor_at script a ≡ actor → slots_in actor ≤ most_slots
few_slots_in script valid a None is = omega arith
few_slots_in script valid a (Some actor) is =
    slots_of_fit script actor.kind (all_at (λ (x : Actor). KindFits script x.kind) script.actors a actor valid.kinds is)

pub few_slots : (script : ScriptValue) → IsScript script → (a : ℕ) → (doer script a).slots ≤ most_slots
few_slots script valid a = few_slots_in script valid a (actor_at script a) refl

-- the process of a thread is declared
process_declared : (script : ScriptValue) → IsScript script → (a : ℕ) (actor : Option Actor) → actor_at script a ≡ actor → thread_in actor ≡ true → process_in actor < length script.processes
process_declared script valid a None is thread = absurd (cc thread)
process_declared script valid a (Some actor) is thread =
    of_kind actor.kind (all_at (λ (x : Actor). KindFits script x.kind) script.actors a actor valid.kinds is) thread
  where
    of_kind : (kind : Kind) → KindFits script kind → is_thread kind ≡ true → process_of_kind kind < length script.processes
    of_kind (Thread p) fits thread = fits
    of_kind (Device slots) fits thread = absurd (cc thread)
    of_kind Mover fits thread = absurd (cc thread)

pub has_process : (script : ScriptValue) → IsScript script → (a : ℕ) → (doer script a).of_process ≡ true → process_of script a < length script.processes
has_process script valid a thread = process_declared script valid a (actor_at script a) refl thread

-- and so is the one that an operation is of
pub op_has_process : (script : ScriptValue) → IsScript script → (a k : ℕ) (op : Op) → slice_get (ops_of script a) k ≡ Some op → (doer_of script a (Some op)).of_process ≡ true → (doer_of script a (Some op)).proc < length script.processes
op_has_process script valid a k (Mirror mirror proc page) there is = (ops_at (AreDeclared script) script valid.declared a k (Mirror mirror proc page) (actor_at script a) refl there).1
op_has_process script valid a k (Move proc page zone) there is = ops_at (AreDeclared script) script valid.declared a k (Move proc page zone) (actor_at script a) refl there
op_has_process script valid a k op there is = has_process script valid a is
