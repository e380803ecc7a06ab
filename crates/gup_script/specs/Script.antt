-- What a script says, as contracts see it: the value of a `Script`.
use Rattle.std.specs.Prelude.{ℕ, Bool, List, [], Option, None, Some, slice_get, true, false}
use Rattle.gup_script.specs.declared.op.Op.{Op}
use Rattle.gup_script.specs.declared.op.Kind.{Kind}
use Rattle.gup_script.specs.declared.op.Kind.TheVariants.{Thread, Device, Mover}

-- how many frames the movable and the normal zone have, and how many tables
pub record FrameCounts : Type 0 where
  pub movable : ℕ
  pub normal : ℕ
  pub tables : ℕ

-- a process: a `process` line's is born at the start, a `child` line's is brought by a fork
pub record Process : Type 0 where
  pub name : List ℕ
  pub born : Bool

-- an actor with its operations in order
pub record Actor : Type 0 where
  pub name : List ℕ
  pub kind : Kind
  pub ops : List Op

-- A script. Processes, actors, handles and mirror slots are numbered from 0 in the order in which they are
-- declared; `turns` are the actors of the written turns.
pub record ScriptValue : Type 0 where
  pub frames : FrameCounts
  pub processes : List Process
  pub actors : List Actor
  pub handles : List (List ℕ)
  pub mirrors : List (List ℕ)
  pub turns : List ℕ
  pub seed : ℕ

-- what is declared under a number

abbrev pub process_at : ScriptValue → ℕ → Option Process
process_at s p = slice_get s.processes p

abbrev pub actor_at : ScriptValue → ℕ → Option Actor
actor_at s a = slice_get s.actors a

abbrev pub handle_at : ScriptValue → ℕ → Option (List ℕ)
handle_at s h = slice_get s.handles h

abbrev pub mirror_at : ScriptValue → ℕ → Option (List ℕ)
mirror_at s m = slice_get s.mirrors m

-- the operations of an actor, in order
abbrev pub ops_in : Option Actor → List Op
ops_in None = []
ops_in (Some actor) = actor.ops

abbrev pub ops_of : ScriptValue → ℕ → List Op
ops_of s a = ops_in (actor_at s a)

-- is it a thread's kind?
abbrev pub is_thread : Kind → Bool
is_thread (Thread p) = true
is_thread (Device slots) = false
is_thread Mover = false
