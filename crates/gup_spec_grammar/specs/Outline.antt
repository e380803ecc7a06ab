-- What the lines so far have made: the script up to here, its names, and what counts and comes once.
use Rattle.std.specs.Prelude.{ℕ, ◌+◌, ◌*◌, ◌/◌, ◌%◌, ◌^◌, ◌==◌, nat_lt, Bool, true, false, not, if◌then◌else◌, List, [], ◌∷◌, ◌++◌, length, count_by, slice_get, Option, Some, None, zero, suc}
use Rattle.std.specs.List.{list_any}
use Rattle.gup_spec_grammar.specs.Names.{NamedEntry, declared}
use Rattle.gup_spec_grammar.specs.declared.named.Named.{Named}
use Rattle.gup_spec_grammar.specs.declared.named.Named.TheVariants as named
use Rattle.gup_script.specs.declared.op.Kind.{Kind}
use Rattle.gup_script.specs.declared.op.Kind.TheVariants.{Thread, Device, Mover}
use Rattle.gup_script.specs.declared.op.Op.{Op}
use Rattle.gup_script.specs.declared.op.Op.TheVariants.{Fork}
use Rattle.gup_script.specs.Script.{ScriptValue, Process, Actor, FrameCounts}
use Rattle.gup_script.specs.Limits.{most_handles, most_mirrors}

pub record Outline : Type 0 where
  pub script : ScriptValue
  -- all names, in the order in which they are declared
  pub names : List NamedEntry
  -- how many operations there are
  pub operations : ℕ
  -- is there a `seed` line?
  pub seeded : Bool

-- the three numbers of a `frames` line
abbrev pub frame_counts : ℕ × ℕ × ℕ → FrameCounts
frame_counts numbers = record { movable = numbers.0; normal = numbers.1; tables = numbers.2 }

abbrev pub empty_outline : FrameCounts → Outline
empty_outline counts =
    record {
      script = record { frames = counts; processes = []; actors = []; handles = []; mirrors = []; turns = []; seed = 0 };
      names = [];
      operations = 0;
      seeded = false;
    }

-- one more process, actor, handle, mirror slot or operation; more written turns; the seed

abbrev pub with_process : List ℕ → Bool → Outline → Outline
with_process name born st =
    record st {
      script = record st.script { processes = st.script.processes ++ record { name = name; born = born } ∷ [] };
      names = declared st.names name (named.Process (length st.script.processes));
    }

abbrev pub with_actor : List ℕ → Kind → Outline → Outline
with_actor name kind st =
    record st {
      script = record st.script { actors = st.script.actors ++ record { name = name; kind = kind; ops = [] } ∷ [] };
      names = declared st.names name (named.Actor (length st.script.actors));
    }

-- a handle, whose name names this
abbrev pub with_named : List ℕ → Named → Outline → Outline
with_named name what st =
    record st {
      script = record st.script { handles = st.script.handles ++ name ∷ [] };
      names = declared st.names name what;
    }

-- the handle of a pin
abbrev pub with_handle : List ℕ → Outline → Outline
with_handle name st = with_named name (named.Pin (length st.script.handles)) st

-- the handle of a reference
abbrev pub with_reference : List ℕ → Outline → Outline
with_reference name st = with_named name (named.Got (length st.script.handles)) st

-- a mirror slot of this device
abbrev pub with_mirror : (device : ℕ) → List ℕ → Outline → Outline
with_mirror device name st =
    record st {
      script = record st.script { mirrors = st.script.mirrors ++ name ∷ [] };
      names = declared st.names name (named.Mirror (length st.script.mirrors) device);
    }

-- the same, unless the name names something already
abbrev pub with_slot : (device : ℕ) → List ℕ → Option Named → Outline → Outline
with_slot device name None st = with_mirror device name st
with_slot device name (Some what) st = st

abbrev pub with_op : ℕ → Op → List Actor → List Actor
with_op k op [] = []
with_op zero op (a ∷ actors) = record a { ops = a.ops ++ op ∷ [] } ∷ actors
with_op (suc k) op (a ∷ actors) = a ∷ with_op k op actors

abbrev pub with_operation : ℕ → Op → Outline → Outline
with_operation a op st =
    record st {
      script = record st.script { actors = with_op a op st.script.actors };
      operations = st.operations + 1;
    }

abbrev pub with_turns : List ℕ → Outline → Outline
with_turns turns st = record st { script = record st.script { turns = st.script.turns ++ turns } }

abbrev pub with_seed : ℕ → Outline → Outline
with_seed seed st = record st { script = record st.script { seed = seed }; seeded = true }

-- the kinds of actors, and how many there are of one

abbrev pub is_device : Kind → Bool
is_device (Device slots) = true
is_device (Thread p) = false
is_device Mover = false

abbrev pub is_mover : Kind → Bool
is_mover Mover = true
is_mover (Thread p) = false
is_mover (Device slots) = false

abbrev pub how_many : (Kind → Bool) → Outline → ℕ
how_many test st = count_by (λ (a : Actor). test a.kind) st.script.actors

abbrev pub has_mover : Outline → Bool
has_mover st = list_any (λ (a : Actor). is_mover a.kind) st.script.actors

-- a process that a fork is to bring
abbrev pub is_child_at : Option Process → Bool
is_child_at None = false
is_child_at (Some process) = not process.born

abbrev pub is_child : Outline → ℕ → Bool
is_child st p = is_child_at (slice_get st.script.processes p)

-- a child that an earlier `fork` line brings
abbrev pub forks_child : ℕ → Op → Bool
forks_child p (Fork child) = child == p
forks_child p op = false

abbrev pub is_forked : Outline → ℕ → Bool
is_forked st p = list_any (λ (a : Actor). list_any (forks_child p) a.ops) st.script.actors

-- the number of the next handle, if there may be one more
abbrev pub next_handle : Outline → Option ℕ
next_handle st = if nat_lt (length st.script.handles) most_handles then Some (length st.script.handles) else None

-- the number of the mirror slot that a name names, or of the next slot where it names nothing, if there may be one more
abbrev pub slot_of : Outline → Option Named → Option ℕ
slot_of st None = if nat_lt (length st.script.mirrors) most_mirrors then Some (length st.script.mirrors) else None
slot_of st (Some (named.Mirror m device)) = Some m
slot_of st _ = None

-- an actor to which a handle can be given: a thread or a device
abbrev pub is_receiver_at : Option Actor → Bool
is_receiver_at None = false
is_receiver_at (Some actor) = not (is_mover actor.kind)

abbrev pub is_receiver : Outline → ℕ → Bool
is_receiver st a = is_receiver_at (slice_get st.script.actors a)

-- The generator of `random`: each number is drawn from the high bits of a state, which goes on from its start.
abbrev pub next_state : ℕ → ℕ
next_state x = (x * 6364136223846793005 + 1442695040888963407) % 2 ^ 64

abbrev pub drawn : (below x : ℕ) → ℕ
drawn below x = (x / 2 ^ 33) % below

abbrev pub draws : (count below x : ℕ) → List ℕ
draws zero below x = []
draws (suc count) below x = drawn below (next_state x) ∷ draws count below (next_state x)
