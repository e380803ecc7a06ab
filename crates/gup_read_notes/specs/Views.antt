-- How the fields of a `Names` are read.
use Rattle.std.specs.Prelude.{◌≡◌, ◌≤◌, length}
use Rattle.gup_script.specs.Script.{ScriptValue}
use Rattle.gup_read_notes.specs.Names.{actor_names, process_names}
use Rattle.gup_read_notes.specs.declared.names.Names.TheInside.{Inside}

abbrev pub script_of : Inside → ScriptValue
script_of n = n.script

-- each table has the names of its kind, of which there are few
pub record HasNames (n : Inside) : Type 0 where
  pub actors : n.actors ≡ actor_names n.script
  pub processes : n.processes ≡ process_names n.script
  pub handles : n.handles ≡ n.script.handles
  pub slots : n.slots ≡ n.script.mirrors
  pub few_actors : length n.actors ≤ 81
  pub few_processes : length n.processes ≤ 16
  pub few_handles : length n.handles ≤ 1024
  pub few_slots : length n.slots ≤ 64
