-- How the fields of a `Script` are read as its value.
use Rattle.std.specs.Prelude.{map, string_bytes}
use Rattle.gup_script.specs.declared.script.Process.{Process as ProcessFields}
use Rattle.gup_script.specs.declared.script.Actor.{Actor as ActorFields}
use Rattle.gup_script.specs.declared.script.Contents.{Contents}
use Rattle.gup_script.specs.declared.script.Script.TheInside.{Inside}
use Rattle.gup_script.specs.Script.{ScriptValue, Process, Actor}
use Rattle.gup_script.specs.Valid.{IsScript}

abbrev pub process_value : ProcessFields → Process
process_value p = record { name = string_bytes p.name; born = p.born }

abbrev pub actor_value : ActorFields → Actor
actor_value a = record { name = string_bytes a.name; kind = a.kind; ops = a.ops.items }

abbrev pub script_value : Contents → ScriptValue
script_value s =
    record {
      frames = record { movable = s.movable; normal = s.normal; tables = s.tables };
      processes = map process_value s.processes.items;
      actors = map actor_value s.actors.items;
      handles = map string_bytes s.handles.items;
      mirrors = map string_bytes s.mirrors.items;
      turns = s.turns.items;
      seed = s.seed;
    }

abbrev pub value_of : Inside → ScriptValue
value_of s = script_value s.contents

abbrev pub IsValid : Inside → Type 0
IsValid s = IsScript (value_of s)
