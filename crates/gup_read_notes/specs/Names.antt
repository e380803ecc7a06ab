-- The names of a script, in the order of their numbers, and the number of a name.
use Rattle.std.specs.Prelude.{ℕ, List, map, Option, position}
use Rattle.std.specs.Str.{bytes_eq}
use Rattle.gup_script.specs.Script.{ScriptValue, Actor, Process}
use Rattle.gup_spec_grammar.specs.Said.{Word as Letters}

abbrev pub actor_names : ScriptValue → List Letters
actor_names s = map (λ (a : Actor). a.name) s.actors

abbrev pub process_names : ScriptValue → List Letters
process_names s = map (λ (p : Process). p.name) s.processes

-- the place of the first that is the same
unfoldable pub place_of : List Letters → Letters → Option ℕ
place_of names name = position (bytes_eq name) names

abbrev pub actor_in : ScriptValue → Letters → Option ℕ
actor_in s name = place_of (actor_names s) name

abbrev pub process_in : ScriptValue → Letters → Option ℕ
process_in s name = place_of (process_names s) name

abbrev pub handle_in : ScriptValue → Letters → Option ℕ
handle_in s name = place_of s.handles name

abbrev pub slot_in : ScriptValue → Letters → Option ℕ
slot_in s name = place_of s.mirrors name
