use Rattle.std.proofs.Common.{◌<◌, length, sym, subst}
use Rattle.gup_script.specs.Script.{ScriptValue}
use Rattle.gup_read_notes.proofs.Named.{actor_found}
use Rattle.gup_read_notes.proofs.note.note.Goals as goal

pub what-requires-clause-actor : goal.what-requires-clause-actor
what-requires-clause-actor c =
    let found = actor_found c.args.names.now _ c.in_ok-actor.actor (sym c.in_ok-actor.ensures) in
    subst (λ (s : ScriptValue). c.in_ok-actor.actor < length s.actors) c.requires found.0
