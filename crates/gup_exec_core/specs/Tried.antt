-- What trying an event comes to.
use Rattle.std.specs.Prelude.{◌≡◌, Result, MatchResult}
use Rattle.gup_spec_events.specs.Event.{CoreEvent, Can, happens}
use Rattle.gup_spec_events.specs.State.{CoreState}
use Rattle.gup_exec_jobs.specs.declared.refused.Refused.{Refused}
use Rattle.gup_exec_jobs.specs.declared.refused.Refused.TheVariants.{Cannot, NoMemory}

-- where the event is refused as one that can't happen, it can't
abbrev pub IsRight : Refused → CoreState → CoreEvent → Type 0
IsRight Cannot s e = Can s e → ⊥
IsRight NoMemory s e = Unit {0}

-- The event could happen, and has; or it is refused, and nothing has changed.
abbrev pub Tried : CoreState → CoreState → CoreEvent → Result (Unit {0}) Refused → Type 0
Tried old new e result =
    MatchResult result (λ _. Can old e × (new ≡ happens old e)) (λ refused. IsRight refused old e × (new ≡ old))
