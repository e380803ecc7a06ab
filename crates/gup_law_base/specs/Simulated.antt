-- What the law of simulation says of one event.
use Rattle.gup_spec_events.specs.State.{CoreState}
use Rattle.gup_spec_events.specs.Event.{CoreEvent, Can}
use Rattle.gup_law_base.specs.Sound.{IsSound, Simulates}

-- Where it can happen in a sound state, it leaves a sound state, and is its plain event.
abbrev pub IsSimulated : CoreEvent → Type 0
IsSimulated e = (s : CoreState) → IsSound s → Can s e → Simulates s e
