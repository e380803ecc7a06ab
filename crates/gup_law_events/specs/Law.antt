-- The plain events that stand at core events.
use Rattle.std.specs.Prelude.{List, [], ◌∷◌, Option, Some, None}
use Rattle.gup_plain.specs.declared.event.PlainEvent.{PlainEvent}
use Rattle.gup_spec_events.specs.Event.{CoreEvent, told}

abbrev pub with_told : Option PlainEvent → List PlainEvent → List PlainEvent
with_told None es = es
with_told (Some e) es = e ∷ es

abbrev pub all_told : List CoreEvent → List PlainEvent
all_told [] = []
all_told (e ∷ es) = with_told (told e) (all_told es)
