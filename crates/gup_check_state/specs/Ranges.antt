-- Which pages a note maps.
use Rattle.std.specs.Prelude.{◌+◌, ◌≤◌, ◌^◌}
use Rattle.gup_plain.specs.declared.event.PlainEvent.TheVariants as events
use Rattle.gup_plain.specs.declared.note.What.{What}
use Rattle.gup_plain.specs.declared.note.What.TheVariants.{Event}

-- those that it maps, if it maps any, have numbers
abbrev pub MapsInRange : What → Type 0
MapsInRange (Event (events.Map actor proc page n rights)) = page + n ≤ 2 ^ 35
MapsInRange what = Unit {0}
