-- What a long-term pin does next with a page that it moves, and what the core machine makes of the count.
use Rattle.std.specs.Prelude.{ℕ, ◌==◌, if◌then◌else◌}
use Rattle.gup_long.specs.declared.LongStep.{LongStep}
use Rattle.gup_long.specs.declared.LongStep.TheVariants.{Place, Restore}
use Rattle.gup_spec_events.specs.State.{Counted, one, more}

-- a frame that nothing else refers to is left, and every other stays
abbrev pub step_after : (count : ℕ) → LongStep
step_after count = if count == 1 then Place else Restore count

-- the reading of the count that the step comes from
abbrev pub counted_in : LongStep → Counted
counted_in Place = one
counted_in (Restore count) = more count
