-- Where actors stand in their operations.
use Rattle.std.specs.Prelude.{◌≡◌, ℕ, ◌+◌, Bool, if◌then◌else◌, List, replicate, Option}
use Rattle.gup_script.specs.declared.op.Op.{Op}
use Rattle.gup_script.specs.declared.op.Op.TheVariants.{Unmap, Discard, Pin, Transfer}
use Rattle.gup_spec_journal.specs.Place.{Place}
use Rattle.gup_op_base.specs.declared.jobs.JobPlace.{JobPlace}
use Rattle.gup_op_base.specs.declared.jobs.JobPlace.TheVariants.{Unbegun}
use Rattle.gup_op_base.specs.Far.{far_in}
use Rattle.gup_op_waits.specs.declared.seats.Seat.{Seat}

-- the actor stands there
abbrev pub IsSeat : Option Op → Place → Seat → Type 0
IsSeat op place seat = (seat.answered ≡ place.answered) × (seat.far ≡ far_in op place.far)

abbrev pub far_behind : Op → (far : ℕ) → ℕ
far_behind (Unmap page n) far = far + 1
far_behind (Discard page n) far = far + 1
far_behind (Transfer handle outward slot parts) far = far + 1
far_behind (Pin handle page n want fast) far = far + 1
far_behind op far = 0

-- after a turn of its operation an actor stands at the next page, word or turn, or at the next operation, and its job there
abbrev pub seat_behind : Seat → Op → (answered : Bool) → JobPlace → Seat
seat_behind seat op answered job =
    if answered
    then record { answered = seat.answered + 1; far = 0; job = job }
    else record { answered = seat.answered; far = far_behind op seat.far; job = job }

-- so many actors before their first operation
abbrev pub first_seats : (actors : ℕ) → List Seat
first_seats actors = replicate actors (record { answered = 0; far = 0; job = Unbegun })
