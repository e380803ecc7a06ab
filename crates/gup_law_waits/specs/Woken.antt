-- Whom a turn may wake: who could not go before it, and may go after it.
use Rattle.std.specs.Prelude.{if◌then◌else◌, ◌≡◌, ℕ, Option, Some}
use Rattle.gup_script.specs.declared.op.Op.{Op}
use Rattle.gup_script.specs.declared.op.Op.TheVariants.{Pin, Give, Move, Fork}
use Rattle.gup_spec_turns.specs.JobPlace.{JobPlace, unbegun, from_page}

pub data Woken : Type 0 where
  nobody : Woken
  one : (actor : ℕ) → Woken
  everybody : Woken

-- Whom a turn of an operation may wake, by where its actor's job stands after the turn: a give whom the pin is given to, the
-- end of a fork, or its failure, whoever waits for its child or for its locks. So does a fork between two pages, the end of a
-- move, and a long pin that is in the middle of no page and no walk: their table lock is free. A walk wakes nobody.
abbrev pub wakes : Option Op → JobPlace → Woken
wakes (Some (Give handle to)) place = one to
wakes (Some (Pin handle page n want fast)) unbegun = if want.long then everybody else nobody
wakes (Some (Move proc page zone)) unbegun = everybody
wakes (Some (Fork child)) unbegun = everybody
wakes (Some (Fork child)) (from_page page) = everybody
wakes op place = nobody

-- is this actor among them?
abbrev pub MayWake : Woken → ℕ → Type 0
MayWake nobody b = ⊥
MayWake (one a) b = a ≡ b
MayWake everybody b = Unit {0}
