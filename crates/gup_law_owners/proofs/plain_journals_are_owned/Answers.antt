-- The law of the last write, at the journal's events up to the one that reads, or to where an object is named.
use Rattle.std.proofs.Common.{◌≡◌, ℕ, Bool, List, [], ◌∷◌, ◌++◌, subst, append_assoc}
use Rattle.gup_plain.specs.State.{PlainState, plain_start}
use Rattle.gup_plain.specs.Event.{happened}
use Rattle.gup_plain.specs.declared.event.PlainEvent.{PlainEvent}
use Rattle.gup_spec_journal.specs.Place.{starts_born}
use Rattle.gup_exec_plain.specs.LastWrite.{ArePossible, LastWrite}
use Rattle.gup_law_owners.specs.Owners.{OwnsBytes, journal_events}
use Rattle.gup_law_owners.proofs.plain_journals_are_owned.Goals as goal

front_possible : (s : PlainState) (front later : List PlainEvent) → ArePossible s (front ++ later) → ArePossible s front
front_possible s [] later possible = tt
front_possible s (e ∷ es) later possible = (possible.0, front_possible (happened s e) es later possible.1)

possible_up_to : (s : PlainState) (events front later : List PlainEvent) → ArePossible s events → events ≡ front ++ later → ArePossible s front
possible_up_to s events front later possible is = front_possible s front later (subst (ArePossible s) is possible)

-- the same events, cut after the one that reads
up_to_one : (events front : List PlainEvent) (e : PlainEvent) (later : List PlainEvent) → events ≡ front ++ e ∷ later → events ≡ front ++ e ∷ [] ++ later
up_to_one events front e later is = rw append_assoc is

owned : (is_born : ℕ → Bool) (events : List PlainEvent) → ArePossible (plain_start is_born) events → LastWrite is_born → OwnsBytes is_born events
owned is_born events possible law =
    record {
      reads = λ front e later o w value is read. law.reads front e o w value (possible_up_to (plain_start is_born) events (front ++ e ∷ []) later possible (up_to_one events front e later is)) read;
      writes = λ front e middle later p page o w value is written names. law.writes front middle e p page o w value (possible_up_to (plain_start is_born) events (front ++ e ∷ middle) later possible is) written names;
    }

pub returns : goal.returns
returns c = λ script notes plain. owned (starts_born script) (journal_events notes) (c.plain_journals_are_possible.ensures script notes plain) (c.last_write.ensures (starts_born script))
