-- What turns do to page tables among all the parts of a machine.
use Rattle.std.specs.Prelude.{◌≡◌, ℕ, List, [], Option, Some, None}
use Rattle.gup_plain.specs.Event.{page_numbers}
use Rattle.gup_plain.specs.State.{born}
use Rattle.gup_script.specs.declared.op.Op.{Op}
use Rattle.gup_script.specs.declared.op.Op.TheVariants.{Fork}
use Rattle.gup_tables.specs.Pool.{PoolValue}
use Rattle.gup_space.specs.Shows.{ShowsPool}
use Rattle.gup_spec_events.specs.State.{CoreState}
use Rattle.gup_spec_events.specs.Event.{CoreEvent, run}
use Rattle.gup_spec_journal.specs.Place.{Doer, birth_for}
use Rattle.gup_spec_turns.specs.JobPlace.{JobPlace, unbegun, place_in}
use Rattle.gup_spec_turns.specs.TableTurns.{retires_at, retires_mapped, if_failed}
use Rattle.gup_spec_turns.specs.Turn.{grows_for}
use Rattle.gup_op_base.specs.Far.{far_in}
use Rattle.gup_op_waits.specs.Doers.{IsProcessOf}
use Rattle.gup_op_waits.specs.Parts.{ShowsParts}
use Rattle.gup_op_waits.specs.Stands.{StandsAt}
use Rattle.gup_op_waits.specs.declared.parts.Parts.{Parts}
use Rattle.gup_op_tables.specs.declared.pages.Spot.{Spot as KeptSpot}
use Rattle.gup_op_tables.specs.Alike.{ShowsEach}
use Rattle.gup_op_tables.specs.Spots.{spot_of}

-- only processes have changed
abbrev pub AreParted : (old new : Parts) → Type 0
AreParted old new = new ≡ record old { spaces = new.spaces }

-- From each state that has the old parts and free tables, in which the actor of a process that is born stands before a turn of the
-- operation, the growth of that turn leads to one that has the new processes and free tables.
abbrev pub GrowsFor : (old new : Parts) → (was now : PoolValue) → (a : ℕ) → (proc : Option ℕ) → (far : ℕ) → Op → JobPlace → Type 0
GrowsFor old new was now a proc far op place =
    (s : CoreState) (who : Doer) (k : ℕ) → who.actor ≡ a → IsProcessOf who proc → far ≡ far_in (Some op) k → ShowsParts old s
    → place ≡ place_in s a → StandsAt s a who.proc k op → birth_for s.birth who ≡ born → ShowsPool was s
    → ShowsPool now (run s (grows_for s who k op)) × ShowsEach new.spaces.items (run s (grows_for s who k op))

-- the child of a fork that has begun
abbrev pub child_at : JobPlace → Op → Option ℕ
child_at unbegun op = None
child_at place (Fork child) = Some child
child_at place op = None

-- which tables go: those of a page, or of a child that has failed
abbrev pub shrinks_to : CoreState → (a : ℕ) → (proc : Option ℕ) → (down : Option KeptSpot) → (forks : Option ℕ) → List CoreEvent
shrinks_to u a proc down None = retires_at u a (spot_of down)
shrinks_to u a None down (Some child) = []
shrinks_to u a (Some p) down (Some child) = if_failed (u.birth child) (retires_mapped u a child (u.right p) 0 page_numbers)

-- From each state that has the old parts and free tables these events lead to one that has the new processes and free tables.
abbrev pub ShrinksFor : (old new : Parts) → (was now : PoolValue) → (proc : Option ℕ) → (down : Option KeptSpot) → (forks : Option ℕ) → Type 0
ShrinksFor old new was now proc down forks =
    (u : CoreState) (a : ℕ) → ShowsParts old u → ShowsPool was u
    → ShowsPool now (run u (shrinks_to u a proc down forks)) × ShowsEach new.spaces.items (run u (shrinks_to u a proc down forks))
