-- A turn is a function of the core state and of the places.
use Rattle.std.proofs.Common.{◌≡◌, ℕ, ap, ◌∙◌}
use Rattle.gup_spec_events.specs.State.{CoreState}
use Rattle.gup_spec_journal.specs.Place.{Place}
use Rattle.gup_spec_turns.specs.Run.{RunState, run_after, core_turn_in}
use Rattle.gup_law_turns.proofs.turns_read_no_order.Goals as goal

-- the state of a run at its first turn
abbrev standing : CoreState → (ℕ → Place) → RunState
standing core places = record { core = core; places = places; pointer = 0; turns = 0 }

-- what rests on both is the same in two states that have the same
same_both : {X : Type 0} (f : CoreState → (ℕ → Place) → X) (c d : CoreState) (p q : ℕ → Place) → c ≡ d → p ≡ q → f c p ≡ f d q
same_both f c d p q core places = ap (λ (x : CoreState). f x p) core ∙ ap (λ (x : ℕ → Place). f d x) places

pub returns-clause-turn : goal.returns-clause-turn
returns-clause-turn c script r s a core places =
    same_both (λ x p. core_turn_in script (standing x p) a) r.core s.core r.places s.places core places

pub returns-clause-core : goal.returns-clause-core
returns-clause-core c script r s a core places =
    same_both (λ x p. (run_after script (standing x p) a).core) r.core s.core r.places s.places core places

pub returns-clause-places : goal.returns-clause-places
returns-clause-places c script r s a core places =
    same_both (λ x p. (run_after script (standing x p) a).places) r.core s.core r.places s.places core places
