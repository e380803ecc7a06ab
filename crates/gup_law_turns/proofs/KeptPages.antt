-- What is about pages alone leaves all pins.
use Rattle.std.proofs.Common.{◌≡◌, ℕ, List, [], ◌∷◌, refl, ◌∙◌}
use Rattle.gup_spec_events.specs.State.{CoreState}
use Rattle.gup_spec_events.specs.Event.{CoreEvent, happens, run}
use Rattle.gup_law_turns.proofs.CalmStates.{of_pages, IsTurnEvent, AreTurnEvents, raising, pinning, making, handling, finding_same, dropping_last, dropping_first}

-- the pins and what actors have taken are as they were
pub record LeavesPins (s t : CoreState) : Type 0 where
  pub handle : t.handle ≡ s.handle
  pub pinned : t.pinned ≡ s.pinned
  pub taken : t.taken ≡ s.taken
  pub has_pinned : t.has_pinned ≡ s.has_pinned

pages_event : (s : CoreState) (a p c : ℕ) {e : CoreEvent} → IsTurnEvent a p c of_pages e → LeavesPins s (happens s e)
pages_event s a p c (raising h is) = absurd (cc is)
pages_event s a p c (pinning h is page e write long) = absurd (cc is)
pages_event s a p c (making h is) = absurd (cc is)
pages_event s a p c (handling h is event) = absurd (cc is)
pages_event s a p c (finding_same h is write long sequence page path e) = absurd (cc is)
pages_event s a p c (dropping_last h is write long sequence left last) = absurd (cc is)
pages_event s a p c (dropping_first h is write long sequence first left) = absurd (cc is)
pages_event s a p c event = record { handle = refl; pinned = refl; taken = refl; has_pinned = refl }

pub pages_leave : (s : CoreState) (a p c : ℕ) (es : List CoreEvent) → AreTurnEvents a p c of_pages es → LeavesPins s (run s es)
pages_leave s a p c [] kinds = record { handle = refl; pinned = refl; taken = refl; has_pinned = refl }
pages_leave s a p c (e ∷ es) kinds =
    let first = pages_event s a p c kinds.0 in
    let later = pages_leave (happens s e) a p c es kinds.1 in
    record {
      handle = later.handle ∙ first.handle;
      pinned = later.pinned ∙ first.pinned;
      taken = later.taken ∙ first.taken;
      has_pinned = later.has_pinned ∙ first.has_pinned;
    }
