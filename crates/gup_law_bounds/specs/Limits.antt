-- The limits on the numbers of an event: 81 actors, 16 processes, 1,024 handles, and names of 1,024 got references.
use Rattle.std.specs.Prelude.{◌≡◌, ℕ, ◌≤◌}
use Rattle.gup_spec_events.specs.State.{CoreState}
use Rattle.gup_spec_events.specs.Event.{CoreEvent, happens}

-- what the actor is in the middle of, and the frames and pages that it keeps, are the same
abbrev pub KeepsActor : (s t : CoreState) → (a : ℕ) → Type 0
KeepsActor s t a =
    (t.job a ≡ s.job a) × (t.prepared a ≡ s.prepared a) × (t.owed a ≡ s.owed a) × (t.taken a ≡ s.taken a)

abbrev pub KeepsProcess : (s t : CoreState) → (p : ℕ) → Type 0
KeepsProcess s t p =
    (t.birth p ≡ s.birth p) × ((page : ℕ) → t.entry p page ≡ s.entry p page)

-- the pages of the handle, and the reference that was got by this name
abbrev pub KeepsName : (s t : CoreState) → (k : ℕ) → Type 0
KeepsName s t k = (t.pinned k ≡ s.pinned k) × (t.got k ≡ s.got k)

-- In whatever state, the event changes nothing of actors from number 81 on, of processes from 16 on, and of handles and
-- got references from 1,024 on.
pub record IsWithin (e : CoreEvent) : Type 0 where
  pub actor : (s : CoreState) (a : ℕ) → 81 ≤ a → KeepsActor s (happens s e) a
  pub process : (s : CoreState) (p : ℕ) → 16 ≤ p → KeepsProcess s (happens s e) p
  pub name : (s : CoreState) (k : ℕ) → 1024 ≤ k → KeepsName s (happens s e) k
