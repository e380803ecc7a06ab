-- What each event keeps, a list of them keeps.
use Rattle.std.proofs.Common.{ℕ, ◌≤◌, List, [], ◌∷◌, arith}
use Rattle.std.specs.Prelude.{All}
use Rattle.std.proofs.lemmas.List.Elements.{All-head, All-tail}
use Rattle.gup_spec_events.specs.State.{CoreState}
use Rattle.gup_spec_events.specs.Event.{CoreEvent, Can, happens, run}
use Rattle.gup_spec_events.specs.Invariant.{AllCan}
use Rattle.gup_law_base.specs.Sound.{IsSound, Simulates}
use Rattle.gup_law_bounds.specs.Limits.{IsWithin}
use Rattle.gup_law_bounds.proofs.EventNumbers.{AreNumbered, numbers_event}
use Rattle.gup_law_bounds.proofs.Births.{AreForked, IsLow, forked_event}
use Rattle.gup_law_bounds.proofs.FewHolders.{IsLimited, limited_event}

pub limited_run : (s : CoreState) (es : List CoreEvent) → All IsWithin es → IsLimited s → IsLimited (run s es)
limited_run s [] within h = h
limited_run s (e ∷ es) within h =
    limited_run (happens s e) es (All-tail IsWithin e es within) (limited_event s e (All-head IsWithin e es within) h)

low : (s : CoreState) (e : CoreEvent) → IsWithin e → IsLow 16 s (happens s e)
low s e within c changed =
    let near : 16 ≤ c → ⊥ = λ far. changed ((within.process s c far).0) in
    omega (arith, near)

module _ (simulated : (s : CoreState) (e : CoreEvent) → IsSound s → Can s e → Simulates s e) where
  pub sound_run : (s : CoreState) (es : List CoreEvent) → IsSound s → AllCan s es → IsSound (run s es)
  sound_run s [] sound can = sound
  sound_run s (e ∷ es) sound can = sound_run (happens s e) es (simulated s e sound can.0).sound can.1

  pub numbered_run : (n : ℕ) (s : CoreState) (es : List CoreEvent) → IsSound s → AllCan s es → AreNumbered n s → AreNumbered n (run s es)
  numbered_run n s [] sound can h = h
  numbered_run n s (e ∷ es) sound can h =
      numbered_run n (happens s e) es (simulated s e sound can.0).sound can.1 (numbers_event n s e sound can.0 h)

  pub forked_run : (s : CoreState) (es : List CoreEvent) → IsSound s → AllCan s es → All IsWithin es → AreForked 16 s → AreForked 16 (run s es)
  forked_run s [] sound can within h = h
  forked_run s (e ∷ es) sound can within h =
      forked_run (happens s e) es (simulated s e sound can.0).sound can.1 (All-tail IsWithin e es within) (forked_event 16 s e (low s e (All-head IsWithin e es within)) sound can.0 h)
