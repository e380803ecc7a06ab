-- The law of simulation over a list of events: each state is sound, and the plain events that stand at the core events
-- are possible and lead to the plain state that the last one stands for.
use Rattle.std.proofs.Common.{◌≡◌, List, [], ◌∷◌, refl, ap, ◌∙◌, subst}
use Rattle.std.specs.Prelude.{Option, Some, None}
use Rattle.gup_plain.specs.declared.event.PlainEvent.{PlainEvent}
use Rattle.gup_plain.specs.State.{PlainState}
use Rattle.gup_spec_events.specs.State.{CoreState, plain_of}
use Rattle.gup_spec_events.specs.Event.{CoreEvent, Can, happens, told, after_told, run}
use Rattle.gup_spec_events.specs.Invariant.{CanTell, AllCan}
use Rattle.gup_law_base.specs.Sound.{IsSound, Simulates}
use Rattle.gup_law_events.specs.Law.{with_told, all_told}
use Rattle.gup_exec_plain.specs.LastWrite.{ArePossible, after}

-- the plain events at the rest, after that at the first
possible_with : (told : Option PlainEvent) (s t : PlainState) (es : List PlainEvent) → CanTell s told → t ≡ after_told s told → ArePossible t es → ArePossible s (with_told told es)
possible_with None s t es can same possible = subst (λ u. ArePossible u es) same possible
possible_with (Some e) s t es can same possible = (can, subst (λ u. ArePossible u es) same possible)

after_with : (told : Option PlainEvent) (s t : PlainState) (es : List PlainEvent) → t ≡ after_told s told → after t es ≡ after s (with_told told es)
after_with None s t es same = ap (λ u. after u es) same
after_with (Some e) s t es same = ap (λ u. after u es) same

module _ (simulated : (s : CoreState) (e : CoreEvent) → IsSound s → Can s e → Simulates s e) where
  pub sound_run : (s : CoreState) (es : List CoreEvent) → IsSound s → AllCan s es → IsSound (run s es)
  sound_run s [] h can = h
  sound_run s (e ∷ es) h can = sound_run (happens s e) es (simulated s e h can.0).sound can.1

  pub possible_run : (s : CoreState) (es : List CoreEvent) → IsSound s → AllCan s es → ArePossible (plain_of s) (all_told es)
  possible_run s [] h can = tt
  possible_run s (e ∷ es) h can =
      let step : Simulates s e = simulated s e h can.0 in
      possible_with (told e) (plain_of s) (plain_of (happens s e)) (all_told es) step.can step.same (possible_run (happens s e) es step.sound can.1)

  pub stands_run : (s : CoreState) (es : List CoreEvent) → IsSound s → AllCan s es → plain_of (run s es) ≡ after (plain_of s) (all_told es)
  stands_run s [] h can = refl
  stands_run s (e ∷ es) h can =
      let step : Simulates s e = simulated s e h can.0 in
      stands_run (happens s e) es step.sound can.1 ∙ after_with (told e) (plain_of s) (plain_of (happens s e)) (all_told es) step.same
