-- What a list of core events does to the plain state.
use Rattle.std.proofs.Common.{◌≡◌, List, [], ◌∷◌, Option, Some, None, refl, ap, ◌∙◌, subst}
use Rattle.gup_plain.specs.Event.{CanHappen, happened}
use Rattle.gup_plain.specs.State.{PlainState}
use Rattle.gup_plain.specs.declared.event.PlainEvent.{PlainEvent}
use Rattle.gup_plain.specs.declared.note.What.{What}
use Rattle.gup_plain.specs.declared.note.What.TheVariants.{Event}
use Rattle.gup_spec_events.specs.State.{CoreState, plain_of}
use Rattle.gup_spec_events.specs.Event.{CoreEvent, Can, happens, told, after_told, run}
use Rattle.gup_spec_events.specs.Invariant.{CanTell, AllCan}
use Rattle.gup_law_base.specs.Sound.{IsSound, Simulates}
use Rattle.gup_law_events.specs.Law.{with_told, all_told}
use Rattle.gup_spec_journal.specs.Order.{plain_behind}

-- the law of simulation
abbrev pub Law : Type 0
Law = (s : CoreState) (e : CoreEvent) → IsSound s → Can s e → Simulates s e

-- the plain events that notes say
abbrev pub events_of : List What → List PlainEvent
events_of [] = []
events_of (Event e ∷ whats) = e ∷ events_of whats
events_of (what ∷ whats) = events_of whats

-- plain events one after another: that each can happen, and the state after them
abbrev pub AllCanHappen : PlainState → List PlainEvent → Type 0
AllCanHappen s [] = Unit {0}
AllCanHappen s (e ∷ es) = CanHappen s e × AllCanHappen (happened s e) es

abbrev pub plain_through : PlainState → List PlainEvent → PlainState
plain_through s [] = s
plain_through s (e ∷ es) = plain_through (happened s e) es

-- Core events keep the state sound, and do their plain events to the plain state.
pub record Leads (s : CoreState) (es : List CoreEvent) : Type 0 where
  pub sound : IsSound (run s es)
  pub can : AllCanHappen (plain_of s) (all_told es)
  pub same : plain_of (run s es) ≡ plain_through (plain_of s) (all_told es)

can_with_told : (s : PlainState) (t : Option PlainEvent) (es : List PlainEvent) → CanTell s t → AllCanHappen (after_told s t) es → AllCanHappen s (with_told t es)
can_with_told s None es now later = later
can_with_told s (Some e) es now later = (now, later)

through_with_told : (s : PlainState) (t : Option PlainEvent) (es : List PlainEvent) → plain_through (after_told s t) es ≡ plain_through s (with_told t es)
through_with_told s None es = refl
through_with_told s (Some e) es = refl

leads_on : (s : CoreState) (e : CoreEvent) (es : List CoreEvent) → Simulates s e → Leads (happens s e) es → Leads s (e ∷ es)
leads_on s e es now later =
    let can : AllCanHappen (after_told (plain_of s) (told e)) (all_told es) = subst (λ (q : PlainState). AllCanHappen q (all_told es)) now.same later.can in
    record {
      sound = later.sound;
      can = can_with_told (plain_of s) (told e) (all_told es) now.can can;
      same = later.same ∙ ap (λ (q : PlainState). plain_through q (all_told es)) now.same ∙ through_with_told (plain_of s) (told e) (all_told es);
    }

pub leads : Law → (s : CoreState) (es : List CoreEvent) → IsSound s → AllCan s es → Leads s es
leads law s [] sound can = record { sound = sound; can = tt; same = refl }
leads law s (e ∷ es) sound can =
    let now = law s e sound can.0 in
    leads_on s e es now (leads law (happens s e) es now.sound can.1)

-- the notes of a turn do their events to the plain state
pub plain_behind-through : (s : PlainState) (whats : List What) → plain_behind s whats ≡ plain_through s (events_of whats)
plain_behind-through s [] = refl
plain_behind-through s (Event e ∷ whats) = plain_behind-through (happened s e) whats
plain_behind-through s (what ∷ whats) = plain_behind-through s whats
