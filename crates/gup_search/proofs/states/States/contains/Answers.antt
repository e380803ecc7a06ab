use Rattle.std.proofs.Common.{◌≡◌, false, true, List, sym, subst, ◌∙◌}
use Rattle.gup_search.specs.States.{State, Has}
use Rattle.gup_search.proofs.Lists.{if_some, if_none}
use Rattle.gup_search.proofs.Kept.{IsRow, the_state, lacks_fact, lacks_tell, row_found, state_found}
use Rattle.gup_search.proofs.states.States.contains.Goals as goal

is_false : (P : Type 0) → (P → ⊥) → (false ≡ true → P) × (P → false ≡ true)
is_false P never = (λ is. absurd (not_true is), λ h. absurd (never h))
  where
    not_true : false ≡ true → ⊥
    not_true is = cc

pub returns-in_default : goal.returns-in_default
returns-in_default c =
    is_false _
    (
    λ has.
    lacks_fact c.self.inside.facts.keys c.self.inside.tells.keys c.self.inside.rows.keys (the_state c.args.facts.now c.args.tells.now) c.self.invariant (if_none c.in_ok-facts.field-0 _ c.in_default.is c.in_ok-facts.ensures.lacks)
    (subst (λ (states : List State). Has states (the_state c.args.facts.now c.args.tells.now)) (sym c.self.view_is) has)
    )

pub returns-in_default-2 : goal.returns-in_default-2
returns-in_default-2 c =
    is_false _
    (
    λ has.
    lacks_tell c.self.inside.facts.keys c.self.inside.tells.keys c.self.inside.rows.keys (the_state c.args.facts.now c.args.tells.now) c.self.invariant (if_none c.in_ok-tells.field-0 _ c.in_default-2.is c.in_ok-tells.ensures.lacks)
    (subst (λ (states : List State). Has states (the_state c.args.facts.now c.args.tells.now)) (sym c.self.view_is) has)
    )

pub returns : goal.returns
returns c =
    let state : State = the_state c.args.facts.now c.args.tells.now in
    let facts = c.self.inside.facts.keys in
    let tells = c.self.inside.tells.keys in
    let rows = c.self.inside.rows.keys in
    let is : IsRow facts tells state (record { facts = c.in-Some.facts; tells = c.in-Some-2.tells }) =
    record {
      facts_at = if_some c.in_ok-facts.field-0 c.in-Some.facts _ c.in-Some.is c.in_ok-facts.ensures.numbers;
      tells_at = if_some c.in_ok-tells.field-0 c.in-Some-2.tells _ c.in-Some-2.is c.in_ok-tells.ensures.numbers;
    } in (
      λ there. subst (λ (states : List State). Has states state) c.self.view_is (state_found facts tells rows state (record { facts = c.in-Some.facts; tells = c.in-Some-2.tells }) is (sym c.contains.ensures ∙ there)),
      λ has. c.contains.ensures ∙ row_found facts tells rows state (record { facts = c.in-Some.facts; tells = c.in-Some-2.tells }) c.self.invariant is (subst (λ (states : List State). Has states state) (sym c.self.view_is) has),
    )
