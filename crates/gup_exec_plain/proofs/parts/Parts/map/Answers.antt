use Rattle.std.proofs.Common.{ℕ, ◌+◌, ◌≤◌, refl, subst, sym, ◌∙◌, ap, arith}
use Rattle.gup_plain.specs.Event.{page_numbers}
use Rattle.gup_plain.specs.declared.event.PlainEvent.TheVariants as events
use Rattle.gup_exec_plain.proofs.Processes.{At, mapped, same_pages, found}
use Rattle.gup_exec_plain.proofs.Refusals.{refused}
use Rattle.gup_exec_parts.proofs.SpaceLemmas.{absurd_truth, right_none, page_numbers-is}
use Rattle.gup_exec_plain.specs.Parts.{state_of}
use Rattle.gup_exec_parts.specs.Space.{SpaceState, seen, CanMap}
use Rattle.gup_exec_parts.specs.declared.space.Space.{Space}
use Rattle.gup_exec_plain.proofs.parts.Parts.map.Goals as goal

pub returns-then-not-can_map-clause-event : goal.returns-then-not-can_map-clause-event
returns-then-not-can_map-clause-event c =
    let P : SpaceState → Type 0 = λ x. CanMap x c.args.page c.args.n in
    (λ can. absurd_truth (c.if-not-can_map.ensures.1 (subst P (sym c.space.ensures) can)), refl)

can-map : (c : goal.After-map-arg-1) → CanMap (seen c.index_mut-space.result.now) c.args.page c.args.n
can-map c =
    let was : Space = c.index_mut-space.result.now in
    let at : At c.args.self.now c.args.p c.get.result was = record { index = c.get.ensures.value; below = c.get.ensures.below; spaces = c.requires.all.spaces; is = c.index_mut-space.ensures.value } in
    let P : SpaceState → Type 0 = λ x. CanMap x c.args.page c.args.n in
    subst P (c.space.ensures ∙ found c.args.self.now c.args.p c.get.result was at) (c.if-not-can_map.ensures.0 refl)

pub map-requires-clause-free : goal.map-requires-clause-free
map-requires-clause-free c = λ k small. right_none _ ((can-map c).2 k small)

pub map-requires-clause-below : goal.map-requires-clause-below
map-requires-clause-below c = let bound : c.args.page + c.args.n ≤ page_numbers = (can-map c).1 in let is = page_numbers-is in omega arith

pub returns-in_err-map-clause-event : goal.returns-in_err-map-clause-event
returns-in_err-map-clause-event c =
    let was : Space = c.index_mut-space.result.now in
    let at : At c.args.self.now c.args.p c.get.result was = record { index = c.get.ensures.value; below = c.get.ensures.below; spaces = c.requires.all.spaces; is = c.index_mut-space.ensures.value } in
    let kept = c.in_err-map.ensures.err in
    refused (state_of c.args.self.now) _ (events.Map 0 c.args.p c.args.page c.args.n c.args.rights) c.from_residual-in_err-map.result tt c.from_residual-in_err-map.ensures.1
    (same_pages c.args.self.now c.args.p c.get.result was c.map.new.pages at kept.0 kept.1)

pub returns-clause-event : goal.returns-clause-event
returns-clause-event c =
    let was : Space = c.index_mut-space.result.now in
    let at : At c.args.self.now c.args.p c.get.result was = record { index = c.get.ensures.value; below = c.get.ensures.below; spaces = c.requires.all.spaces; is = c.index_mut-space.ensures.value } in
    let P : SpaceState → Type 0 = λ x. CanMap x c.args.page c.args.n in (
      subst P c.space.ensures (c.if-not-can_map.ensures.0 refl),
      mapped c.args.self.now c.args.p c.get.result c.args.page c.args.n c.in_ok-made.made c.args.rights was c.map.new.pages at
          c.requires.made (c.in_ok-made.ensures ∙ ap (λ (n : ℕ). c.args.self.now.contents.made + n) c.from.ensures) c.in_ok-map.ensures.pages c.in_ok-map.ensures.len,
    )
