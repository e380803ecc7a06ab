use Rattle.std.proofs.Common.{ℕ, ◌+◌, ◌<◌, IsSome, refl, subst, sym, ◌∙◌}
use Rattle.gup_exec_plain.proofs.Processes.{At, protected, found}
use Rattle.gup_exec_parts.proofs.SpaceLemmas.{absurd_truth, right_some}
use Rattle.gup_exec_parts.specs.Space.{SpaceState, seen, CanProtect, HasNumbers}
use Rattle.gup_exec_parts.specs.declared.space.Space.{Space}
use Rattle.gup_exec_plain.proofs.parts.Parts.protect.Goals as goal

pub can_protect-requires : goal.can_protect-requires
can_protect-requires c = let P : SpaceState → Type 0 = λ x. HasNumbers x in subst P (sym c.space.ensures) (c.requires.made.numbers c.args.p)

pub returns-then-not-can_protect-clause-event : goal.returns-then-not-can_protect-clause-event
returns-then-not-can_protect-clause-event c =
    let P : SpaceState → Type 0 = λ x. CanProtect x c.args.page c.args.n in
    (λ can. absurd_truth (c.if-not-can_protect.ensures.can.1 (subst P (sym c.space.ensures) can)), refl)

can-protect : (c : goal.After-protect-arg-1) → CanProtect (seen c.index_mut-space.result.now) c.args.page c.args.n
can-protect c =
    let was : Space = c.index_mut-space.result.now in
    let at : At c.args.self.now c.args.p c.get.result was = record { index = c.get.ensures.value; below = c.get.ensures.below; spaces = c.requires.all.spaces; is = c.index_mut-space.ensures.value } in
    let P : SpaceState → Type 0 = λ x. CanProtect x c.args.page c.args.n in
    subst P (c.space.ensures ∙ found c.args.self.now c.args.p c.get.result was at) (c.if-not-can_protect.ensures.can.0 refl)

pub protect-requires-clause-mapped : goal.protect-requires-clause-mapped
protect-requires-clause-mapped c = λ k small. right_some _ ((can-protect c).1 k small)

pub protect-requires-clause-below : goal.protect-requires-clause-below
protect-requires-clause-below c = c.if-not-can_protect.ensures.below refl

pub returns-clause-event : goal.returns-clause-event
returns-clause-event c =
    let was : Space = c.index_mut-space.result.now in
    let at : At c.args.self.now c.args.p c.get.result was = record { index = c.get.ensures.value; below = c.get.ensures.below; spaces = c.requires.all.spaces; is = c.index_mut-space.ensures.value } in
    let P : SpaceState → Type 0 = λ x. CanProtect x c.args.page c.args.n in
    let can = c.if-not-can_protect.ensures.can.0 refl in
    let Q : SpaceState → Type 0 = λ x. (k : ℕ) → k < c.args.n → IsSome (x.page (c.args.page + k)) in (
      subst P c.space.ensures can,
      protected c.args.self.now c.args.p c.get.result c.args.page c.args.n c.args.rights was c.protect.new.pages at
          (subst Q (c.space.ensures ∙ found c.args.self.now c.args.p c.get.result was at) (λ k small. right_some _ (can.1 k small)))
          c.protect.ensures.pages c.protect.ensures.len,
    )
