use Rattle.std.proofs.Common.{◌≡◌, ℕ, ◌+◌, ◌/◌, ◌<◌, ◌≤◌, ◌^◌, false, Some, None, ⊎_elim, refl, sym, ap, subst, ◌∙◌, arith, zero, suc}
use Rattle.std.specs.Int.{trailing_zeros, w128}
use Rattle.std.proofs.lemmas.Bool.{cases_lt}
use Rattle.gup_sched.specs.Awake.{has, awake_from}
use Rattle.gup_sched.proofs.AwakeBits.{IsFirst, first_left, first_all, left_none, none_zero}
use Rattle.gup_sched.proofs.AwakeSearches.{search_is, search_wraps, search_none}
use Rattle.gup_sched.proofs.awake.Awake.next.Goals as goal

-- the first awake one at or after the number
found_here : (n bits from x : ℕ) → (0 < n → from < n) → IsFirst n bits from x → from ≤ x → awake_from (has bits) n n from ≡ Some x
found_here n bits from x there first above =
    let below = first.below in
    let within : from < n = there (omega (arith, below)) in
    search_is (has bits) n n from x above first.below (omega (arith, below, within)) first.is first.before

-- or, where none is, the first of all
found_around : (n bits from x : ℕ) → (0 < n → from < n) → ((k : ℕ) → from ≤ k → has bits k ≡ false) → IsFirst n bits 0 x → awake_from (has bits) n n from ≡ Some x
found_around n bits from x there none first =
    let below = first.below in
    let within : from < n = there (omega (arith, below)) in
    let before : x < from = ⊎_elim (λ (l : x < from). l) (λ (g : from ≤ x). absurd (let gone = none x g in let is = first.is in cc)) (cases_lt x from) in
    search_wraps (has bits) n n from x within first.below (omega (arith, before)) (λ j above less. none j above) first.is (λ j l. first.before j (omega arith) l)

found_none : (n bits from : ℕ) → (0 < n → from < n) → ((k : ℕ) → has bits k ≡ false) → awake_from (has bits) n n from ≡ None
found_none zero bits from there none = refl
found_none (suc n) bits from there none = search_none (has bits) (suc n) (suc n) from (there (omega arith)) (λ j less. none j)

pub actor_no-requires : goal.actor_no-requires
actor_no-requires c =
    let fits : c.self.inside.bits < 2 ^ 128 = omega arith in
    let some : 0 < c.self.inside.bits / 2 ^ c.get-first.result = omega arith in
    let first = first_left c.self.inside.actors c.self.inside.bits c.get-first.result c.self.invariant fits some in
    let below = first.below in
    let few = c.self.invariant.few in
    omega (arith, below, few)

pub returns-then-rest-ne0-clause-next : goal.returns-then-rest-ne0-clause-next
returns-then-rest-ne0-clause-next c =
    let n = c.self.inside.actors in
    let bits = c.self.inside.bits in
    let from = c.get-first.result in
    let fits : bits < 2 ^ 128 = omega arith in
    let some : 0 < bits / 2 ^ from = omega arith in
    let first = first_left n bits from c.self.invariant fits some in
    let there : 0 < n → c.args.from < n = rw (← c.self.view_is) at c.requires in
    let found = found_here n bits from (from + trailing_zeros w128 (bits / 2 ^ from)) (λ any. subst (λ (k : ℕ). k < n) (sym c.get-first.ensures.value) (there any)) first (omega arith) in
    rw (← c.self.view_is) (ap (λ (k : ℕ). Some k) c.actor_no.ensures ∙ sym found ∙ ap (awake_from (has bits) n n) c.get-first.ensures.value)

pub returns-then-rest-ne0-clause-awake : goal.returns-then-rest-ne0-clause-awake
returns-then-rest-ne0-clause-awake c =
    let fits : c.self.inside.bits < 2 ^ 128 = omega arith in
    let some : 0 < c.self.inside.bits / 2 ^ c.get-first.result = omega arith in
    let first = first_left c.self.inside.actors c.self.inside.bits c.get-first.result c.self.invariant fits some in
    rw (← c.self.view_is) (ap (has c.self.inside.bits) c.actor_no.ensures ∙ first.is)

pub returns-then-rest-ne0-clause-below : goal.returns-then-rest-ne0-clause-below
returns-then-rest-ne0-clause-below c =
    let fits : c.self.inside.bits < 2 ^ 128 = omega arith in
    let some : 0 < c.self.inside.bits / 2 ^ c.get-first.result = omega arith in
    let first = first_left c.self.inside.actors c.self.inside.bits c.get-first.result c.self.invariant fits some in
    rw (← c.self.view_is) (subst (λ (k : ℕ). k < c.self.inside.actors) (sym c.actor_no.ensures) first.below)

pub actor_no-requires-then-self-ne0 : goal.actor_no-requires-then-self-ne0
actor_no-requires-then-self-ne0 c =
    let fits : c.self.inside.bits < 2 ^ 128 = omega arith in
    let some : 0 < c.self.inside.bits = omega arith in
    let first = first_all c.self.inside.actors c.self.inside.bits c.self.invariant fits some in
    let below = first.below in
    let few = c.self.invariant.few in
    omega (arith, below, few)

pub returns-then-self-ne0-clause-next : goal.returns-then-self-ne0-clause-next
returns-then-self-ne0-clause-next c =
    let n = c.self.inside.actors in
    let bits = c.self.inside.bits in
    let from = c.get-first.result in
    let fits : bits < 2 ^ 128 = omega arith in
    let some : 0 < bits = omega arith in
    let first = first_all n bits c.self.invariant fits some in
    let there : 0 < n → c.args.from < n = rw (← c.self.view_is) at c.requires in
    let found = found_around n bits from (trailing_zeros w128 bits) (λ any. subst (λ (k : ℕ). k < n) (sym c.get-first.ensures.value) (there any)) (left_none bits from c.if-rest-ne0.false) first in
    rw (← c.self.view_is) (ap (λ (k : ℕ). Some k) c.actor_no-then-self-ne0.ensures ∙ sym found ∙ ap (awake_from (has bits) n n) c.get-first.ensures.value)

pub returns-then-self-ne0-clause-awake : goal.returns-then-self-ne0-clause-awake
returns-then-self-ne0-clause-awake c =
    let fits : c.self.inside.bits < 2 ^ 128 = omega arith in
    let some : 0 < c.self.inside.bits = omega arith in
    let first = first_all c.self.inside.actors c.self.inside.bits c.self.invariant fits some in
    rw (← c.self.view_is) (ap (has c.self.inside.bits) c.actor_no-then-self-ne0.ensures ∙ first.is)

pub returns-then-self-ne0-clause-below : goal.returns-then-self-ne0-clause-below
returns-then-self-ne0-clause-below c =
    let fits : c.self.inside.bits < 2 ^ 128 = omega arith in
    let some : 0 < c.self.inside.bits = omega arith in
    let first = first_all c.self.inside.actors c.self.inside.bits c.self.invariant fits some in
    rw (← c.self.view_is) (subst (λ (k : ℕ). k < c.self.inside.actors) (sym c.actor_no-then-self-ne0.ensures) first.below)

pub returns-clause-next : goal.returns-clause-next
returns-clause-next c =
    let n = c.self.inside.actors in
    let bits = c.self.inside.bits in
    let there : 0 < n → c.args.from < n = rw (← c.self.view_is) at c.requires in
    rw (← c.self.view_is) (sym (found_none n bits c.args.from there (none_zero bits c.if-self-ne0.false)))
