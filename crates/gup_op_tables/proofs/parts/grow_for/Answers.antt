use Rattle.std.proofs.Common.{◌≡◌, ℕ, true, false, List, length, slice_get, Some, None, is_some, IfSome, refl, sym, ap, subst, ◌∙◌}
use Rattle.arrayvec.specs.ArrayVec.{ArrayVec}
use Rattle.gup_tables.specs.Pool.{pool_of}
use Rattle.gup_space.specs.Space.{SpaceParts}
use Rattle.gup_spec_events.specs.Event.{run}
use Rattle.gup_spec_turns.specs.TableTurns.{grows_at}
use Rattle.gup_op_waits.specs.Doers.{HasProcess}
use Rattle.gup_op_tables.specs.Alike.{ShowsEach}
use Rattle.gup_op_tables.specs.Released.{OwnsAt}
use Rattle.gup_op_tables.specs.Spots.{spot_of}
use Rattle.gup_op_tables.proofs.Released.{there}
use Rattle.gup_op_tables.proofs.Replaced.{written_back}
use Rattle.gup_op_tables.proofs.Turns.{no_growth, growth_is, has_page, taken_length, all_owned}
use Rattle.gup_op_tables.proofs.parts.grow_for.Goals as goal

pub returns-in_default-clause-leads : goal.returns-in_default-clause-leads
returns-in_default-clause-leads c s who k own of_who far shown place stands born pool =
    let none : HasProcess c.args.op.now → ⊥ = λ has. let never : false ≡ true = sym (ap is_some c.in_default.is) ∙ c.requires.process has in absurd (cc never) in
    let is = growth_is s who c.args.actor who.proc k c.args.op.now None born own refl (sym (no_growth s c.args.actor who.proc k c.args.op.now none)) in
    rw is (pool, shown.spaces)

pub grow-requires-clause-own : goal.grow-requires-clause-own
grow-requires-clause-own c =
    subst (λ (xs : List SpaceParts). IfSome c.page_to_grow-at.result (λ x. OwnsAt xs x.proc (pool_of c.args.pool.now))) (sym c.deref_mut.ensures.value)
    (all_owned c.args.parts.now.spaces.items (pool_of c.args.pool.now) c.requires.owned c.page_to_grow-at.result)

pub returns-clause-leads : goal.returns-clause-leads
returns-clause-leads c s who k own of_who far shown place stands born pool =
    let a = c.args.actor in
    let p = c.in-Some.proc in
    let op = c.args.op.now in
    let spaces = c.args.parts.now.spaces in
    let was = c.deref_mut.ensures.value in
    let many = c.grow.ensures.many ∙ ap length was in
    let back = sym (written_back spaces.items c.grow.new.spaces spaces.len (sym c.deref_mut.ensures.len ∙ ap length was) many) in
    let pages : (x : ArrayVec ℕ) × (slice_get c.args.parts.now.taken.items a ≡ Some x) = there c.args.parts.now.taken.items a c.requires.taken in
    let got : c.pages_taken-got.result ≡ length (s.taken a) = c.pages_taken-got.ensures pages.0 pages.1 ∙ ap length (sym (shown.taken a pages.0 pages.1)) ∙ taken_length (s.taken a) in
    let proc : who.proc ≡ p = (rw c.in-Some.is at of_who).1 in
    let at : spot_of c.page_to_grow-at.result ≡ _ =
    c.page_to_grow-at.ensures.spot s a k (shown.spaces p c.space_at.result.now c.space_at.ensures) place got far (has_page s a p k c.pages_taken-got.result _ op c.requires.op got place (rw proc at stands)) in
    let is = growth_is s who a p k op (spot_of c.page_to_grow-at.result) born own proc at in
    let led = c.grow.ensures.leads s a pool (subst (λ (xs : List SpaceParts). ShowsEach xs s) (sym was) shown.spaces) in
    rw is (led.0, subst (λ (xs : List SpaceParts). ShowsEach xs (run s (grows_at s a (spot_of c.page_to_grow-at.result)))) back led.1)
