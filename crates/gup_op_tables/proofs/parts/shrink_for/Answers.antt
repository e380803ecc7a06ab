use Rattle.std.proofs.Common.{◌≡◌, true, false, List, [], length, IfSome, sym, ap, subst, ◌∙◌}
use Rattle.gup_tables.specs.Pool.{pool_of}
use Rattle.gup_space.specs.Space.{SpaceParts}
use Rattle.gup_spec_events.specs.Event.{run}
use Rattle.gup_plain.specs.Event.{page_numbers}
use Rattle.gup_spec_turns.specs.TableTurns.{retires_at, retires_mapped}
use Rattle.gup_op_tables.specs.Alike.{ShowsEach}
use Rattle.gup_op_tables.specs.Released.{OwnsAt}
use Rattle.gup_op_tables.specs.Spots.{spot_of}
use Rattle.gup_op_tables.specs.Turns.{shrinks_to}
use Rattle.gup_op_tables.proofs.Replaced.{written_back}
use Rattle.gup_op_tables.proofs.Turns.{all_owned, kept_child, failed_child}
use Rattle.gup_op_tables.proofs.parts.shrink_for.Goals as goal
use Rattle.gup_op_tables.proofs.parts.shrink_for.Goals.{in-Failed, in_default-matches}

pub retire-requires-clause-own : goal.retire-requires-clause-own
retire-requires-clause-own c =
    subst (λ (xs : List SpaceParts). IfSome c.args.down (λ x. OwnsAt xs x.proc (pool_of c.args.pool.now))) (sym c.deref_mut.ensures.value)
    (all_owned c.args.parts.now.spaces.items (pool_of c.args.pool.now) c.requires.owned c.args.down)

pub returns-in_default-clause-leads : goal.returns-in_default-clause-leads
returns-in_default-clause-leads c u a shown pool =
    let spaces = c.args.parts.now.spaces in
    let was = c.deref_mut.ensures.value in
    let back = sym (written_back spaces.items c.retire.new.spaces spaces.len (sym c.deref_mut.ensures.len ∙ ap length was) (c.retire.ensures.many ∙ ap length was)) in
    let led = c.retire.ensures.leads u a pool (subst (λ (xs : List SpaceParts). ShowsEach xs u) (sym was) shown.spaces) in
    rw c.in_default.is (led.0, subst (λ (xs : List SpaceParts). ShowsEach xs (run u (retires_at u a (spot_of c.args.down)))) back led.1)

pub returns-in_default-proc-clause-leads : goal.returns-in_default-proc-clause-leads
returns-in_default-proc-clause-leads c u a shown pool = rw (c.in-Some.is, c.in_default-proc.is) (pool, shown.spaces)

pub release-requires-clause-own : goal.release-requires-clause-own
release-requires-clause-own c =
    subst (λ (xs : List SpaceParts). OwnsAt xs c.in-Some.child (pool_of c.args.pool.now)) (sym c.deref_mut-then-matches.ensures.value) (λ space here. c.requires.owned c.in-Some.child space here)

pub returns-then-matches-clause-leads : goal.returns-then-matches-clause-leads
returns-then-matches-clause-leads c u a shown pool =
    let child = c.in-Some.child in
    let p = c.in-Some-proc.parent in
    let spaces = c.args.parts.now.spaces in
    let was = c.deref_mut-then-matches.ensures.value in
    let back = sym (written_back spaces.items c.release.new.spaces spaces.len (sym c.deref_mut-then-matches.ensures.len ∙ ap length was) (c.release.ensures.many ∙ ap length was)) in
    let led = c.release.ensures.leads u a pool (subst (λ (xs : List SpaceParts). ShowsEach xs u) (sym was) shown.spaces) in
    let bears = shown.births child c.birth_of.result c.birth_of.ensures in
    let all = failed_child c.birth_of.result (u.birth child) (retires_mapped u a child (u.right p) 0 page_numbers) bears
    (elim c.match-matches.branch [ in-Failed w ↦ w.in-Failed.is | in_default-matches w ↦ (let both : false ≡ true = sym w.matches-is ∙ c.if-matches.true in absurd (cc both)) ]) in
    let is : shrinks_to u a c.args.proc c.args.down c.args.forks ≡ retires_mapped u a child (u.right p) 0 page_numbers = rw (c.in-Some.is, c.in-Some-proc.is) all in
    rw is (led.0, subst (λ (xs : List SpaceParts). ShowsEach xs (run u (retires_mapped u a child (u.right p) 0 page_numbers))) back led.1)

pub returns-else-matches-clause-leads : goal.returns-else-matches-clause-leads
returns-else-matches-clause-leads c u a shown pool =
    let child = c.in-Some.child in
    let p = c.in-Some-proc.parent in
    let bears = shown.births child c.birth_of.result c.birth_of.ensures in
    let none = kept_child c.birth_of.result (u.birth child) (retires_mapped u a child (u.right p) 0 page_numbers) bears
    (λ e. elim c.match-matches.branch [ in-Failed w ↦ (let both : true ≡ false = sym w.matches-is ∙ c.if-matches.false in absurd (cc both)) | in_default-matches w ↦ w.in_default-matches.not-Failed e ]) in
    let is : shrinks_to u a c.args.proc c.args.down c.args.forks ≡ [] = rw (c.in-Some.is, c.in-Some-proc.is) none in
    rw is (pool, shown.spaces)
