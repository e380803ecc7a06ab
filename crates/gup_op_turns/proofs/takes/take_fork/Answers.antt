use Rattle.std.proofs.Common.{◌≡◌, ℕ, List, length, slice_get, Some, refl, sym, ap, ◌∙◌, subst}
use Rattle.std.specs.Vec.{with_items}
use Rattle.gup_script.specs.declared.op.Op.TheVariants.{Fork}
use Rattle.gup_space.specs.Space.{SpaceParts}
use Rattle.gup_op_waits.specs.declared.births.Birth.{Birth}
use Rattle.gup_op_base.specs.declared.jobs.JobPlace.{JobPlace}
use Rattle.gup_op_base.specs.Said.{whats_of}
use Rattle.gup_op_waits.specs.declared.parts.Parts.{Parts}
use Rattle.gup_op_tables.proofs.Replaced.{written_back}
use Rattle.gup_op_turns.proofs.Turning.{IsForkTurns, IsTurnAmong, forked}
use Rattle.gup_op_turns.proofs.takes.take_fork.Goals as goal

pub returns-clause-turn : goal.returns-clause-turn
returns-clause-turn c =
    let a = c.args in
    let actor = a.head.now.actor in
    let old = a.parts.now in
    let t = c.fork_two-forked in
    let told = t.ensures.turn in
    let was = c.deref_mut.ensures.value in
    let new : Parts =
    record {
      frames = t.new.frames;
      spaces = with_items old.spaces t.new.spaces;
      births = c.set_birth.new.births;
      handles = old.handles;
      taken = old.taken;
      stores = old.stores;
    } in
    let many = t.ensures.many ∙ ap length was in
    let back = sym (written_back old.spaces.items t.new.spaces old.spaces.len (sym c.deref_mut.ensures.len ∙ ap length was) many) in
    let others = subst (λ (xs : List SpaceParts). (q : ℕ) → (q ≡ a.proc → ⊥) → (q ≡ a.child → ⊥) → slice_get xs q ≡ slice_get old.spaces.items q) back
    (subst (λ (xs : List SpaceParts). (q : ℕ) → (q ≡ a.proc → ⊥) → (q ≡ a.child → ⊥) → slice_get t.new.spaces q ≡ slice_get xs q) was t.ensures.others) in
    let turn = subst (λ (xs : List SpaceParts). IsForkTurns old.frames t.new.frames old.spaces.items xs actor a.proc a.child a.job.now t.result (whats_of told.said)) back
    (subst (λ (xs : List SpaceParts). IsForkTurns old.frames t.new.frames xs t.new.spaces actor a.proc a.child a.job.now t.result (whats_of told.said)) was told.is_so) in
    record {
      said = told.said;
      tells = told.tells;
      ends = c.goes_on.ensures.over ∙ told.ends;
      is_so = λ slots k rest left.
          subst (λ (next : JobPlace). IsTurnAmong old new actor a.proc slots 0 (Fork a.child) a.job.now (whats_of told.said) next) (sym c.goes_on.ensures.place)
          (forked old new actor a.proc a.child slots 0 a.job.now t.result (whats_of told.said)
          c.requires.fork.apart c.requires.there c.requires.fork.there (ap length (sym back) ∙ many) refl refl refl others turn
          (c.set_birth.ensures.here ∙ ap (λ (b : Birth). Some b) c.birth_of.ensures) c.set_birth.ensures.others)
          k rest left refl;
    }
