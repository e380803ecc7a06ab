use Rattle.std.proofs.Common.{◌≡◌, ℕ, Option, Some, None, sym, ap, ◌∙◌, subst, inl, inr}
use Rattle.gup_spec_turns.specs.Waits.{waits_born}
use Rattle.gup_op_waits.specs.declared.births.Birth.{Birth}
use Rattle.gup_op_waits.specs.declared.births.Birth.TheVariants.{Growing}
use Rattle.gup_op_waits.specs.Doers.{IsProcessOf}
use Rattle.gup_op_waits.specs.Stands.{StandsAt}
use Rattle.gup_op_waits.specs.Parts.{IsBirth}
use Rattle.gup_op_waits.proofs.Waits.{unborn_waits, growing_waits, born_waits, failed_waits, other_waits, take_waits, lock_waits}
use Rattle.gup_op_waits.proofs.locks.waits_for.Goals as goal
use Rattle.gup_op_waits.proofs.locks.waits_for.Goals.{in-Some+in-Born, in_default}

pub returns-in-Unborn : goal.returns-in-Unborn
returns-in-Unborn c s who far shown actor of_who fits place at =
    let op = c.args.op.now in
    let p = c.in-Some.proc in
    let of_p : IsProcessOf who (Some p) = subst (λ (o : Option ℕ). IsProcessOf who o) c.in-Some.is of_who in
    let birth : IsBirth c.birth_of.result (s.birth p) = shown.births p c.birth_of.result c.birth_of.ensures in
    elim c.in-Unborn.is [
      | inl is ↦ unborn_waits s who far op p of_p.0 of_p.1 (subst (λ (b : Birth). IsBirth b (s.birth p)) is birth)
      | inr is ↦
          let grows : IsBirth Growing (s.birth p) = subst (λ (b : Birth). IsBirth b (s.birth p)) is birth in
          growing_waits s who far op p grows.0 of_p.0 of_p.1 grows.1
    ]

pub returns-in-Failed : goal.returns-in-Failed
returns-in-Failed c s who far shown actor of_who fits place at =
    let op = c.args.op.now in
    let p = c.in-Some.proc in
    let of_p : IsProcessOf who (Some p) = subst (λ (o : Option ℕ). IsProcessOf who o) c.in-Some.is of_who in
    let birth : IsBirth c.birth_of.result (s.birth p) = shown.births p c.birth_of.result c.birth_of.ensures in
    failed_waits s who far op p of_p.0 of_p.1 (subst (λ (b : Birth). IsBirth b (s.birth p)) c.in-Failed.is birth)

pub returns-in-Take-default : goal.returns-in-Take-default
returns-in-Take-default c s who far shown actor of_who fits place at =
    let op = c.args.op.now in
    let first = c.waits_for_pin.ensures s shown.pins ∙ take_waits s c.args.actor who.proc far c.in-Take-default.handle op c.in-Take-default.is-0 ∙ ap (λ b. waits_born s b who.proc far op) (sym actor) in
    elim c.match-proc.branch [
      | in-Some+in-Born w ↦
          let p = w.in-Some.proc in
          let of_p : IsProcessOf who (Some p) = subst (λ (o : Option ℕ). IsProcessOf who o) w.in-Some.is of_who in
          let birth : IsBirth w.birth_of.result (s.birth p) = shown.births p w.birth_of.result w.birth_of.ensures in
          first ∙ born_waits s who far op p of_p.0 of_p.1 (subst (λ (b : Birth). IsBirth b (s.birth p)) w.in-Born.is birth)
      | in_default w ↦ first ∙ other_waits s who far op (subst (λ (o : Option ℕ). IsProcessOf who o) w.in_default.is of_who)
    ]

pub returns-in_default-Some : goal.returns-in_default-Some
returns-in_default-Some c s who far shown actor of_who fits place at =
    let op = c.args.op.now in
    let a = c.args.actor in
    let q = c.in_default-Some.proc in
    elim c.match-proc.branch [
      | in-Some+in-Born w ↦
          let p = w.in-Some.proc in
          let found : Some q ≡ Some p = sym c.in_default-Some.is-1 ∙ w.proc-is in
          let same : q ≡ p = cc found in
          let of_p : IsProcessOf who (Some p) = subst (λ (o : Option ℕ). IsProcessOf who o) w.in-Some.is of_who in
          let birth : IsBirth w.birth_of.result (s.birth p) = shown.births p w.birth_of.result w.birth_of.ensures in
          let own : q ≡ who.proc = same ∙ sym of_p.1 in
          c.waits_for_holders.ensures s far shown.spaces fits place (subst (λ (k : ℕ). StandsAt s a k far op) (sym own) at)
          ∙ lock_waits s a q far op c.in_default-Some.not-Take-0
          ∙ ap (λ k. waits_born s k q far op) (sym actor)
          ∙ ap (λ k. waits_born s who.actor k far op) own
          ∙ born_waits s who far op p of_p.0 of_p.1 (subst (λ (b : Birth). IsBirth b (s.birth p)) w.in-Born.is birth)
      | in_default w ↦
          let found : Some q ≡ None = sym c.in_default-Some.is-1 ∙ w.proc-is ∙ w.in_default.is in
          absurd (cc found)
    ]
