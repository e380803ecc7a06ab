use Rattle.std.proofs.Common.{◌≡◌, ◌+◌, ◌≤◌, refl, ap, ◌∙◌, inl, inr, arith}
use Rattle.gup_script.specs.declared.op.Op.{Op}
use Rattle.gup_op_waits.specs.Seats.{far_behind}
use Rattle.gup_op_waits.proofs.Far.{far_below}
use Rattle.gup_op_waits.proofs.seats.far_of.Goals as goal

pub overflow_add-result : goal.overflow_add-result
overflow_add-result c =
    let far = c.args.far in
    let below = far_below c.args.op.now far c.requires.op c.requires.far in
    let fits : (op : Op) → c.args.op.now ≡ op → far_behind op far ≡ far + 1 → far + 1 ≤ 1024 =
    λ op is one. let more : far_behind c.args.op.now far ≡ far + 1 = ap (λ (x : Op). far_behind x far) is ∙ one in omega (arith, below, more) in
    elim c.in-Unmap.is [
      | inl unmap ↦ let few = fits _ unmap.2 refl in omega arith
      | inr other ↦
          elim other [
            | inl discard ↦ let few = fits _ discard.2 refl in omega arith
            | inr rest ↦
                elim rest [
                  | inl pin ↦ let few = fits _ pin.5 refl in omega arith
                  | inr transfer ↦ let few = fits _ transfer.4 refl in omega arith
                ]
          ]
    ]
