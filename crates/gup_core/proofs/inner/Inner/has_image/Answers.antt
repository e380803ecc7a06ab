use Rattle.std.proofs.Common.{◌≡◌, List, sym, subst, ◌∙◌}
use Rattle.gup_image.specs.declared.fact.Fact.{Fact}
use Rattle.gup_image.specs.Alike.{image_in}
use Rattle.gup_core.specs.Images.{IsImage, imaged}
use Rattle.gup_core.specs.Machine.{MachineValue, machine_of}
use Rattle.gup_core.specs.Rest.{IsAtRest}
use Rattle.gup_core.proofs.Images.{tables_within}
use Rattle.gup_core.proofs.inner.Inner.has_image.Goals as goal

pub returns : goal.returns
returns c =
    let i = c.self.inside in
    let m = machine_of i.script i.parts i.mirrors i.seats.items i.pool i.turns in
    let rest = subst (λ (x : MachineValue). IsAtRest x) (sym c.self.view_is) c.rests.ensures in
    subst (λ (x : MachineValue). (facts : List Fact) → facts ≡ image_in (imaged x) → IsImage x facts) c.self.view_is
    (λ facts is. record {
      machine = c.self.invariant;
      whole = record {
        more = c.is_whole.ensures;
        births = c.self.invariant.parts.births ∙ sym c.self.invariant.parts.spaces;
        numbered = λ p space here. (rest.tidy p space here).numbered;
        mapped = λ p space here. (rest.tidy p space here).mapped;
        tables = tables_within m c.self.invariant rest.valid c.reached_states_stand.ensures;
      };
      all = is;
    })
